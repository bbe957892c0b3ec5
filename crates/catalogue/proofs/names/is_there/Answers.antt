use Rattle.std.proofs.Common.{◌≡◌, ℕ, ◌+◌, Bool, true, false, List, drop, sym, ap, ◌∙◌, Global}
use Rattle.std.specs.Prelude.{◌||◌, String, string_bytes}
use Rattle.std.specs.List.{list_any}
use Rattle.std.specs.Str.{bytes_eq}
use Rattle.sq_value.specs.Name.{lower}
use Rattle.catalogue.proofs.ThereLemmas.{any_at}
use Rattle.catalogue.proofs.names.is_there.Goals as goal

pub returns-then-is_lower_of : goal.returns-then-is_lower_of
returns-then-is_lower_of c =
    let p = λ (known : String Global). bytes_eq (lower c.args.name.now) (string_bytes known) in
    let keys = c.args.names.now.keys in
    let i = c.loop-place.place in
    let x = c.in-Some.known.now in
    let passes : p x ≡ true =
    ap (λ (w : List ℕ). bytes_eq (lower w) (string_bytes x)) (sym c.as_bytes.ensures.value)
    ∙ ap (bytes_eq (lower c.as_bytes.result.now)) (sym c.as_bytes-in-loop-place.ensures.value) ∙ sym c.is_lower_of.ensures ∙ c.if-is_lower_of.true in
    sym (any_at p keys i x (sym c.in-Some.ensures.key) ∙ ap (λ (b : Bool). b || list_any p (drop (i + 1) keys)) passes)
    ∙ c.loop-place.invariant

pub loop-place-preserved : goal.loop-place-preserved
loop-place-preserved c =
    let p = λ (known : String Global). bytes_eq (lower c.args.name.now) (string_bytes known) in
    let keys = c.args.names.now.keys in
    let i = c.loop-place.place in
    let x = c.in-Some.known.now in
    let fails : p x ≡ false =
    ap (λ (w : List ℕ). bytes_eq (lower w) (string_bytes x)) (sym c.as_bytes.ensures.value)
    ∙ ap (bytes_eq (lower c.as_bytes.result.now)) (sym c.as_bytes-in-loop-place.ensures.value) ∙ sym c.is_lower_of.ensures ∙ c.if-is_lower_of.false in
    sym (any_at p keys i x (sym c.in-Some.ensures.key) ∙ ap (λ (b : Bool). b || list_any p (drop (i + 1) keys)) fails)
    ∙ c.loop-place.invariant
