use Rattle.std.proofs.Common.{◌≡◌, List, Option, Some, ℕ, ap, ◌∙◌}
use Rattle.std.specs.Map.{update}
use Rattle.std.specs.Str.{bytes_eq}
use Rattle.std.specs.BTreeMap.{get_by_text}
use Rattle.std.specs.Prelude.{string_bytes}
use Rattle.std.proofs.lemmas.Map.Text.{btree_map_updates_text}
use Rattle.sq_value.specs.Name.{lower}
use Rattle.sq_bind.specs.Ordered.{meant_with, meant_among}
use Rattle.sq_bind.specs.declared.output.Meant.{Meant}
use Rattle.sq_bind.proofs.OrderLemmas.{held_at, more_cells}
use Rattle.sq_bind.proofs.output.put_cell.Goals as goal

pub returns : goal.returns
returns c front long held =
    let old = c.args.names.now in
    let new = c.insert.new.self in
    let cell = c.args.cell.now in
    let place = c.args.place in
    let key = c.in_ok-lower.lower in
    let bytes : string_bytes key ≡ lower cell.name = c.in_ok-lower.ensures.ok ∙ ap lower c.as_str.ensures in
    let low = c.as_str-2.ensures.value ∙ bytes in
    let known : c.meaning.result ≡ meant_among cell.name front = c.meaning.ensures ∙ held_at old.entries front cell.name _ held low in
    let with : c.meant_with-with.result ≡ meant_with place (meant_among cell.name front) cell =
    c.meant_with-with.ensures ∙ ap (λ (k : Option Meant). meant_with place k cell) known in
    let put = λ (q : List ℕ). btree_map_updates_text (string_bytes key) old new (Some c.meant_with-with.result) c.in_ok-insert.ensures.updates q
    ∙ ap (λ (m : Meant). update bytes_eq (get_by_text old) (string_bytes key) (Some m) q) with in
    more_cells old new (string_bytes key) front cell place long bytes put held
