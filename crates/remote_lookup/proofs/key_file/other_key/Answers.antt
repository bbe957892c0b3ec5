use Rattle.std.proofs.Common.{◌≡◌, ◌<◌, ◌∙◌, ap, sym, ℕ, ◌+◌, Bool, cond, Option, Some, length, drop, arith, rules, true, false}
use Rattle.remote_lookup.specs.KeyFiles as spec
use Rattle.remote_lookup.proofs.TableLemmas.{other_at}
use Rattle.remote_lookup.proofs.key_file.other_key.Goals as goal

pub returns-then-not-is_that_integer : goal.returns-then-not-is_that_integer
returns-then-not-is_that_integer c =
    let t = c.args.table.now in
    let i : ℕ = c.loop-row.row in
    let low : i < length t.rows = omega (arith, c.loop-row-test.true, c.loop-row.auto.row-end, c.rows-row-end.ensures.count) in
    let not' : spec.is_that_integer c.args.at.key (Some c.value.result.now) ≡ false = sym c.is_that_integer.ensures ∙ search rules in
    let step = other_at t i c.args.column c.args.at.key c.value.result.now low c.value.ensures.value in
    let found : spec.other_key c.args.column c.args.at.key (i + 1) (drop i t.rows) ≡ Some (i + 1) =
    step ∙ ap (λ (b : Bool). let r : Option ℕ = cond b (spec.other_key c.args.column c.args.at.key (i + 1 + 1) (drop (i + 1) t.rows)) (Some (i + 1)) in r) not' in
    sym found ∙ c.loop-row.invariant

pub loop-row-preserved : goal.loop-row-preserved
loop-row-preserved c =
    let t = c.args.table.now in
    let i : ℕ = c.loop-row.row in
    let low : i < length t.rows = omega (arith, c.loop-row-test.true, c.loop-row.auto.row-end, c.rows-row-end.ensures.count) in
    let is : spec.is_that_integer c.args.at.key (Some c.value.result.now) ≡ true = sym c.is_that_integer.ensures ∙ search rules in
    let step = other_at t i c.args.column c.args.at.key c.value.result.now low c.value.ensures.value in
    let more : spec.other_key c.args.column c.args.at.key (i + 1) (drop i t.rows) ≡ spec.other_key c.args.column c.args.at.key (i + 1 + 1) (drop (i + 1) t.rows) =
    step ∙ ap (λ (b : Bool). let r : Option ℕ = cond b (spec.other_key c.args.column c.args.at.key (i + 1 + 1) (drop (i + 1) t.rows)) (Some (i + 1)) in r) is in
    sym more ∙ c.loop-row.invariant
