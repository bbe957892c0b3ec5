use Rattle.std.proofs.Common.{◌≡◌, ◌<◌, ◌∙◌, ap, sym, ℕ, length, arith}
use Rattle.sq_value.specs.Relation.{Relation}
use Rattle.remote_lookup.specs.Asking.{IsAskedByCells}
use Rattle.remote_lookup.proofs.GrowthLemmas.{over_more}
use Rattle.remote_lookup.proofs.QueryLemmas.{element, some_one}
use Rattle.remote_lookup.proofs.asking.ask_rows.Goals as goal

pub loop-row-preserved : goal.loop-row-preserved
loop-row-preserved g c = λ t there.
    let same : c.get.result.now ≡ t = some_one (sym c.get.ensures ∙ there) in
    let row : ℕ = c.loop-row.row in
    let count = c.rows-row-end.ensures.count in
    let low : row < length t.rows = omega (arith, c.loop-row-test.true, c.loop-row.auto.row-end, count, ap (λ (r : Relation). length r.rows) same) in
    let cells = element t.rows row low in
    over_more (IsAskedByCells g.P.Predicates.gives c.args.query.now.block.now c.args.remote c.args.column) t.rows row cells.0
    c.args.asked.now c.loop-row.asked c.ask_row.new.asked cells.1 (c.loop-row.invariant t there) (c.in_ok-ask_row.ensures t cells.0 there cells.1)
