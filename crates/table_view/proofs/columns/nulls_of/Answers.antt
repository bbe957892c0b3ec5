use Rattle.std.proofs.Common.{◌≡◌, true, false, refl, ap, sym, ◌∙◌, arith}
use Rattle.sq_value.specs.Relation.{cell}
use Rattle.table_view.specs.Columns.{is_null, nulls}
use Rattle.table_view.proofs.NullLemmas.{null_more, nulls_within}
use Rattle.table_view.proofs.columns.nulls_of.Goals as goal
use Rattle.table_view.proofs.columns.nulls_of.Goals.{then-is_null, else-is_null}

pub loop-row-init : goal.loop-row-init
unfolding nulls
loop-row-init c = refl

pub loop-row-preserved : goal.loop-row-preserved
loop-row-preserved c =
    let table = c.args.table.now in
    let column = c.args.column in
    let row = c.loop-row.row in
    let told : is_null (cell table row column) ≡ c.is_null.result = ap is_null c.value.ensures.value ∙ sym c.is_null.ensures in
    let low = nulls_within table column row in
    elim c.if-is_null.branch [
      | then-is_null w ↦
          rw w.nulls-is (omega (arith, w.saturating_add-nulls.ensures, c.loop-row.invariant, low, c.loop-row-test.true, c.rows-row-end.type_inv, null_more table column row true (told ∙ w.if-is_null.true)))
      | else-is_null w ↦
          rw w.nulls-is (omega (arith, c.loop-row.invariant, null_more table column row false (told ∙ w.if-is_null.false)))
    ]
