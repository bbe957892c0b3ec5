use Rattle.std.proofs.Common.{sym, ◌∙◌}
use Rattle.table_view.proofs.FirstLemmas.{comparable_at, first_keeps, first_one, first_takes}
use Rattle.table_view.proofs.columns.first_of.Goals as goal
use Rattle.table_view.proofs.columns.first_of.Goals.{then-is_before, else-is_before}

pub loop-row-init : goal.loop-row-init
loop-row-init c =
    (first_one c.args.way c.args.table.now c.args.column c.value-first.result.now c.value-first.ensures.value, c.value-first.ensures.kind)

pub is_before-requires : goal.is_before-requires
is_before-requires c =
    comparable_at c.args.table.now.columns c.args.column c.value-value.result.now c.loop-row.first.now c.requires c.value-value.ensures.kind
    c.loop-row.invariant.1

pub loop-row-preserved : goal.loop-row-preserved
loop-row-preserved c =
    let table = c.args.table.now in
    let column = c.args.column in
    let value = c.value-value.result.now in
    let first = c.loop-row.first.now in
    elim c.if-is_before.branch [
      | then-is_before w ↦
          rw w.first-is (
            first_takes c.args.way table column c.loop-row.row first value c.loop-row.invariant.0 c.value-value.ensures.value
                (sym c.is_before.ensures ∙ w.if-is_before.true),
            c.value-value.ensures.kind,
          )
      | else-is_before w ↦
          rw w.first-is (
            first_keeps c.args.way table column c.loop-row.row first value c.loop-row.invariant.0 c.value-value.ensures.value
                (sym c.is_before.ensures ∙ w.if-is_before.false),
            c.loop-row.invariant.1,
          )
    ]
