use Rattle.std.proofs.Common.{List, ◌++◌, get_or, ap, ◌∙◌}
use Rattle.csv.specs.Writing.{default_writer, field_text}
use Rattle.sq_expr.specs.Meaning.{value_in}
use Rattle.sq_expr.specs.declared.block.OutCol.{OutCol}
use Rattle.bag_meaning.specs.Bag.{uses_of}
use Rattle.bag_meaning.specs.Answer.{value_text}
use Rattle.result_sink.specs.Ready.{rows_of_combo}
use Rattle.sq_value.specs.declared.value.Value.{Value}
use Rattle.result_sink.proofs.TextLemmas.{line_step}
use Rattle.result_sink.proofs.record.record_line.Goals as goal

pub loop-index-preserved : goal.loop-index-preserved
loop-index-preserved c =
    let fields = c.in_ok-push_cell.ensures ∙ ap (λ (v : Value). c.push_separator.new.line.items ++ field_text default_writer (value_text v)) c.cell_of.ensures.value in
    line_step (λ (o : OutCol). value_text (value_in c.args.tables.now (uses_of c.args.block.now) (rows_of_combo c.args.block.now c.args.combo.now) record { alias = o.alias; column = o.column }))
    c.args.block.now.output c.loop-index.index c.column-item.result _ _ _
    (rw (← c.as_slice-column-items.ensures) c.loop-index-test.true) (c.column-item.is ∙ ap (λ (xs : List OutCol). get_or xs c.loop-index.index c.column-item.result) c.as_slice-column-items.ensures)
    c.loop-index.invariant c.in_ok-push_separator.ensures fields
