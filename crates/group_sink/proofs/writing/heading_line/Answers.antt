use Rattle.std.proofs.Common.{ℕ, List, ◌++◌, get_or, ap, ◌∙◌}
use Rattle.csv.specs.Writing.{default_writer, field_text}
use Rattle.sq_expr.specs.declared.shape.Cell.{Cell}
use Rattle.result_sink.proofs.TextLemmas.{line_step}
use Rattle.group_sink.proofs.writing.heading_line.Goals as goal

pub loop-index-preserved : goal.loop-index-preserved
loop-index-preserved c =
    let named = c.as_bytes.ensures.value ∙ c.as_str.ensures in
    let fields = c.in_ok-push_field.ensures ∙ ap (λ (text : List ℕ). c.push_separator.new.line.items ++ field_text default_writer text) named in
    line_step (λ (cell : Cell). cell.name) c.args.shape.now.cells c.loop-index.index c.cell-item.result _ _ _
    (rw (← c.as_slice-cell-items.ensures) c.loop-index-test.true) (c.cell-item.is ∙ ap (λ (xs : List Cell). get_or xs c.loop-index.index c.cell-item.result) c.as_slice-cell-items.ensures)
    c.loop-index.invariant c.in_ok-push_separator.ensures fields
