use Rattle.std.proofs.Common.{List, get_or, ap, ◌∙◌}
use Rattle.group_sink.specs.Lines.{out_text}
use Rattle.group_sink.specs.declared.line.Out.{Out}
use Rattle.result_sink.proofs.TextLemmas.{line_step}
use Rattle.group_sink.proofs.writing.record_line.Goals as goal

pub loop-index-preserved : goal.loop-index-preserved
loop-index-preserved c =
    line_step out_text c.args.shown.now.cells c.loop-index.index c.cell-item.result _ _ _
    (rw (← c.as_slice-cell-items.ensures) c.loop-index-test.true) (c.cell-item.is ∙ ap (λ (xs : List Out). get_or xs c.loop-index.index c.cell-item.result) c.as_slice-cell-items.ensures)
    c.loop-index.invariant c.in_ok-push_separator.ensures c.in_ok-push_out.ensures
