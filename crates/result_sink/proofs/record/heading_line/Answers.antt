use Rattle.std.proofs.Common.{ℕ, List, ◌++◌, get_or, ap, ◌∙◌}
use Rattle.csv.specs.Writing.{default_writer, field_text}
use Rattle.sq_expr.specs.declared.block.OutCol.{OutCol}
use Rattle.result_sink.proofs.TextLemmas.{line_step}
use Rattle.result_sink.proofs.record.heading_line.Goals as goal

pub loop-index-preserved : goal.loop-index-preserved
loop-index-preserved c =
    let named = c.as_bytes.ensures.value ∙ c.as_str.ensures in
    let fields = c.in_ok-push_field.ensures ∙ ap (λ (text : List ℕ). c.push_separator.new.line.items ++ field_text default_writer text) named in
    line_step (λ (o : OutCol). o.name) c.args.block.now.output c.loop-index.index c.column-item.result _ _ _
    (rw (← c.as_slice-column-items.ensures) c.loop-index-test.true) (c.column-item.is ∙ ap (λ (xs : List OutCol). get_or xs c.loop-index.index c.column-item.result) c.as_slice-column-items.ensures)
    c.loop-index.invariant c.in_ok-push_separator.ensures fields
