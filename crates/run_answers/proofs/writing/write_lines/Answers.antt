use Rattle.std.proofs.Common.{List, None, map, ap, ◌∙◌}
use Rattle.group_sink.specs.Lines.{lines_text}
use Rattle.group_sink.specs.declared.line.Line.{Line}
use Rattle.run_base.specs.Items.{item_over}
use Rattle.run_answers.specs.Text.{bound_as}
use Rattle.run_answers.proofs.AnswerLemmas.{shaped_text-some}
use Rattle.run_answers.proofs.PutLemmas.{put_unwritten, put_written}
use Rattle.run_answers.proofs.writing.write_lines.Goals as goal

pub returns-in_default : goal.returns-in_default
returns-in_default g c =
    put_unwritten _ _ (shaped_text-some g.P.Predicates.gives (item_over c.args.statement.now.tables.now (bound_as c.args.statement.now.block.now None)) c.args.shape.now)

pub returns : goal.returns
returns g c =
    put_written _ _ _ _ c.write_report-written.result c.stopped.result c.stopped.ensures.is c.stopped.ensures.silent
    (ap (lines_text c.args.shape.now)
    (ap (λ (lines : List Line). map (λ (l : Line). l.cells) lines) c.as_slice.ensures.value ∙ c.in-Ok.ensures))
    c.write_report-written.ensures.wrote
