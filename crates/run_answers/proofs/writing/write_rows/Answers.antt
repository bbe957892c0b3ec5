use Rattle.std.proofs.Common.{List, None, map, ap, ◌∙◌}
use Rattle.bag_meaning.specs.Answer.{answer_text}
use Rattle.bag_meaning.specs.declared.combo.Combo.{Combo}
use Rattle.result_sink.specs.Ready.{rows_of_combo}
use Rattle.run_base.specs.Items.{item_over}
use Rattle.run_answers.specs.Text.{bound_as}
use Rattle.run_answers.proofs.AnswerLemmas.{plain_text-some}
use Rattle.run_answers.proofs.PutLemmas.{put_unwritten, put_written}
use Rattle.run_answers.proofs.writing.write_rows.Goals as goal

pub returns-in_default : goal.returns-in_default
returns-in_default g c =
    put_unwritten _ _ (plain_text-some g.P.Predicates.gives (item_over c.args.tables.now (bound_as c.args.block.now None)))

pub returns : goal.returns
returns g c =
    let block = c.args.block.now in
    put_written _ _ _ _ c.par_write_answer-written.result c.stopped.result c.stopped.ensures.is c.stopped.ensures.silent
    (ap (answer_text block c.args.tables.now)
    (ap (λ (cs : List Combo). map (rows_of_combo block) cs) c.as_slice-combos.ensures.value ∙ c.in-Ok.ensures))
    c.par_write_answer-written.ensures.wrote
