use Rattle.std.proofs.Common.{[], ◌∷◌, refl}
use Rattle.run_base.specs.Items.{item_over}
use Rattle.run_answers.specs.Tally.{IsTally}
use Rattle.run_answers.specs.Text.{item_text}
use Rattle.run_answers.proofs.TallyLemmas.{one_unwritten, one_behind, one_through}
use Rattle.run_answers.proofs.answering.put_separated.Goals as goal

pub returns-in_err-put_empty_line : goal.returns-in_err-put_empty_line
returns-in_err-put_empty_line g c =
    let item = item_over c.args.tables.now c.args.bound.now in
    rw (← c.outputs.view_is) (one_through c.args.engine.now.settings.now.tally (IsTally c.args.engine.now.settings.now.cache g.P.Predicates.gives) c.args.number item _ _ _
    c.from_residual.result c.in_err-put_empty_line.field-0.0 c.from_residual.ensures.1
    (one_unwritten c.args.engine.now.settings.now.tally (IsTally c.args.engine.now.settings.now.cache g.P.Predicates.gives) c.args.number item (10 ∷ [])
    (item_text g.P.Predicates.gives item) _ _ c.put_empty_line.result c.in_err-put_empty_line.field-0.0 c.in_err-put_empty_line.was
    c.put_empty_line.ensures.output refl c.put_empty_line.ensures.wrote))

pub returns : goal.returns
returns g c =
    let item = item_over c.args.tables.now c.args.bound.now in
    rw (← c.outputs.view_is) (one_behind c.args.engine.now.settings.now.tally (IsTally c.args.engine.now.settings.now.cache g.P.Predicates.gives) c.args.number item (10 ∷ [])
    (item_text g.P.Predicates.gives item) _ _ _ c.put_empty_line.result c.put_answer.result c.in_ok-put_empty_line.was refl
    c.put_empty_line.ensures.wrote c.put_answer.ensures)
