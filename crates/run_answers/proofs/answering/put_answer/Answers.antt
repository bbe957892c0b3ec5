use Rattle.std.proofs.Common.{refl}
use Rattle.run_base.specs.Items.{item_over}
use Rattle.run_answers.specs.Tally.{IsTally}
use Rattle.run_answers.proofs.AnswerLemmas.{item_text-some}
use Rattle.run_answers.proofs.TallyLemmas.{one_put, one_unfound}
use Rattle.run_answers.proofs.answering.put_answer.Goals as goal

pub returns-in-Ok : goal.returns-in-Ok
returns-in-Ok g c =
    one_put c.args.engine.now.settings.now.tally (IsTally c.args.engine.now.settings.now.cache g.P.Predicates.gives) c.args.number
    (item_over c.args.tables.now c.args.bound.now) _ _ _ _ _ c.put_found.result refl c.in-Ok.ensures.line c.put_found.ensures

pub returns-in-Err : goal.returns-in-Err
returns-in-Err g c =
    one_unfound c.args.engine.now.settings.now.tally (IsTally c.args.engine.now.settings.now.cache g.P.Predicates.gives) c.args.number
    (item_over c.args.tables.now c.args.bound.now) _ _ (item_text-some g.P.Predicates.gives (item_over c.args.tables.now c.args.bound.now))
