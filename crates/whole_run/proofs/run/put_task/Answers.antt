use Rattle.run_answers.proofs.BundleLemmas.{answers_each, answers_all_together}
use Rattle.whole_run.specs.Outcome.{items_of, task_text}
use Rattle.whole_run.proofs.run.put_task.Goals as goal

pub returns-then-engine : goal.returns-then-engine
returns-then-engine g c =
    answers_all_together c.args.engine.now.settings.now.shared c.args.engine.now.settings.now.tally c.args.engine.now.settings.now.cache g.P.Predicates.gives
    (items_of c.args.plan) (task_text c.args.task.now g.P.Predicates.gives) _ _ c.put_together.result c.if-engine.true c.put_together.ensures

pub returns : goal.returns
returns g c =
    answers_each c.args.engine.now.settings.now.shared c.args.engine.now.settings.now.tally c.args.engine.now.settings.now.cache g.P.Predicates.gives
    (items_of c.args.plan) (task_text c.args.task.now g.P.Predicates.gives) _ _ c.put_each.result c.if-engine.false c.put_each.ensures
