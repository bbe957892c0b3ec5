use Rattle.std.proofs.Common.{sym, subst}
use Rattle.run_answers.specs.Together.{IsBundleTally, bundles_of, in_bundles}
use Rattle.whole_run.specs.Ending.{RanAlone}
use Rattle.whole_run.specs.Outcome.{items_of, task_text}
use Rattle.whole_run.specs.declared.run.End.{End}
use Rattle.whole_run.proofs.RunLemmas.{plan_ended}
use Rattle.whole_run.proofs.run.run_alone.Goals as goal

pub returns : goal.returns
returns g c =
    let s = c.args.engine.now.settings.now in
    let k = plan_ended s.tally (IsBundleTally s.shared s.cache g.P.Predicates.gives) (bundles_of s.shared (items_of c.args.plan))
    (λ bundles. task_text c.args.task.now g.P.Predicates.gives (in_bundles bundles)) c.args.outputs.now c.put_task.new.outputs c.put_task.result c.put_task.ensures in
    subst (λ (e : End). RanAlone s g.P.Predicates.gives c.args.task.now c.args.plan c.args.outputs.now c.put_task.new.outputs e) (sym c.end_with.ensures) (record { out = k.0; notes = k.1 })
