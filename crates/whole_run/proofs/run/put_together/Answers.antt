use Rattle.std.proofs.Common.{[], ◌∷◌, List, ap}
use Rattle.sq_value.specs.Relation.{Relation}
use Rattle.run_base.specs.Items.{Item, items_over}
use Rattle.run_answers.specs.Together.{IsSharedTally, in_bundles}
use Rattle.whole_run.proofs.TaskLemmas.{answers_task}
use Rattle.whole_run.proofs.run.put_together.Goals as goal

pub returns-in-Query : goal.returns-in-Query
returns-in-Query g c =
    answers_task c.args.engine.now.settings.now.tally (IsSharedTally g.P.Predicates.gives) g.P.Predicates.gives (λ (bundles : List (List Item)). in_bundles bundles) _ _
    c.args.task.now _ _ _ c.put_answers_together.result c.in-Query.is
    (ap (λ (ts : List Relation). items_over ts c.args.plan.statements ∷ []) c.tables-tables.ensures) c.put_answers_together.ensures

pub returns : goal.returns
returns g c =
    answers_task c.args.engine.now.settings.now.tally (IsSharedTally g.P.Predicates.gives) g.P.Predicates.gives (λ (bundles : List (List Item)). in_bundles bundles) _ _
    c.args.task.now _ _ _ c.put_summary_together.result c.in-Demo.is
    (ap (λ (ts : List Relation). items_over ts c.args.plan.statements ∷ []) c.tables-tables.ensures) c.put_summary_together.ensures
