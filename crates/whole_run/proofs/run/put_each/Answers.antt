use Rattle.std.proofs.Common.{◌≡◌, List, ◌∙◌, ap}
use Rattle.sq_value.specs.Relation.{Relation}
use Rattle.run_base.specs.Items.{Item, items_over}
use Rattle.run_answers.specs.Tally.{IsTally}
use Rattle.whole_run.specs.Outcome.{items_of}
use Rattle.whole_run.proofs.TaskLemmas.{answers_task}
use Rattle.whole_run.proofs.run.put_each.Goals as goal

pub returns-in-Query : goal.returns-in-Query
returns-in-Query g c =
    let same : items_over c.tables-tables.result.now c.as_slice-statements.result.now ≡ items_of c.args.plan.now =
    ap (λ (ts : List Relation). items_over ts c.as_slice-statements.result.now) c.tables-tables.ensures
    ∙ ap (items_over c.args.plan.now.catalogue.tables) c.as_slice-statements.ensures in
    answers_task c.args.engine.now.settings.now.tally (IsTally c.args.engine.now.settings.now.cache g.P.Predicates.gives) g.P.Predicates.gives
    (λ (items : List Item). items) _ _ c.args.task.now _ _ _ c.put_answers.result c.in-Query.is same c.put_answers.ensures

pub returns-in-Demo : goal.returns-in-Demo
returns-in-Demo g c =
    let same : items_over c.tables-tables.result.now c.as_slice-statements.result.now ≡ items_of c.args.plan.now =
    ap (λ (ts : List Relation). items_over ts c.as_slice-statements.result.now) c.tables-tables.ensures
    ∙ ap (items_over c.args.plan.now.catalogue.tables) c.as_slice-statements.ensures in
    answers_task c.args.engine.now.settings.now.tally (IsTally c.args.engine.now.settings.now.cache g.P.Predicates.gives) g.P.Predicates.gives
    (λ (items : List Item). items) _ _ c.args.task.now _ _ _ c.put_summary.result c.in-Demo.is same c.put_summary.ensures
