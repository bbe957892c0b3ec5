use Rattle.std.proofs.Common.{List, subst, ap}
use Rattle.std.specs.Prelude.{All}
use Rattle.std.proofs.lemmas.List.Elements.{All-head, All-tail}
use Rattle.run_base.specs.Items.{item_over, items_over}
use Rattle.run_base.specs.Runnable.{IsRunnable}
use Rattle.run_base.specs.declared.bound.Bound.{Bound}
use Rattle.run_answers.specs.Tally.{IsTally}
use Rattle.run_answers.proofs.ItemLemmas.{items_none}
use Rattle.run_answers.proofs.ProgressLemmas.{answers_through}
use Rattle.run_answers.proofs.TextLemmas.{answers_none, answers_all, answers_first}
use Rattle.run_answers.proofs.answering.put_answers.Goals as goal

pub returns-in_default : goal.returns-in_default
returns-in_default g c =
    answers_none c.args.engine.now.settings.now.tally g.P.Predicates.gives (items_over c.args.tables.now c.args.bounds.now) _
    (items_none c.args.tables.now c.args.bounds.now c.in_default.ensures.cases)

pub put_answer-requires-clause-runs : goal.put_answer-requires-clause-runs
put_answer-requires-clause-runs g c κs within =
    All-head (IsRunnable (g.P.Predicates.kinds_of c.args.engine.now.functions.now) c.args.tables.now) c.in-Some.first.now c.in-Some.more.now
    (subst (λ (bs : List Bound). All (IsRunnable (g.P.Predicates.kinds_of c.args.engine.now.functions.now) c.args.tables.now) bs) c.in-Some.ensures.cases.0 c.requires.run)

pub put_more-requires-clause-run : goal.put_more-requires-clause-run
put_more-requires-clause-run g c κs within =
    All-tail (IsRunnable (g.P.Predicates.kinds_of c.args.engine.now.functions.now) c.args.tables.now) c.in-Some.first.now c.in-Some.more.now
    (subst (λ (bs : List Bound). All (IsRunnable (g.P.Predicates.kinds_of c.args.engine.now.functions.now) c.args.tables.now) bs) c.in-Some.ensures.cases.0 c.requires.run)

pub returns-in_err-put_answer : goal.returns-in_err-put_answer
returns-in_err-put_answer g c =
    answers_through c.args.engine.now.settings.now.tally (IsTally c.args.engine.now.settings.now.cache g.P.Predicates.gives) 1 (items_over c.args.tables.now c.args.bounds.now) _ _ _
    c.from_residual.result c.in_err-put_answer.field-0.0 c.from_residual.ensures.1
    (answers_first c.args.engine.now.settings.now.tally g.P.Predicates.gives (items_over c.args.tables.now c.args.bounds.now)
    (item_over c.args.tables.now c.in-Some.first.now) (items_over c.args.tables.now c.in-Some.more.now) _ _ c.put_answer.result
    c.in_err-put_answer.field-0.0 (ap (items_over c.args.tables.now) c.in-Some.ensures.cases.0) c.in_err-put_answer.was c.put_answer.ensures)

pub returns : goal.returns
returns g c =
    answers_all c.args.engine.now.settings.now.tally g.P.Predicates.gives (items_over c.args.tables.now c.args.bounds.now)
    (item_over c.args.tables.now c.in-Some.first.now) (items_over c.args.tables.now c.in-Some.more.now) _ _ _ c.put_answer.result
    c.put_more.result (ap (items_over c.args.tables.now) c.in-Some.ensures.cases.0) c.in_ok-put_answer.was c.put_answer.ensures c.put_more.ensures
