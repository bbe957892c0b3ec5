use Rattle.std.proofs.Common.{subst, map}
use Rattle.eddy_query.specs.Fitted.{Fitted}
use Rattle.eddy_core.specs.Answer.{as_mark}
use Rattle.eddy_runs.specs.Recorded.{IsRecorded}
use Rattle.run_answers.proofs.AnswerLemmas.{apart_found}
use Rattle.run_cases.proofs.whole.engine.written_of.Goals as goal

pub in_order-requires-clause-apart : goal.in_order-requires-clause-apart
in_order-requires-clause-apart g c =
    let gives = g.P.Predicates.gives in
    let a = c.in_ok-answered.answered in
    let recorded =
    subst (λ (q : Fitted _). IsRecorded gives q.block q.tables a.combos.items a.built.items (map as_mark a.looked.items) a.most_hops) c.new-query.ensures
    c.in_ok-answered.ensures.recorded in
    apart_found gives c.args.bound.now.block c.args.tables.now a.combos.items recorded.bag
