use Rattle.std.proofs.Common.{arith}
use Rattle.worked_cases.proofs.ConditionLemmas.{FitsCond-sample, Covers-sample}
use Rattle.worked_cases.proofs.conditions.truth_of.Goals as goal

pub truth-requires-clause-fits : goal.truth-requires-clause-fits
truth-requires-clause-fits c = FitsCond-sample _ _ c.in_ok-cond.ensures

pub truth-requires-clause-covered : goal.truth-requires-clause-covered
truth-requires-clause-covered c = Covers-sample _ _ _ c.in_ok-cond.ensures c.get.ensures (omega (arith, c.rows.ensures.count))
