use Rattle.std.proofs.Common.{sym, subst}
use Rattle.sq_expr.specs.Fits.{FitsHere}
use Rattle.worked_cases.specs.SampleConditions.{IsSample, IsSampleColumn, sample_kinds}
use Rattle.sq_expr.proofs.FitLemmas.{made-Is}
use Rattle.worked_cases.proofs.conditions.written.question.Goals as goal

pub returns : goal.returns
returns c =
    made-Is (FitsHere sample_kinds (IsSampleColumn c.args._tables.now)) _ _ (subst (IsSample c.args._tables.now) (sym c.in_ok-new.ensures) c.requires) tt
