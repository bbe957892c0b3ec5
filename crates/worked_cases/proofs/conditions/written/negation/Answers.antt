use Rattle.std.proofs.Common.{sym, subst}
use Rattle.sq_expr.specs.Fits.{FitsHere}
use Rattle.worked_cases.specs.SampleConditions.{IsSample, IsSampleColumn, sample_kinds}
use Rattle.sq_expr.proofs.FitLemmas.{made-Not}
use Rattle.worked_cases.proofs.conditions.written.negation.Goals as goal

pub returns : goal.returns
returns c =
    made-Not (FitsHere sample_kinds (IsSampleColumn c.args._tables.now)) _ (subst (IsSample c.args._tables.now) (sym c.in_ok-new.ensures) c.requires) tt
