use Rattle.sq_expr.specs.Fits.{FitsHere}
use Rattle.worked_cases.specs.SampleConditions.{IsSampleColumn, sample_kinds}
use Rattle.sq_expr.proofs.FitLemmas.{made-Call}
use Rattle.worked_cases.proofs.conditions.written.called.Goals as goal

pub returns : goal.returns
returns c = made-Call (FitsHere sample_kinds (IsSampleColumn c.args.tables.now)) 0 _ _ (c.in_ok-first.ensures, c.in_ok-second.ensures)
