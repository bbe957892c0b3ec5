use Rattle.sq_expr.specs.Fits.{FitsHere}
use Rattle.worked_cases.specs.SampleConditions.{IsSampleColumn, sample_kinds, class_named}
use Rattle.sq_expr.proofs.FitLemmas.{made-Compare}
use Rattle.worked_cases.proofs.conditions.written.comparing.Goals as goal

pub returns : goal.returns
returns c =
    made-Compare (FitsHere sample_kinds (IsSampleColumn c.args.tables.now)) _ _ _ (class_named c.args.how.1, (c.in_ok-left.ensures, c.in_ok-right.ensures))
