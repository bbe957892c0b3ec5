use Rattle.sq_value.specs.declared.value.ColType.TheVariants.{Integer}
use Rattle.sq_expr.specs.Fits.{Numbers, FitsHere}
use Rattle.worked_cases.specs.SampleConditions.{IsSampleColumn, sample_kinds}
use Rattle.sq_expr.proofs.FitLemmas.{made-IsNull}
use Rattle.worked_cases.proofs.conditions.written.tested.Goals as goal

pub returns : goal.returns
returns c = made-IsNull (FitsHere sample_kinds (IsSampleColumn c.args.tables.now)) _ (Numbers, c.in_ok-side.ensures)
