use Rattle.std.proofs.Common.{All, sym, subst}
use Rattle.std.proofs.lemmas.List.Elements.{All-nil}
use Rattle.sq_expr.specs.Fits.{FitsHere}
use Rattle.worked_cases.specs.SampleConditions.{IsSample, IsSampleColumn, sample_kinds}
use Rattle.sq_expr.proofs.FitLemmas.{made-Any}
use Rattle.worked_cases.proofs.conditions.written.any_of_none.Goals as goal

pub returns : goal.returns
returns c =
    let fits = IsSample c.args._tables.now in
    made-Any (FitsHere sample_kinds (IsSampleColumn c.args._tables.now)) _ (subst (All fits) (sym c.new.ensures) (All-nil fits)) tt
