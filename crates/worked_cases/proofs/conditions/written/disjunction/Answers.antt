use Rattle.std.proofs.Common.{All, [], ◌∷◌, sym, subst, ◌∙◌}
use Rattle.std.proofs.lemmas.List.Elements.{All-nil, All-cons}
use Rattle.sq_expr.specs.Fits.{FitsHere}
use Rattle.worked_cases.specs.SampleConditions.{IsSample, IsSampleColumn, sample_kinds}
use Rattle.sq_expr.proofs.FitLemmas.{made-Any}
use Rattle.worked_cases.proofs.conditions.written.disjunction.Goals as goal

pub returns : goal.returns
returns c =
    let fits = IsSample c.args._tables.now in
    let both = All-cons fits c.args.left (c.args.right ∷ []) c.requires.left (All-cons fits c.args.right [] c.requires.right (All-nil fits)) in
    made-Any (FitsHere sample_kinds (IsSampleColumn c.args._tables.now)) _ (subst (All fits) (sym (c.from_vec.ensures ∙ c.in_ok-vec.ensures.items)) both) tt
