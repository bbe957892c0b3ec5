use Rattle.std.proofs.Common.{ℕ, [], ◌∷◌, ◌++◌, ap, ◌∙◌}
use Rattle.sq_bind.proofs.conjunct.push_whole_place.Goals as goal

pub returns : goal.returns
returns c calls aliases =
    c.in_ok-push.ensures.items ∙ ap (λ (at : ℕ). c.args.places.now.items ++ (at ∷ [])) (c.place_of.ensures calls aliases)
