use Rattle.std.proofs.Common.{ℕ, List, ◌++◌, ap, ◌∙◌}
use Rattle.sq_parse.specs.declared.tree.Source.{Source}
use Rattle.sq_bind.proofs.PlaceLemmas.{both_places, join_places, seen_places}
use Rattle.sq_bind.proofs.part.places_of.Goals as goal

pub returns : goal.returns
returns c calls aliases =
    let s = c.args.statement.now in
    let last = seen_places calls aliases s.condition in
    let joins = c.in_ok-push_join_places.ensures calls aliases
    ∙ ap (λ (xs : List ℕ). xs ++ join_places calls aliases 0 c.as_slice.result.now) c.new-places.ensures.items
    ∙ ap (λ (ss : List Source). join_places calls aliases 0 ss) c.as_slice.ensures in
    c.in_ok-push_seen_places.ensures calls aliases ∙ ap (λ (xs : List ℕ). xs ++ last) joins ∙ both_places calls aliases s
