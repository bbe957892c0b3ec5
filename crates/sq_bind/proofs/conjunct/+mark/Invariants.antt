use Rattle.std.proofs.Common.{◌≡◌, List, ◌++◌, take}
use Rattle.std.specs.List.{flat_map}
use Rattle.sq_bind.specs.Condition.{Calls, conjuncts_in}
use Rattle.sq_bind.specs.Seen.{places_in}
use Rattle.sq_bind.specs.Visible.{Alias}
use Rattle.sq_bind.proofs.conjunct.+mark.Given as goal

abbrev pub invariant-push_all_places-loop-part : goal.invariant-push_all_places-loop-part
invariant-push_all_places-loop-part l =
    (calls : Calls) (aliases : List Alias)
    → l.places.items ≡ (l.initial.places.items ++ places_in (flat_map (conjuncts_in calls aliases) (take l.part-index l.parts)))
