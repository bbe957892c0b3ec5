use Rattle.std.proofs.Common.{◌≡◌, List, ◌++◌, drop}
use Rattle.std.specs.List.{flat_map}
use Rattle.sq_bind.specs.Condition.{Calls}
use Rattle.sq_bind.specs.Seen.{places_in}
use Rattle.sq_bind.specs.Statement.{joins_from, part_conjuncts}
use Rattle.sq_bind.specs.Visible.{Alias}
use Rattle.sq_bind.proofs.part.push_join_places.Given as goal

abbrev pub invariant-loop-source : goal.invariant-loop-source
invariant-loop-source l =
    (calls : Calls) (aliases : List Alias)
    → (l.places.items ++ places_in (flat_map (part_conjuncts calls) (joins_from aliases l.source-index (drop l.source-index l.sources))))
    ≡ (l.initial.places.items ++ places_in (flat_map (part_conjuncts calls) (joins_from aliases 0 l.sources)))
