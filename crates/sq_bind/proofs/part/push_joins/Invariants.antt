use Rattle.std.proofs.Common.{◌≡◌, ◌++◌, map, drop}
use Rattle.std.specs.List.{flat_map}
use Rattle.sq_bind.specs.Condition.{calling}
use Rattle.sq_bind.specs.Statement.{joins_from, part_conjuncts}
use Rattle.sq_bind.specs.Seen.{seen}
use Rattle.sq_bind.proofs.part.push_joins.Given as goal

abbrev pub invariant-loop-index : goal.invariant-loop-index
invariant-loop-index g l =
    let calls = calling (g.F.Predicates.number_of l.functions) (g.F.Predicates.kinds_of l.functions) in
    (l.placed.items ++ flat_map (part_conjuncts calls) (joins_from (map seen l.aliases) l.index (drop l.index l.sources)))
    ≡ (l.initial.placed.items ++ flat_map (part_conjuncts calls) (joins_from (map seen l.aliases) 0 l.sources))
