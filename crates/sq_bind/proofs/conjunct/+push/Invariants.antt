use Rattle.std.proofs.Common.{◌≡◌, ◌++◌, map, take}
use Rattle.std.specs.List.{flat_map}
use Rattle.sq_bind.specs.Condition.{calling, conjuncts_in}
use Rattle.sq_bind.specs.Seen.{seen}
use Rattle.sq_bind.proofs.conjunct.+push.Given as goal

abbrev pub invariant-push_parts-loop-part : goal.invariant-push_parts-loop-part
invariant-push_parts-loop-part g l =
    let calls = calling (g.F.Predicates.number_of l.functions) (g.F.Predicates.kinds_of l.functions) in
    l.placed.items ≡ l.initial.placed.items ++ flat_map (conjuncts_in calls (map seen l.aliases)) (take l.part-index l.parts)
