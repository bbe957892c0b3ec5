use Rattle.std.proofs.Common.{◌≡◌, map, take}
use Rattle.sq_bind.specs.Condition.{calling, whole_in}
use Rattle.sq_bind.specs.Seen.{seen}
use Rattle.sq_bind.proofs.whole.+wholes.Given as goal

abbrev pub invariant-wholes_of-loop-part : goal.invariant-wholes_of-loop-part
invariant-wholes_of-loop-part g l =
    let calls = calling (g.F.Predicates.number_of l.functions) (g.F.Predicates.kinds_of l.functions) in
    l.all ≡ map (whole_in calls (map seen l.aliases)) (take l.part-index l.parts)
