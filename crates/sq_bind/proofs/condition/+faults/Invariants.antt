use Rattle.std.proofs.Common.{◌≡◌, map, drop}
use Rattle.std.specs.List.{flat_map}
use Rattle.sq_bind.specs.Fault.{sooner, first_of}
use Rattle.sq_bind.specs.Condition.{calling, tree_faults}
use Rattle.sq_bind.specs.Seen.{seen}
use Rattle.sq_bind.proofs.condition.+faults.Given as goal

abbrev pub invariant-parts_fault-loop-part : goal.invariant-parts_fault-loop-part
invariant-parts_fault-loop-part g l =
    let faults = tree_faults (calling (g.F.Predicates.number_of l.functions) (g.F.Predicates.kinds_of l.functions)) (map seen l.aliases) in
    sooner l.fault (first_of (flat_map faults (drop l.part-index l.parts))) ≡ first_of (flat_map faults l.parts)
