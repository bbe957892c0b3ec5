use Rattle.std.proofs.Common.{◌≡◌, map, drop}
use Rattle.std.specs.List.{flat_map}
use Rattle.sq_bind.specs.Fault.{sooner, first_of}
use Rattle.sq_bind.specs.Statement.{group_faults}
use Rattle.sq_bind.specs.Seen.{seen}
use Rattle.sq_bind.proofs.group.groups_fault.Given as goal

abbrev pub invariant-loop-column : goal.invariant-loop-column
invariant-loop-column l =
    sooner l.fault (first_of (flat_map (group_faults (map seen l.aliases)) (drop l.column-index l.groups)))
    ≡ first_of (flat_map (group_faults (map seen l.aliases)) l.groups)
