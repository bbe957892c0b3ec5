use Rattle.std.proofs.Common.{◌≡◌, map, drop}
use Rattle.std.specs.List.{flat_map}
use Rattle.sq_bind.specs.Fault.{sooner, first_of}
use Rattle.sq_bind.specs.Statement.{key_faults}
use Rattle.sq_bind.specs.Seen.{seen, sorting}
use Rattle.sq_bind.proofs.order.keys_fault.Given as goal

abbrev pub invariant-loop-key : goal.invariant-loop-key
invariant-loop-key l =
    sooner l.fault (first_of (flat_map (key_faults (map seen l.aliases) (sorting l.by)) (drop l.key-index l.order)))
    ≡ first_of (flat_map (key_faults (map seen l.aliases) (sorting l.by)) l.order)
