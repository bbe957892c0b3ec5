use Rattle.std.proofs.Common.{◌≡◌, map, drop}
use Rattle.std.specs.List.{flat_map}
use Rattle.sq_bind.specs.Fault.{sooner, first_of}
use Rattle.sq_bind.specs.Statement.{item_faults}
use Rattle.sq_bind.specs.Seen.{seen}
use Rattle.sq_bind.proofs.select.items_fault.Given as goal

abbrev pub invariant-loop-item : goal.invariant-loop-item
invariant-loop-item l = sooner l.fault (first_of (flat_map (item_faults (map seen l.aliases)) (drop l.item-index l.items))) ≡ first_of (flat_map (item_faults (map seen l.aliases)) l.items)
