use Rattle.std.proofs.Common.{◌≡◌, map, drop}
use Rattle.std.specs.List.{flat_map}
use Rattle.sq_parse.specs.declared.tree.Item.{Item}
use Rattle.sq_bind.specs.Fault.{sooner, first_of}
use Rattle.sq_bind.specs.Statement.{unsettled_faults, item_place, item_cells}
use Rattle.sq_bind.specs.Seen.{seen}
use Rattle.sq_bind.proofs.group.items_fault.Given as goal

abbrev pub invariant-loop-item : goal.invariant-loop-item
invariant-loop-item l =
    let faults = λ (i : Item). unsettled_faults l.keys (item_place i) (item_cells (map seen l.aliases) i) in
    sooner l.fault (first_of (flat_map faults (drop l.item-index l.items))) ≡ first_of (flat_map faults l.items)
