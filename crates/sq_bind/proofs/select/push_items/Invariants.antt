use Rattle.std.proofs.Common.{◌≡◌, ◌++◌, map, take}
use Rattle.std.specs.List.{flat_map}
use Rattle.sq_bind.specs.Statement.{item_cells}
use Rattle.sq_bind.specs.Seen.{seen}
use Rattle.sq_bind.proofs.select.push_items.Given as goal

abbrev pub invariant-loop-item : goal.invariant-loop-item
invariant-loop-item l = l.cells.items ≡ l.initial.cells.items ++ flat_map (item_cells (map seen l.aliases)) (take l.item-index l.items)
