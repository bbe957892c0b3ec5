use Rattle.std.proofs.Common.{◌≡◌, ◌++◌, map, take}
use Rattle.std.specs.List.{flat_map}
use Rattle.sq_bind.specs.Statement.{columns_of}
use Rattle.sq_bind.specs.Seen.{seen}
use Rattle.sq_bind.proofs.select.push_all.Given as goal

abbrev pub invariant-loop-alias : goal.invariant-loop-alias
invariant-loop-alias l = l.cells.items ≡ l.initial.cells.items ++ flat_map columns_of (map seen (take l.alias-index l.aliases))
