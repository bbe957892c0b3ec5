use Rattle.std.proofs.Common.{◌≡◌, map, take}
use Rattle.sq_bind.specs.Found.{used_at}
use Rattle.sq_bind.proofs.alias.uses_of.Given as goal

abbrev pub invariant-loop-table : goal.invariant-loop-table
invariant-loop-table l = l.uses ≡ map (used_at l.accesses) (take l.table-index l.found)
