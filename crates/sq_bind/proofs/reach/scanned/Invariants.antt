use Rattle.std.proofs.Common.{◌≡◌, map, take}
use Rattle.sq_bind.specs.Reached.{is_scanned}
use Rattle.sq_bind.proofs.reach.scanned.Given as goal

abbrev pub invariant-loop-alias : goal.invariant-loop-alias
invariant-loop-alias l = l.marks.items ≡ map is_scanned (take l.alias-index l.uses)
