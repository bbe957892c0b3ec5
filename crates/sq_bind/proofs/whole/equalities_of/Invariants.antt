use Rattle.std.proofs.Common.{◌≡◌, map, take}
use Rattle.sq_bind.specs.Seen.{seen}
use Rattle.sq_bind.specs.Condition.{equal_to}
use Rattle.sq_bind.proofs.whole.equalities_of.Given as goal

abbrev pub invariant-loop-item : goal.invariant-loop-item
invariant-loop-item l = l.all ≡ map (equal_to (map seen l.aliases) l.subject) (take l.item-index l.items)
