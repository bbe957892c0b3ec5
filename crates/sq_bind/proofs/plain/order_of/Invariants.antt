use Rattle.std.proofs.Common.{◌≡◌, map, take}
use Rattle.sq_bind.specs.Statement.{plain_key}
use Rattle.sq_bind.proofs.plain.order_of.Given as goal

abbrev pub invariant-loop-key : goal.invariant-loop-key
invariant-loop-key l = l.keys ≡ map (plain_key l.cells) (take l.key-index l.order)
