use Rattle.std.proofs.Common.{◌≡◌, List, map, take}
use Rattle.sq_expr.specs.declared.shape.Cell.{Cell}
use Rattle.sq_bind.specs.Ordered.{HoldsCells}
use Rattle.sq_bind.specs.Statement.{key_of}
use Rattle.sq_bind.specs.Seen.{seen}
use Rattle.sq_bind.proofs.order.order_of.Given as goal

abbrev pub invariant-loop-key : goal.invariant-loop-key
invariant-loop-key l =
    (cells : List Cell) → HoldsCells l.names.entries cells
    → l.keys ≡ map (key_of (map seen l.aliases) cells) (take l.key-index l.order)
