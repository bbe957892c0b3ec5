use Rattle.std.proofs.Common.{◌≡◌, ◌≤◌, ◌+◌, ◌++◌, ◌∷◌, [], map, reverse, vec_len, vec_capacity}
use Rattle.turn_board.specs.declared.lot.Lot.{Lot}
use Rattle.turn_board.specs.declared.lot.Lot.TheVariants.{OfModule, OfPool}
use Rattle.turn_board.proofs.moves.move_out.Given as goal

abbrev pub invariant-loop-slot : goal.invariant-loop-slot
invariant-loop-slot g l = record {
  all : (map {B = Lot g.row.K.Denot g.row.T.Denot} OfModule l.modules.items ++ reverse l.slots.items) ++ OfPool l.pool ∷ [] ≡ l.fn.slots.items;
  room : vec_len l.modules + vec_len l.slots ≤ vec_capacity l.modules;
}

abbrev pub decreases-loop-slot : goal.decreases-loop-slot
decreases-loop-slot g l = goal.left-loop-slot g l
