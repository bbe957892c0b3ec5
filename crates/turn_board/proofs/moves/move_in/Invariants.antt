use Rattle.std.proofs.Common.{◌≡◌, ◌≤◌, ◌+◌, ◌++◌, map, reverse, vec_len, vec_capacity}
use Rattle.turn_board.specs.declared.lot.Lot.{Lot}
use Rattle.turn_board.specs.declared.lot.Lot.TheVariants.{OfModule}
use Rattle.turn_board.proofs.moves.move_in.Given as goal

abbrev pub invariant-loop-module : goal.invariant-loop-module
invariant-loop-module g l = record {
  all : map {B = Lot g.row.K.Denot g.row.T.Denot} OfModule l.fn.modules.items ≡ map {B = Lot g.row.K.Denot g.row.T.Denot} OfModule l.modules.items ++ reverse l.slots.items;
  room : (vec_len l.modules + vec_len l.slots) + 1 ≤ vec_capacity l.slots;
  kept : vec_capacity l.modules ≡ vec_capacity l.fn.modules;
}

abbrev pub decreases-loop-module : goal.decreases-loop-module
decreases-loop-module g l = vec_len l.modules
