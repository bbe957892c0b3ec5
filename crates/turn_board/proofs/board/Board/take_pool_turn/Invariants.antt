use Rattle.std.proofs.Common.{◌≡◌}
use Rattle.turn_board.proofs.board.Board.take_pool_turn.Given as goal

abbrev pub invariant-loop : goal.invariant-loop
invariant-loop g l = record {
  board : l.token.table_id ≡ l.fn.token.table_id;
  same : l.token.me ≡ l.fn.token.me;
}
