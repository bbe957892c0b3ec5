use Rattle.std.proofs.Common.{◌≡◌, ◌++◌, map, [], vec_len}
use Rattle.turn_board.specs.Tokens.{IsOne}
use Rattle.turn_board.specs.Boards.{view}
use Rattle.turn_board.specs.Sums.{Each}
use Rattle.turn_board.proofs.deal.gather.Given as goal

abbrev pub invariant-loop-seat : goal.invariant-loop-seat
invariant-loop-seat g l = record {
  board : l.all.table_id ≡ l.board.shared.table_id;
  views : map (λ s. view s) l.seats.items ++ l.all.me.0 ≡ map (λ s. view s) l.fn.seats.items;
  alone : l.all.me.1 ≡ [];
  each : Each (λ s. (s.token.table_id ≡ l.board.shared.table_id) × IsOne s.token × (s.token.me.1 ≡ [])) l.seats.items;
}

abbrev pub decreases-loop-seat : goal.decreases-loop-seat
decreases-loop-seat g l = vec_len l.seats
