use Rattle.std.proofs.Common.{◌≡◌, ◌-◌, ◌≤◌, map, [], vec_len, vec_capacity, Some}
use Rattle.turn_board.specs.Boards.{IsSeatOf, IsIdle, view}
use Rattle.turn_board.specs.Sums.{Each}
use Rattle.turn_board.specs.Views.{seats_from}
use Rattle.turn_board.proofs.deal.deal.Given as goal

abbrev pub invariant-loop-k : goal.invariant-loop-k
invariant-loop-k g l = record {
  left : l.first.me ≡ (seats_from l.board.lengths.items l.board.table.shared.key.opening.value.items (Some l.board.table.shared.key.pool.value) l._k (l.board.seats - l._k), []);
  board : l.first.table_id ≡ l.board.table.shared.table_id;
  room : vec_len l.list ≡ l._k;
  capacity : l.board.seats ≤ vec_capacity l.list;
  seats : Each (λ s. IsSeatOf l.board s × IsIdle s) l.list.items;
  views : map (λ s. view s) l.list.items ≡ seats_from l.board.lengths.items l.board.table.shared.key.opening.value.items (Some l.board.table.shared.key.pool.value) 0 l._k;
}
