use Rattle.std.proofs.Common.{◌≡◌, ◌≤◌, vec_len, vec_capacity}
use Rattle.turn_board.proofs.making.no_one_waits.Given as goal

abbrev pub invariant-loop-k : goal.invariant-loop-k
invariant-loop-k l = record {
  count : vec_len l.waiting ≡ l._k;
  room : l.words ≤ vec_capacity l.waiting;
}
