use Rattle.std.proofs.Common.{◌≡◌, ◌≤◌, All, [], vec_len, vec_capacity}
use Rattle.board_cases.proofs.sample.modules_of_rows.Given as goal

abbrev pub invariant-loop-k : goal.invariant-loop-k
invariant-loop-k l = record {
  count : vec_len l.modules ≡ l._k;
  room : l.count ≤ vec_capacity l.modules;
  all : All (λ y. y.entries.items ≡ []) l.modules.items;
}
