use Rattle.std.proofs.Common.{◌≡◌, ◌+◌}
use Rattle.worked_cases.proofs.boards.fill.Given as goal

abbrev pub invariant-loop-stamp : goal.invariant-loop-stamp
invariant-loop-stamp l = record {
  plan : l.pool.sample.plan ≡ 7;
  left : l.pool.puts_left + l.stamp ≡ l.room;
}
