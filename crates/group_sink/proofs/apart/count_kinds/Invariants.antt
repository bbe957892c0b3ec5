use Rattle.std.proofs.Common.{◌≡◌, ◌≤◌, drop}
use Rattle.group_sink.specs.Picked.{kinds_from}
use Rattle.group_sink.proofs.apart.count_kinds.Given as goal

abbrev pub invariant-loop-number : goal.invariant-loop-number
invariant-loop-number l = record {
  few : l.kinds ≤ l.number-index;
  still : kinds_from l.kinds (drop l.number-index l.numbers) ≡ kinds_from 0 l.numbers;
}
