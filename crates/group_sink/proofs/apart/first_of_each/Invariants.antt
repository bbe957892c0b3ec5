use Rattle.std.proofs.Common.{◌≡◌, ◌++◌, length, drop}
use Rattle.group_sink.specs.Picked.{met_first}
use Rattle.group_sink.proofs.apart.first_of_each.Given as goal

abbrev pub invariant-loop-place : goal.invariant-loop-place
invariant-loop-place l = l.kept.items ++ met_first (length l.kept.items) (drop l.place l.numbers) (drop l.place l.groups) ≡ met_first 0 l.numbers l.groups
