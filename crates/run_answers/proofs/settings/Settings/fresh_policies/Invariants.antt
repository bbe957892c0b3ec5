use Rattle.std.proofs.Common.{◌≡◌, map}
use Rattle.std.specs.List.{range_with_len}
use Rattle.run_answers.specs.Settings.{fresh_of}
use Rattle.run_answers.proofs.settings.Settings.fresh_policies.Given as goal

abbrev pub invariant-loop-worker : goal.invariant-loop-worker
invariant-loop-worker l = l.policies.items ≡ map (fresh_of l.self) (range_with_len 0 l.worker)
