use Rattle.std.proofs.Common.{◌≡◌, length}
use Rattle.run_answers.proofs.settings.Settings.shared_policies.Given as goal

abbrev pub invariant-loop-worker : goal.invariant-loop-worker
invariant-loop-worker l = length l.policies.items ≡ l.worker
