use Rattle.std.proofs.Common.{◌≡◌, length}
use Rattle.engine_cases.proofs.crews.policies_of.Given as goal

abbrev pub invariant-loop-number : goal.invariant-loop-number
invariant-loop-number l = length l.policies.items ≡ l.number
