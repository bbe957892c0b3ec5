use Rattle.std.proofs.Common.{ℕ, ◌<◌}
use Rattle.worked_cases.proofs.RemoteLemmas.{IsFirst}
use Rattle.worked_cases.proofs.remotes.fit.are_different.Given as goal

abbrev pub invariant-loop-place : goal.invariant-loop-place
invariant-loop-place l = (k : ℕ) → k < l.place → IsFirst l.remotes k
