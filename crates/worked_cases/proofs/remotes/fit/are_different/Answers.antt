use Rattle.std.proofs.Common.{arith}
use Rattle.worked_cases.proofs.RemoteLemmas.{all_differ}
use Rattle.worked_cases.proofs.remotes.fit.are_different.Goals as goal

pub returns : goal.returns
returns c = λ _. all_differ c.args.remotes.now (λ k low. c.loop-place.invariant k (omega (arith, low, c.loop-place-test.false)))
