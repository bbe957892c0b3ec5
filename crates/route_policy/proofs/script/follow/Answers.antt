use Rattle.std.proofs.Common.{arith, sym}
use Rattle.route_policy.proofs.FollowLaws.{follow_more, follow_here}
use Rattle.route_policy.proofs.script.follow.Goals as goal

pub returns-in-Some-clause-value : goal.returns-in-Some-clause-value
returns-in-Some-clause-value c =
    follow_here c.args.words.now c.args.legal.now c.loop-word.word-index c.in-Some.place (omega arith) (sym c.in-Some.ensures) c.loop-word.invariant

pub loop-word-preserved : goal.loop-word-preserved
loop-word-preserved c =
    follow_more c.args.words.now c.args.legal.now c.loop-word.word-index (omega arith) (sym c.in_default.ensures) c.loop-word.invariant
