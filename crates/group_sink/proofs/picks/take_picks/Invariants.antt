use Rattle.std.proofs.Common.{length, map}
use Rattle.group_sink.specs.Picks.{seen}
use Rattle.group_sink.proofs.PickLemmas.{IsPicked}
use Rattle.group_sink.proofs.picks.take_picks.Given as goal

abbrev pub invariant-loop-place : goal.invariant-loop-place
invariant-loop-place l = IsPicked l.pick (length l.fn.best) l.group_of (map seen l.values) l.place l.best

abbrev pub decreases-loop-place : goal.decreases-loop-place
decreases-loop-place l = l.place
