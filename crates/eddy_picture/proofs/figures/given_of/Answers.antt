use Rattle.std.proofs.Common.{ℕ}
use Rattle.std.specs.Prelude.{slice_index}
use Rattle.route_counts.specs.Counting.{count_place}
use Rattle.eddy_picture.proofs.FigureLemmas.{one_part}
use Rattle.eddy_picture.proofs.figures.given_of.Goals as goal

pub loop-part-preserved : goal.loop-part-preserved
loop-part-preserved g c =
    one_part (λ (part : ℕ). slice_index c.args.counter.now.given (count_place c.args.lane part)) c.loop-part.counts c.loop-part.part c.given.result
    c.loop-part-test.true c.loop-part.invariant.1 c.loop-part.invariant.0 c.given.ensures
