use Rattle.std.proofs.Common.{◌≡◌, map, take, length}
use Rattle.std.specs.Prelude.{slice_index}
use Rattle.std.specs.List.{range_with_len}
use Rattle.route_counts.specs.Counting.{count_place}
use Rattle.eddy_picture.proofs.figures.came_of.Given as goal

abbrev pub invariant-loop-part : goal.invariant-loop-part
invariant-loop-part g l =
    (take l.part l.counts ≡ map (λ part. slice_index l.counter.came (count_place l.lane part)) (range_with_len 0 l.part))
    × (length l.counts ≡ 10)
