use Rattle.std.proofs.Common.{◌≡◌, map}
use Rattle.std.specs.Prelude.{All}
use Rattle.eddy_picture.specs.Figures.{row_lane, taken_lanes, IsCounted}
use Rattle.eddy_picture.proofs.figures.figures_of.Given as goal

abbrev pub invariant-loop-lane : goal.invariant-loop-lane
invariant-loop-lane g l =
    (map row_lane l.rows.items ≡ taken_lanes l.counter.given l.lane) × All (IsCounted l.counter) l.rows.items
