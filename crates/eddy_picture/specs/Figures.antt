-- The figures of a run: a row for each lane that was given something, with its counts in the ten parts.
use Rattle.std.specs.Prelude.{ℕ, ◌≡◌, ◌+◌, ◌*◌, ◌^◌, ◌-◌, ◌<◌, Bool, List, filter, map, min, not, ◌==◌, slice_index}
use Rattle.std.specs.List.{range_with_len, list_any}
use Rattle.route_counts.specs.Counting.{Counting, count_place}
use Rattle.route_counts.specs.Lanes.{lane_number}
use Rattle.eddy_picture.specs.declared.figures.Row.{Row}

-- a lane's counts in the ten parts
abbrev pub counts_of : List ℕ → ℕ → List ℕ
counts_of counts lane = map (λ part. slice_index counts (count_place lane part)) (range_with_len 0 10)

-- whether a count is of something
abbrev pub is_some_count : ℕ → Bool
is_some_count count = not (count == 0)

-- whether a lane was given something
unfoldable pub was_given : List ℕ → ℕ → Bool
was_given counts lane = list_any is_some_count (counts_of counts lane)

-- the lanes below a number that were given something
unfoldable pub taken_lanes : List ℕ → ℕ → List ℕ
taken_lanes counts lanes = filter (was_given counts) (range_with_len 0 lanes)

-- the number of a row's lane
abbrev pub row_lane : Row → ℕ
row_lane row = lane_number row.lane

module _ {P : Type 0} where
  -- a row has the counts of its lane
  pub record IsCounted (c : Counting P) (row : Row) : Type 0 where
    pub given : row.given ≡ counts_of c.given (row_lane row)
    pub came : row.came ≡ counts_of c.came (row_lane row)

-- where the picture of so many routes ends that begins so many points from the top
abbrev pub picture_end : ℕ → ℕ → ℕ
picture_end top routes = min (top + (min routes 2000 * 18 + 276)) (2 ^ 64 - 1)
