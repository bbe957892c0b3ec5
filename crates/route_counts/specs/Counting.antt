-- What a counting policy has counted, for each lane and each of ten parts of a run: tuples given, and tuples that came.
use Rattle.std.specs.Prelude.{ℕ, ◌+◌, ◌-◌, ◌*◌, ◌/◌, ◌^◌, min, List, replicate, slice_index, slice_set}
use Rattle.tuple_span.specs.declared.route.Route.{Route}
use Rattle.route_counts.specs.Lanes.{lane_of}

-- a counting policy: what it holds, how many choices are a part of the run, and the counts
pub record Counting (P : Type 0) : Type 0 where
  pub inner : P
  pub width : ℕ
  pub given : List ℕ
  pub came : List ℕ

-- a count of 0 for each lane and part
abbrev pub no_counts : List ℕ
no_counts = replicate 23760 0

-- the place of a lane's count in a part
abbrev pub count_place : ℕ → ℕ → ℕ
count_place lane part = lane * 10 + part

-- the part that the last of so many choices belongs to: the tenth is all after the ninth
abbrev pub part_after : ℕ → ℕ → ℕ
part_after asked width = min ((asked - 1) / width) 9

-- counts with so much more at a place, as far as 64 bits count
abbrev pub raised : List ℕ → ℕ → ℕ → List ℕ
raised counts at more = slice_set counts at (min (slice_index counts at + more) (2 ^ 64 - 1))

module _ {P : Type 0} where
  -- one that has counted nothing yet
  abbrev pub fresh_counting : P → ℕ → Counting P
  fresh_counting inner width = record { inner = inner; width = width; given = no_counts; came = no_counts }

  -- the same counts, with another policy
  abbrev pub with_inner : Counting P → P → Counting P
  with_inner c inner = record c { inner = inner }

  -- after it was told how many tuples came of a route, where so many choices were made
  abbrev pub counted : Counting P → P → ℕ → Route → ℕ → Counting P
  counted c inner asked route count =
      let at = count_place (lane_of route) (part_after asked c.width) in
      record c { inner = inner; given = raised c.given at 1; came = raised c.came at count }
