-- Serves tests: how tables are reached, as words.
use Rattle.std.specs.Prelude.{ℕ, true, false, ◌&&◌, List, length, drop, map, Option, Some, None, slice_index, nat_lt, ◌-◌, ◌==◌, if◌then◌else◌}
use Rattle.std.specs.List.{slice_split}
use Rattle.sq_expr.specs.declared.block.Access.{Access}
use Rattle.case_kit.specs.Tables.{is_blank}

-- the number of a column, by its digit
abbrev pub column_in : List ℕ → Option ℕ
column_in word =
    if length word == 1 && (nat_lt 47 (slice_index word 0) && nat_lt (slice_index word 0) 58)
    then Some (slice_index word 0 - 48) else None

-- how a table is reached: `s` is a scan, a digit a look-up in that column, and `s1` both
abbrev pub way_of : List ℕ → Access
way_of word =
    if slice_index word 0 == 115
    then record { scan = true; look_up = column_in (drop 1 word) }
    else record { scan = false; look_up = column_in word }

-- how each table is reached, by words with a blank between each two
abbrev pub ways_in : List ℕ → List Access
ways_in text = map way_of (slice_split is_blank text)
