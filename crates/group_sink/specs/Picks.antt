-- Serves proofs: the one of a group's values that a cell shows.
use Rattle.std.specs.Prelude.{List, [], ◌∷◌, Option, unwrap_or, if◌then◌else◌}
use Rattle.std.specs.Borrow.{Bor}
use Rattle.std.specs.Option.{option_copied}
use Rattle.std.specs.Ordering.{is_gt}
use Rattle.sq_value.specs.Order.{sorted_by}
use Rattle.sq_value.specs.declared.value.Value.{Value}
use Rattle.sq_value.specs.declared.value.Value.TheVariants as value
use Rattle.sq_value.specs.declared.value.SortWay.{SortWay}
use Rattle.group_sink.specs.declared.picks.Pick.{Pick}
use Rattle.group_sink.specs.declared.picks.Pick.TheVariants as pick

-- a value that may be missing, which is null
abbrev pub seen : Option (Bor Value) → Value
seen v = unwrap_or (option_copied v) value.Null

-- the one of two values that comes first; the former of two that tie
abbrev pub sooner : SortWay → Value → Value → Value
sooner way x y = if is_gt (sorted_by way x y) then y else x

-- the one of two that is picked
abbrev pub picked_of : Pick → Value → Value → Value
picked_of pick.First x y = x
picked_of (pick.By way) x y = sooner way x y

-- the one of all; of none it is null
abbrev pub pick_of : Pick → List Value → Value
pick_of which [] = value.Null
pick_of which (v ∷ values) = picked_of which v (pick_of which values)
