-- What is in a cell of a line: a column of a group's first member, or a set function over the group (SQL-92, set
-- function specification).
use Rattle.std.specs.Prelude.{ℕ, ℤ, pos, ◌+ℤ◌, Bool, true, false, not, List, [], ◌∷◌, length, filter, Option, Some, None, is_none, slice_index_or, if◌then◌else◌}
use Rattle.std.specs.Option.{option_eq}
use Rattle.std.specs.Ordering.{is_eq, is_gt}
use Rattle.std.specs.Cmp.Lexicographic.{pointwise}
use Rattle.sq_value.specs.Order.{sorted_by}
use Rattle.sq_value.specs.Rank.{Rank, Number, Text, rank_of, rank_cmp}
use Rattle.sq_value.specs.declared.value.Value.{Value}
use Rattle.sq_value.specs.declared.value.Value.TheVariants as value
use Rattle.sq_value.specs.declared.value.ColType.{ColType}
use Rattle.sq_value.specs.declared.value.ColType.TheVariants as kind
use Rattle.sq_value.specs.declared.value.SortWay.{SortWay}
use Rattle.sq_expr.specs.declared.shape.AggKind.{AggKind}
use Rattle.sq_expr.specs.declared.shape.AggKind.TheVariants as agg
use Rattle.group_sink.specs.declared.line.Out.{Out}
use Rattle.group_sink.specs.declared.line.Out.TheVariants as out

-- a value as a cell shows it
abbrev pub out_of_value : Value → Out
out_of_value value.Null = out.Null
out_of_value (value.Int n) = out.Number n 0
out_of_value (value.Text t) = out.Text t
out_of_value (value.Decimal d) = out.Number d.units d.scale

-- what a cell is compared by: a number by its units, since all numbers of one cell have the scale of its column; a
-- text by its bytes
abbrev pub rank_of_out : Out → Option Rank
rank_of_out out.Null = None
rank_of_out (out.Number units scale) = Some (Number units)
rank_of_out (out.Text t) = Some (Text t)

-- whether two ranks are one, or both are missing: null is equal to null
abbrev pub is_same_rank : Option Rank → Option Rank → Bool
is_same_rank x y = option_eq (λ a b. is_eq (rank_cmp a b)) x y

-- whether a value isn't null
abbrev pub is_known : Value → Bool
is_known v = not (is_none (rank_of v))

-- the scale of the numbers of a type
abbrev pub scale_in : ColType → ℕ
scale_in kind.Integer = 0
scale_in kind.Text = 0
scale_in (kind.Decimal scale) = scale

-- the units of a number
abbrev pub units_of : Value → ℤ
units_of value.Null = pos 0
units_of (value.Int n) = n
units_of (value.Text t) = pos 0
units_of (value.Decimal d) = d.units

-- the sum of units: a whole number without bound
abbrev pub total : List Value → ℤ
total [] = pos 0
total (v ∷ vs) = units_of v +ℤ total vs

-- the sum of numbers of a scale; of none it is null
abbrev pub sum_of : ℕ → List Value → Out
sum_of scale [] = out.Null
sum_of scale (v ∷ vs) = out.Number (total (v ∷ vs)) scale

-- the value that comes first in a sorting, the former of those that tie; of none it is null
abbrev pub first_by : SortWay → List Value → Value
first_by way [] = value.Null
first_by way (v ∷ vs) = if is_gt (sorted_by way v (first_by way vs)) then first_by way vs else v

abbrev pub least_first : SortWay
least_first = record { descending = false; nulls_first = false }

abbrev pub greatest_first : SortWay
greatest_first = record { descending = true; nulls_first = false }

-- a set function over a column's values in the members of a group, where the column's numbers have a scale: COUNT(*)
-- counts the members, and the others eliminate nulls
abbrev pub aggregate : ℕ → AggKind → List Value → Out
aggregate scale agg.CountAll values = out.Number (pos (length values)) 0
aggregate scale agg.Count values = out.Number (pos (length (filter is_known values))) 0
aggregate scale agg.Sum values = sum_of scale (filter is_known values)
aggregate scale agg.Min values = out_of_value (first_by least_first (filter is_known values))
aggregate scale agg.Max values = out_of_value (first_by greatest_first (filter is_known values))

-- the first of the values; of none it is null
abbrev pub leading : List Value → Value
leading values = slice_index_or values 0 value.Null

-- what is in a cell, over the values of its column in the members of a group
abbrev pub cell_over : ℕ → Option AggKind → List Value → Out
cell_over scale None values = out_of_value (leading values)
cell_over scale (Some kind) values = aggregate scale kind values

-- whether two lines are equal in all cells
abbrev pub is_same_line : List Out → List Out → Bool
is_same_line x y = pointwise (λ a b. is_same_rank (rank_of_out a) (rank_of_out b)) x y
