-- What a value is compared by, and the one order that comparisons, ORDER BY and keys go by.
use Rattle.std.specs.Prelude.{ℕ, ◌-◌, ◌^◌, List, ℤ, pos, ◌*ℤ◌, Option, Some, None, unwrap_or, option_and_then}
use Rattle.std.specs.declared.cmp.Ordering.{Ordering}
use Rattle.std.specs.declared.cmp.Ordering.TheVariants.{Less, Greater}
use Rattle.std.specs.Ordering.{int_cmp, nat_cmp}
use Rattle.std.specs.Cmp.Lexicographic.{slice_cmp}
use Rattle.sq_value.specs.declared.value.Value.{Value}
use Rattle.sq_value.specs.declared.value.Value.TheVariants as value

-- how many millionths one unit of a scale is: a scale is 0 to 6, and a greater one counts as 6
abbrev pub millionths_in : ℕ → ℕ
millionths_in scale = 10 ^ (6 - scale)

-- the number of so many units of a scale, in millionths
abbrev pub millionths : ℤ → ℕ → ℤ
millionths units scale = units *ℤ pos (millionths_in scale)

-- what a value is compared by: a number of millionths, or a text's bytes
pub data Rank : Type 0 where
  Number : ℤ → Rank
  Text : List ℕ → Rank

-- the rank of a value; a null has none, and an integer has scale 0
abbrev pub rank_of : Value → Option Rank
rank_of value.Null = None
rank_of (value.Int n) = Some (Number (millionths n 0))
rank_of (value.Text t) = Some (Text t)
rank_of (value.Decimal d) = Some (Number (millionths d.units d.scale))

-- the order of two ranks that may be compared: numbers as numbers, texts by bytes
abbrev pub rank_order : Rank → Rank → Option Ordering
rank_order (Number a) (Number b) = Some (int_cmp a b)
rank_order (Number a) (Text t) = None
rank_order (Text s) (Number b) = None
rank_order (Text s) (Text t) = Some (slice_cmp nat_cmp s t)

-- the same, where either may be missing
abbrev pub order_between : Option Rank → Option Rank → Option Ordering
order_between x y = option_and_then (λ a. option_and_then (λ b. rank_order a b) y) x

-- the order of two values that may be compared: equal numbers of any scales tie, and beside a null there is none
abbrev pub value_order : Value → Value → Option Ordering
value_order x y = order_between (rank_of x) (rank_of y)

-- where a rank stands beside one of the other class: numbers come before texts
abbrev pub class_order : Rank → Ordering
class_order (Number a) = Less
class_order (Text s) = Greater

-- the order of all ranks
abbrev pub rank_cmp : Rank → Rank → Ordering
rank_cmp a b = unwrap_or (rank_order a b) (class_order a)
