-- Comparison under SQL-92's three truth values.
use Rattle.std.specs.Prelude.{Bool, true, false, not, Option, Some, None, IfSome, IsSome}
use Rattle.std.specs.declared.cmp.Ordering.{Ordering}
use Rattle.std.specs.Ordering.{is_eq, is_lt, is_gt}
use Rattle.sq_value.specs.Rank.{rank_of, rank_order, value_order}
use Rattle.sq_value.specs.declared.value.Value.{Value}
use Rattle.sq_value.specs.declared.value.Truth.{Truth}
use Rattle.sq_value.specs.declared.value.Truth.TheVariants.{False, Unknown, True}
use Rattle.sq_value.specs.declared.value.Cmp.{Cmp}
use Rattle.sq_value.specs.declared.value.Cmp.TheVariants.{Eq, Ne, Lt, Le, Gt, Ge}

-- whether the order of two values meets a comparison
abbrev pub is_met : Cmp → Ordering → Bool
is_met Eq order = is_eq order
is_met Ne order = not (is_eq order)
is_met Lt order = is_lt order
is_met Le order = not (is_gt order)
is_met Gt order = is_gt order
is_met Ge order = not (is_lt order)

-- True where a test holds, and False where it doesn't
abbrev pub two_valued : Bool → Truth
two_valued true = True
two_valued false = False

-- the truth of a comparison of what stands in an order: Unknown where there is none
abbrev pub truth_of_order : Option Ordering → Cmp → Truth
truth_of_order None cmp = Unknown
truth_of_order (Some order) cmp = two_valued (is_met cmp order)

-- the truth of a comparison of two values
abbrev pub compared : Value → Value → Cmp → Truth
compared x y cmp = truth_of_order (value_order x y) cmp

-- two values that may be compared: no number beside a text
abbrev pub Comparable : Value → Value → Type 0
Comparable x y = IfSome (rank_of x) (λ a. IfSome (rank_of y) (λ b. IsSome (rank_order a b)))
