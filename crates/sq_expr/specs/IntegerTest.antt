-- Serves proofs: a column beside an integer.
use Rattle.std.specs.Prelude.{◌≡◌, ℕ, List, Option, Some, ℤ}
use Rattle.sq_value.specs.Rank.{Rank, Number, millionths, rank_of, order_between}
use Rattle.sq_value.specs.Comparison.{truth_of_order}
use Rattle.sq_value.specs.Relation.{Relation}
use Rattle.sq_value.specs.declared.value.Value.{Value}
use Rattle.sq_value.specs.declared.value.Truth.{Truth}
use Rattle.sq_value.specs.declared.value.Cmp.{Cmp}
use Rattle.sq_value.specs.declared.value.Cmp.TheVariants.{Eq, Ne, Lt, Le, Gt, Ge}
use Rattle.sq_value.specs.declared.predicate.Kinds.{Kinds}
use Rattle.sq_expr.specs.declared.cond.ColumnOf.{ColumnOf}
use Rattle.sq_expr.specs.declared.cond.Side.{Side}
use Rattle.sq_expr.specs.declared.cond.Side.TheVariants.{Column}
use Rattle.sq_expr.specs.declared.cond.Cond.{Cond}
use Rattle.sq_expr.specs.declared.integer_test.IntegerTest.{IntegerTest}
use Rattle.sq_expr.specs.Meaning.{truth_of, side_rank}
use Rattle.sq_expr.specs.Reading.{IsInRange, IsReadyOver}

-- the comparison with its sides exchanged
abbrev pub exchanged : Cmp → Cmp
exchanged Eq = Eq
exchanged Ne = Ne
exchanged Lt = Gt
exchanged Le = Ge
exchanged Gt = Lt
exchanged Ge = Le

-- what an integer is compared by
abbrev pub integer_rank : ℤ → Option Rank
integer_rank n = Some (Number (millionths n 0))

-- how the value of the column compares with the integer
abbrev pub is_so : IntegerTest → (ColumnOf → Value) → Truth
is_so t at = truth_of_order (order_between (rank_of (at t.column)) (integer_rank t.number)) t.cmp

-- a side is an integer
abbrev pub IsInteger : Side → ℤ → Type 0
IsInteger side n = (at : ColumnOf → Value) → side_rank at side ≡ integer_rank n

-- the test of a side that is a column beside one that is an integer
pub record IsBeside (side : Side) (how : Cmp) (other : Side) (t : IntegerTest) : Type 0 where
  pub column : side ≡ Column t.column
  pub cmp : t.cmp ≡ how
  pub number : IsInteger other t.number

-- what was prepared says what the condition says, and its column is one of the condition's
pub record IsIntegerTest (cond : Cond) (t : IntegerTest) : Type 0 where
  pub truth : (gives : ℕ → Value → Value → Truth) (at : ColumnOf → Value) → truth_of gives at cond ≡ is_so t at
  pub reads : (kinds : ℕ → Option Kinds) (tables : List Relation) (uses rows : List ℕ)
      → IsReadyOver kinds tables uses rows cond → IsInRange tables uses rows t.column
