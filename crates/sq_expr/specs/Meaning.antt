-- What a bound condition means: the truth of SQL-92's search condition over one row of each alias.
use Rattle.std.specs.Prelude.{ℕ, List, [], ◌∷◌, Option, Some, None, is_none, ℤ, pos, ◌+ℤ◌, ◌*ℤ◌, unwrap_or, option_and_then, slice_get}
use Rattle.std.specs.Option.{option_map}
use Rattle.sq_value.specs.declared.value.Value.{Value}
use Rattle.sq_value.specs.declared.value.Value.TheVariants as value
use Rattle.sq_value.specs.declared.value.Truth.{Truth}
use Rattle.sq_value.specs.declared.value.Truth.TheVariants as truth
use Rattle.sq_value.specs.Rank.{Rank, Number, Text, millionths, rank_of, order_between}
use Rattle.sq_value.specs.Comparison.{truth_of_order, two_valued}
use Rattle.sq_value.specs.Truth.{conjoined, disjoined, negated, is_truth}
use Rattle.sq_value.specs.Relation.{Relation, cell}
use Rattle.sq_expr.specs.declared.cond.ColumnOf.{ColumnOf}
use Rattle.sq_expr.specs.declared.cond.Term.{Term}
use Rattle.sq_expr.specs.declared.cond.Side.{Side}
use Rattle.sq_expr.specs.declared.cond.Side.TheVariants as side
use Rattle.sq_expr.specs.declared.cond.Arg.{Arg}
use Rattle.sq_expr.specs.declared.cond.Arg.TheVariants as arg
use Rattle.sq_expr.specs.declared.cond.Cond.{Cond, Cond-F, fold-Cond}
use Rattle.sq_expr.specs.declared.cond.Cond.TheOpen as level

-- the value of a column of an alias, over chosen rows: each alias uses a table and has a row of it; else it is null
abbrev pub value_in : List Relation → List ℕ → List ℕ → ColumnOf → Value
value_in tables uses rows c =
    let table = option_and_then (λ number. slice_get tables number) (slice_get uses c.alias) in
    let chosen = option_and_then (λ t. option_and_then (λ row. cell t row c.column) (slice_get rows c.alias)) table in
    unwrap_or chosen value.Null

-- the number of a rank, in millionths
abbrev pub rank_number : Option Rank → Option ℤ
rank_number None = None
rank_number (Some (Number n)) = Some n
rank_number (Some (Text t)) = None

-- the sum of two numbers: none where one of them is missing
abbrev pub plus : Option ℤ → Option ℤ → Option ℤ
plus x y = option_and_then (λ a. option_map (λ b. a +ℤ b) y) x

-- what a term of a sum stands for, in millionths: a literal, or a factor times a number
abbrev pub term_number : (ColumnOf → Value) → ℤ → Option ColumnOf → Option ℤ
term_number at factor None = Some (millionths factor 0)
term_number at factor (Some c) = option_map (λ n. factor *ℤ n) (rank_number (rank_of (at c)))

-- what a sum stands for: an exact number of millionths, and none where a column is null
abbrev pub sum_number : (ColumnOf → Value) → List Term → Option ℤ
sum_number at [] = Some (pos 0)
sum_number at (t ∷ ts) = plus (term_number at t.factor t.column) (sum_number at ts)

-- what a side of a comparison is compared by; none where it is null
abbrev pub side_rank : (ColumnOf → Value) → Side → Option Rank
side_rank at side.Null = None
side_rank at (side.Text t) = Some (Text t)
side_rank at (side.Column c) = rank_of (at c)
side_rank at (side.Sum terms) = option_map (λ n. Number n) (sum_number at terms)

-- what an argument of a predicate stands for
abbrev pub arg_value : (ColumnOf → Value) → Arg → Value
arg_value at (arg.Literal v) = v
arg_value at (arg.Column c) = at c

-- the least of the parts of a conjunction; of no part it is True
abbrev pub least : List Truth → Truth
least [] = truth.True
least (t ∷ ts) = conjoined t (least ts)

-- the greatest of the parts of a disjunction; of no part it is False
abbrev pub greatest : List Truth → Truth
greatest [] = truth.False
greatest (t ∷ ts) = disjoined t (greatest ts)

-- one level of a condition, whose parts stand as their truths
abbrev pub truth_at_level : (ℕ → Value → Value → Truth) → (ColumnOf → Value) → Cond-F Truth → Truth
truth_at_level gives at (level.Compare x cmp y) = truth_of_order (order_between (side_rank at x) (side_rank at y)) cmp
truth_at_level gives at (level.IsNull x) = two_valued (is_none (side_rank at x))
truth_at_level gives at (level.Call number x y) = gives number (arg_value at x) (arg_value at y)
truth_at_level gives at (level.Not part) = negated part
truth_at_level gives at (level.All parts) = least parts
truth_at_level gives at (level.Any parts) = greatest parts
truth_at_level gives at (level.Is part named) = two_valued (is_truth part named)

-- the truth of a condition, where `gives` is the meaning of the predicates and `at` the value of each column
unfoldable pub truth_of : (ℕ → Value → Value → Truth) → (ColumnOf → Value) → Cond → Truth
truth_of gives at = fold-Cond Truth (truth_at_level gives at)
