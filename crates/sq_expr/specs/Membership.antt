-- Serves proofs: whether a column equals one of many literals, by literals that are kept in order.
use Rattle.std.specs.Prelude.{◌≡◌, ℕ, Bool, true, false, ◌||◌, List, map, Option, Some, None, slice_get}
use Rattle.std.specs.Ordering.{int_cmp}
use Rattle.std.specs.BTreeSet.{contains, contains_text}
use Rattle.sq_value.specs.Rank.{Rank, Number, Text, rank_of, order_between}
use Rattle.sq_value.specs.Comparison.{truth_of_order}
use Rattle.sq_value.specs.Truth.{negated}
use Rattle.sq_value.specs.Relation.{Relation}
use Rattle.sq_value.specs.declared.value.Value.{Value}
use Rattle.sq_value.specs.declared.value.Truth.{Truth}
use Rattle.sq_value.specs.declared.value.Truth.TheVariants.{False, Unknown, True}
use Rattle.sq_value.specs.declared.value.Cmp.{Cmp}
use Rattle.sq_value.specs.declared.value.Cmp.TheVariants.{Eq}
use Rattle.sq_value.specs.declared.predicate.Kinds.{Kinds}
use Rattle.sq_expr.specs.declared.cond.ColumnOf.{ColumnOf}
use Rattle.sq_expr.specs.declared.cond.Side.{Side}
use Rattle.sq_expr.specs.declared.cond.Side.TheVariants.{Column}
use Rattle.sq_expr.specs.declared.cond.Cond.{Cond}
use Rattle.sq_expr.specs.declared.cond.Cond.TheVariants.{Compare, Any}
use Rattle.sq_expr.specs.declared.membership.Literals.{Literals}
use Rattle.sq_expr.specs.declared.membership.Membership.{Membership}
use Rattle.sq_expr.specs.Meaning.{truth_of, side_rank, greatest}
use Rattle.sq_expr.specs.Reading.{IsInRange, IsReadyOver}

-- True where it is found, else Unknown or False
abbrev pub choice : Bool → Bool → Truth
choice true unknown = True
choice false true = Unknown
choice false false = False

-- whether two ranks are equal, either of which may be missing
abbrev pub equals : Option Rank → Option Rank → Truth
equals x y = truth_of_order (order_between x y) Eq

-- whether a rank equals one of the literals: what it can't be compared with leaves that Unknown
abbrev pub among : Literals → Option Rank → Truth
among l None = choice false ((l.has_number || l.has_text) || l.has_null)
among l (Some (Number n)) = choice (contains int_cmp l.numbers n) (l.has_text || l.has_null)
among l (Some (Text t)) = choice (contains_text l.texts t) (l.has_number || l.has_null)

-- a truth, negated where this says so
abbrev pub turned : Bool → Truth → Truth
turned true t = negated t
turned false t = t

-- whether the value of the column is one of the literals, or none of them
abbrev pub is_in : Membership → (ColumnOf → Value) → Truth
is_in m at = turned m.negated (among m.literals (rank_of (at m.column)))

-- a part that equates the column with a literal, which is compared by this
pub record IsEquality (column : ColumnOf) (part : Cond) (key : Option Rank) : Type 0 where
  pub other : Side
  pub is : part ≡ Compare (Column column) Eq other
  pub rank : (at : ColumnOf → Value) → side_rank at other ≡ key

-- the first part compares the column
pub record HasColumn (column : ColumnOf) (parts : List Cond) : Type 0 where
  pub part : Cond
  pub at : slice_get parts 0 ≡ Some part
  pub how : Cmp
  pub other : Side
  pub is : part ≡ Compare (Column column) how other

-- the parts say whether the column is one of the literals
abbrev pub AreLiterals : ColumnOf → List Cond → Literals → Type 0
AreLiterals column parts literals =
    (gives : ℕ → Value → Value → Truth) (at : ColumnOf → Value)
    → greatest (map (truth_of gives at) parts) ≡ among literals (rank_of (at column))

-- what is prepared of the parts of a disjunction, which may be denied
abbrev pub IsPreparedOf : Bool → List Cond → Membership → Type 0
IsPreparedOf negated parts m = (m.negated ≡ negated) × HasColumn m.column parts × AreLiterals m.column parts m.literals

-- what is prepared of a disjunction that is denied
abbrev pub IsDenied : Cond → Membership → Type 0
IsDenied part m = (parts : List Cond) × (part ≡ Any parts) × IsPreparedOf true parts m

-- what was prepared says what the condition says, and its column is one of the condition's
pub record IsMembership (cond : Cond) (m : Membership) : Type 0 where
  pub truth : (gives : ℕ → Value → Value → Truth) (at : ColumnOf → Value) → truth_of gives at cond ≡ is_in m at
  pub reads : (kinds : ℕ → Option Kinds) (tables : List Relation) (uses rows : List ℕ)
      → IsReadyOver kinds tables uses rows cond → IsInRange tables uses rows m.column
