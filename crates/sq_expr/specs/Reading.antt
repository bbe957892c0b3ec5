-- Serves proofs: reading a condition's sides over chosen rows.
use Rattle.std.specs.Prelude.{◌≡◌, ℕ, ◌<◌, List, length, Option, Some, slice_get, slice_index}
use Rattle.sq_value.specs.Relation.{Relation}
use Rattle.sq_value.specs.declared.value.ColType.{ColType}
use Rattle.sq_value.specs.declared.predicate.Kinds.{Kinds}
use Rattle.sq_expr.specs.Fits.{kind_in, FitsHere}
use Rattle.sq_expr.specs.declared.cond.ColumnOf.{ColumnOf}
use Rattle.sq_expr.specs.declared.cond.Cond.{Cond, every-Cond}

-- the column stands in the chosen row of its alias
pub record IsInRange (tables : List Relation) (uses rows : List ℕ) (c : ColumnOf) : Type 0 where
  pub alias : c.alias < 12
  pub table : slice_index uses c.alias < length tables
  pub row : (t : Relation) → slice_get tables (slice_index uses c.alias) ≡ Some t
      → slice_index rows c.alias < length t.rows
  pub column : (t : Relation) → slice_get tables (slice_index uses c.alias) ≡ Some t → c.column < length t.columns

-- a column of this type that stands in the chosen row of its alias
pub record IsSeen (tables : List Relation) (uses rows : List ℕ) (c : ColumnOf) (k : ColType) : Type 0 where
  pub range : IsInRange tables uses rows c
  pub kind : kind_in tables uses c ≡ Some k

-- a condition that fits and whose columns stand in the chosen rows
abbrev pub IsReadyOver : (ℕ → Option Kinds) → List Relation → List ℕ → List ℕ → Cond → Type 0
IsReadyOver kinds tables uses rows cond = every-Cond (FitsHere kinds (IsSeen tables uses rows)) cond
