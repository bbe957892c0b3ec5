-- For the proofs: what an own conjunct needs, to be asked of a row of one table.
use Rattle.std.specs.Prelude.{◌≡◌, ◌↔◌, ◌||◌, ℕ, Bool, true, not, List, replicate, Option, All, Contains, IsBitSet}
use Rattle.sq_value.specs.Relation.{Relation}
use Rattle.sq_value.specs.declared.predicate.Kinds.{Kinds}
use Rattle.sq_value.specs.Truth.{is_truth}
use Rattle.sq_value.specs.declared.value.Truth.{Truth}
use Rattle.sq_value.specs.declared.value.Truth.TheVariants.{True}
use Rattle.sq_value.specs.declared.value.Value.{Value}
use Rattle.sq_expr.specs.Fits.{FitsCond, Covers, aliases_of}
use Rattle.sq_expr.specs.Meaning.{truth_of}
use Rattle.sq_expr.specs.declared.cond.ColumnOf.{ColumnOf}
use Rattle.sq_expr.specs.declared.block.Block.{Block}
use Rattle.sq_expr.specs.declared.block.Conjunct.{Conjunct}
use Rattle.remote_lookup.specs.Needed.{is_own}

-- a conjunct's span is the set of the aliases that occur in it
abbrev pub HasSpan : Conjunct → Type 0
HasSpan c = (a : ℕ) → (IsBitSet c.span a ↔ Contains (aliases_of c.cond) a)

-- a conjunct, where it is an alias's own, fits a table that each alias uses
pub record FitsOwn (kinds : ℕ → Option Kinds) (tables : List Relation) (table alias : ℕ) (c : Conjunct) : Type 0 where
  pub span : HasSpan c
  pub fits : is_own alias c ≡ true → FitsCond kinds tables (replicate 12 table) c.cond

-- all conjuncts of a block do
abbrev pub FitOwn : (ℕ → Option Kinds) → List Relation → ℕ → ℕ → Block → Type 0
FitOwn kinds tables table alias block = All (FitsOwn kinds tables table alias) block.conjuncts

-- and may be asked of chosen rows
pub record IsReadyOwn (kinds : ℕ → Option Kinds) (tables : List Relation) (uses rows : List ℕ) (span alias : ℕ)
    (c : Conjunct)
    : Type 0 where
  pub of : HasSpan c
  pub fits : is_own alias c ≡ true → FitsCond kinds tables uses c.cond
  pub covered : is_own alias c ≡ true → Covers tables uses rows span c.cond

-- whether a conjunct is True, or isn't an alias's own
abbrev pub holds_own : (ℕ → Value → Value → Truth) → (ColumnOf → Value) → ℕ → Conjunct → Bool
holds_own gives at alias c = not (is_own alias c) || is_truth (truth_of gives at c.cond) True
