-- Which aliases of a block can be reached, by scans and by look-ups in a column.
use Rattle.std.specs.Prelude.{◌≡◌, ◌≢◌, ◌⊎◌, ℕ, ◌<◌, Bool, true, length, Some, slice_get, Contains}
use Rattle.sq_value.specs.declared.value.Cmp.{Cmp}
use Rattle.sq_value.specs.declared.value.Cmp.TheVariants.{Eq}
use Rattle.sq_expr.specs.Fits.{side_aliases}
use Rattle.sq_expr.specs.Plain.{is_plain}
use Rattle.sq_expr.specs.declared.cond.ColumnOf.{ColumnOf}
use Rattle.sq_expr.specs.declared.cond.Side.{Side}
use Rattle.sq_expr.specs.declared.cond.Side.TheVariants as side
use Rattle.sq_expr.specs.declared.cond.Cond.TheVariants.{Compare}
use Rattle.sq_expr.specs.declared.block.AliasUse.{AliasUse}
use Rattle.sq_expr.specs.declared.block.Block.{Block}
use Rattle.sq_expr.specs.declared.block.Conjunct.{Conjunct}

-- a comparison of a column with another side, either way round
pub record Compares (c : Conjunct) (own : ColumnOf) (cmp : Cmp) (other : Side) : Type 0 where
  pub is : (c.cond ≡ Compare (side.Column own) cmp other) ⊎ (c.cond ≡ Compare other cmp (side.Column own))

-- the look-up column of an alias is equated with a literal or a column of another alias of a set
pub record IsLed (block : Block) (set' : ℕ → Bool) (alias : ℕ) : Type 0 where
  pub u : AliasUse
  pub used : slice_get block.aliases alias ≡ Some u
  pub p : ℕ
  pub conjunct : Conjunct
  pub at : slice_get block.conjuncts p ≡ Some conjunct
  pub own : ColumnOf
  pub other : Side
  pub compares : Compares conjunct own Eq other
  pub of : own.alias ≡ alias
  pub look_up : u.access.look_up ≡ Some own.column
  pub plain : is_plain other ≡ true
  pub led : (a : ℕ) → Contains (side_aliases other) a → (a ≢ alias) × (set' a ≡ true)

-- a set that holds the scanned aliases and those that are led to from it
pub record IsClosed (block : Block) (set' : ℕ → Bool) : Type 0 where
  pub scanned : (alias : ℕ) (u : AliasUse)
      → slice_get block.aliases alias ≡ Some u → u.access.scan ≡ true → set' alias ≡ true
  pub led : (alias : ℕ) → IsLed block set' alias → set' alias ≡ true

-- an alias that stands in each closed set, and so in the least
abbrev pub IsInReach : Block → ℕ → Type 0
IsInReach block alias = (set' : ℕ → Bool) → IsClosed block set' → set' alias ≡ true

-- some alias is scanned, and each alias stands in each closed set
pub record IsReachable (block : Block) : Type 0 where
  pub first : ℕ
  pub u : AliasUse
  pub at : slice_get block.aliases first ≡ Some u
  pub scanned : u.access.scan ≡ true
  pub each : (set' : ℕ → Bool) → IsClosed block set' → (alias : ℕ) → alias < length block.aliases → set' alias ≡ true
