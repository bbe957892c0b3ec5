-- For the tests alone: their tables and blocks.
use Rattle.std.specs.Prelude.{ℕ, true, ◌<◌, ◌≤◌, List, [], ◌∷◌, length, map, All, Option, None, codes, pos}
use Rattle.sq_value.specs.Relation.{Relation}
use Rattle.sq_value.specs.declared.value.Value.TheVariants.{Int}
use Rattle.sq_value.specs.declared.value.ColType.TheVariants.{Integer}
use Rattle.sq_value.specs.declared.value.Cmp.TheVariants.{Lt}
use Rattle.sq_value.specs.declared.predicate.Kinds.{Kinds}
use Rattle.sq_expr.specs.Fits.{FitsConjunct}
use Rattle.sq_expr.specs.declared.cond.Side.TheVariants.{Text, Column}
use Rattle.sq_expr.specs.declared.cond.Cond.TheVariants.{Compare, IsNull}
use Rattle.sq_expr.specs.declared.block.AliasUse.{AliasUse}
use Rattle.sq_expr.specs.declared.block.Block.{Block}
use Rattle.sq_expr.specs.declared.block.Conjunct.{Conjunct}

-- n: x / 1 / 2 / 3, and a table of the same column without rows
abbrev pub sample_tables : List Relation
sample_tables =
    record {
      columns = record { name = codes "x"; kind = Integer } ∷ [];
      rows = (Int (pos 1) ∷ []) ∷ (Int (pos 2) ∷ []) ∷ (Int (pos 3) ∷ []) ∷ [];
    }
    ∷ record { columns = record { name = codes "x"; kind = Integer } ∷ []; rows = [] } ∷ []

abbrev pub no_kinds : ℕ → Option Kinds
no_kinds number = None

-- a table that is scanned
abbrev pub scanned : ℕ → AliasUse
scanned table = record { table = table; access = record { scan = true; look_up = None } }

-- SELECT the first alias's column FROM tables WHERE conjuncts
abbrev pub sample_block : List ℕ → List Conjunct → Block
sample_block uses conjuncts = record {
  aliases = map scanned uses;
  conjuncts = conjuncts;
  output = record { alias = 0; column = 0; name = codes "x" } ∷ [];
  order = [];
}

-- a.x < b.x
abbrev pub below : Conjunct
below = record {
  cond = Compare (Column record { alias = 0; column = 0 }) Lt (Column record { alias = 1; column = 0 });
  span = 3;
}

-- 'a' IS NULL, which is False and has no column
abbrev pub never : Conjunct
never = record { cond = IsNull (Text (codes "a")); span = 0 }

-- such a block fits the tables
pub record IsSample (uses : List ℕ) (conjuncts : List Conjunct) : Type 0 where
  pub some : 0 < length uses
  pub few : length uses ≤ 12
  pub there : All (λ table. table < 2) uses
  pub few_conjuncts : length conjuncts ≤ 48
  pub fit : All (FitsConjunct no_kinds sample_tables uses) conjuncts
