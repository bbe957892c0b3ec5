-- Serves tests: blocks over tables, and the modules made for them.
use Rattle.std.specs.Prelude.{◌≡◌, ℕ, List, [], Option, Some, None, slice_get}
use Rattle.sq_value.specs.Rank.{Rank}
use Rattle.sq_value.specs.Relation.{Relation}
use Rattle.sq_value.specs.declared.predicate.Kinds.{Kinds}
use Rattle.sq_expr.specs.Fits.{IsFit}
use Rattle.sq_expr.specs.Reach.{IsReachable}
use Rattle.sq_expr.specs.declared.block.AliasUse.{AliasUse}
use Rattle.sq_expr.specs.declared.block.Block.{Block}
use Rattle.eddy_meaning.specs.Keys.{rows_of_key}
use Rattle.stem_module.specs.Modules.{Module}

-- no predicates
abbrev pub no_kinds : ℕ → Option Kinds
no_kinds number = None

-- a block fits the tables, without predicates, and is reachable
pub record IsGiven (tables : List Relation) (block : Block) : Type 0 where
  pub fits : IsFit no_kinds tables block
  pub reachable : IsReachable block

-- a module of an alias of a block
pub record IsModuleOf (block : Block) (tables : List Relation) (alias : ℕ) (m : Module) : Type 0 where
  pub block' : m.block ≡ block
  pub tables' : m.tables ≡ tables
  pub alias' : m.alias ≡ alias

-- no row of an alias has a key in its look-up column
abbrev pub HasNone : Block → List Relation → ℕ → Rank → Type 0
HasNone block tables alias key =
    (u : AliasUse) (column : ℕ) → slice_get block.aliases alias ≡ Some u → u.access.look_up ≡ Some column
    → rows_of_key block tables alias column key ≡ []
