-- For the proofs: which keys asks ask for.
use Rattle.std.specs.Prelude.{◌≡◌, ℕ, ℤ, ◌<◌, ◌≤◌, true, List, Option, Some, None, length, Contains, slice_get, slice_index_or}
use Rattle.sq_value.specs.Relation.{Relation}
use Rattle.sq_value.specs.declared.predicate.Kinds.{Kinds}
use Rattle.sq_value.specs.declared.value.Value.{Value}
use Rattle.sq_value.specs.declared.value.Value.TheVariants as value
use Rattle.sq_value.specs.declared.value.Truth.{Truth}
use Rattle.sq_expr.specs.Fits.{IsFit}
use Rattle.sq_expr.specs.declared.block.AliasUse.{AliasUse}
use Rattle.sq_expr.specs.declared.block.Block.{Block}
use Rattle.sq_expr.specs.declared.cond.ColumnOf.{ColumnOf}
use Rattle.remote_lookup.specs.Asks.{AreAsks}
use Rattle.remote_lookup.specs.Filled.{remote_of}
use Rattle.remote_lookup.specs.KeyFiles.{table_columns}
use Rattle.remote_lookup.specs.Loaded.{FitRemotes}
use Rattle.remote_lookup.specs.Needed.{IsInteger, passes_own}
use Rattle.remote_lookup.specs.Own.{FitOwn}
use Rattle.remote_lookup.specs.declared.asks.Ask.{Ask}
use Rattle.remote_lookup.specs.declared.asks.By.{By}
use Rattle.remote_lookup.specs.declared.asks.By.TheVariants as by
use Rattle.remote_lookup.specs.declared.remote.Remote.{Remote}

-- a row asks a remote for a key by its value in a column, where the alias's own conjuncts are True
pub record IsAskedByCells (gives : ℕ → Value → Value → Truth) (block : Block) (asked : ℕ) (c : ColumnOf)
    (cells : List Value)
    (remote : ℕ) (key : ℤ) : Type 0 where
  pub of : asked ≡ remote
  pub own : passes_own gives block c.alias cells ≡ true
  pub has : IsInteger key (slice_index_or cells c.column value.Null)

-- one of these rows does
abbrev pub IsAskedByRows : (ℕ → Value → Value → Truth) → Block → ℕ → ColumnOf → List (List Value) → ℕ → ℤ → Type 0
IsAskedByRows gives block asked c rows remote key =
    (cells : List Value) × Contains rows cells × IsAskedByCells gives block asked c cells remote key

-- what names keys does so before any file is loaded: a literal, or a row of a table that is no remote's
abbrev pub IsAskedAt : (ℕ → Value → Value → Truth) → Block → List Relation → List Remote → ℕ → By → ℕ → ℤ → Type 0
IsAskedAt gives block tables remotes asked (by.Literal k) remote key = (asked ≡ remote) × (k ≡ key)
IsAskedAt gives block tables remotes asked (by.Column c) remote key =
    (u : AliasUse) × (slice_get block.aliases c.alias ≡ Some u) × (remote_of remotes u.table ≡ None)
    × ((t : Relation) × (slice_get tables u.table ≡ Some t) × IsAskedByRows gives block asked c t.rows remote key)

-- what names keys does so by a row of a file of a remote
abbrev pub IsAskedIn : (ℕ → Value → Value → Truth) → Block → List Remote → ℕ → List (List Value) → ℕ → By → ℕ → ℤ
    → Type 0
IsAskedIn gives block remotes from rows asked (by.Literal k) remote key = ⊥
IsAskedIn gives block remotes from rows asked (by.Column c) remote key =
    (u : AliasUse) × (slice_get block.aliases c.alias ≡ Some u) × (remote_of remotes u.table ≡ Some from)
    × IsAskedByRows gives block asked c rows remote key

-- one of these asks asks for a key: before any file is loaded, and by a row of a file of a remote
abbrev pub IsAskedFirst : (ℕ → Value → Value → Truth) → Block → List Relation → List Remote → List Ask → ℕ → ℤ → Type 0
IsAskedFirst gives block tables remotes asks remote key =
    (ask : Ask) × Contains asks ask × IsAskedAt gives block tables remotes ask.remote ask.by remote key

abbrev pub IsAskedBehind : (ℕ → Value → Value → Truth) → Block → List Remote → ℕ → List (List Value) → List Ask → ℕ → ℤ
    → Type 0
IsAskedBehind gives block remotes from rows asks remote key =
    (ask : Ask) × Contains asks ask × IsAskedIn gives block remotes from rows ask.remote ask.by remote key

-- the parts of a query fit each other
pub record IsQuery (kinds : ℕ → Option Kinds) (block : Block) (tables : List Relation) (remotes : List Remote)
    (asks : List Ask) : Type 0 where
  pub fits : IsFit kinds tables block
  pub fit : FitRemotes block tables remotes
  pub few : length remotes ≤ 4294967296
  pub are : AreAsks block remotes asks

-- a table can be asked for keys by a column of an alias: own conjuncts fit it, and it has the column
pub record CanAsk (kinds : ℕ → Option Kinds) (block : Block) (tables : List Relation) (table : ℕ) (c : ColumnOf)
    (t : Relation)
    : Type 0 where
  pub alias : c.alias < 12
  pub is : slice_get tables table ≡ Some t
  pub own : FitOwn kinds tables table c.alias block
  pub column : c.column < length t.columns

-- one table for each remote, with the columns of the remote's table
pub record AreSpare (tables : List Relation) (remotes : List Remote) (spare : List Relation) : Type 0 where
  pub count : length spare ≡ length remotes
  pub columns : (remote : ℕ) (r : Remote) (t : Relation) → slice_get remotes remote ≡ Some r
      → slice_get spare remote ≡ Some t → t.columns ≡ table_columns tables r.table
