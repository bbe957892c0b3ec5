-- The needed keys: the least set of keys of remotes that literals and rows of needed keys ask for.
use Rattle.std.specs.Prelude.{◌≡◌, ◌≢◌, ◌↔◌, ◌⊎◌, ℕ, ◌==◌, Bool, true, false, not, ◌||◌, List, [], ◌∷◌, Option, Some, None, ℤ, slice_get, slice_index_or, Contains, if◌then◌else◌}
use Rattle.std.specs.List.{list_all}
use Rattle.sq_value.specs.Rank.{Number, millionths, rank_of}
use Rattle.sq_value.specs.Relation.{Relation}
use Rattle.sq_value.specs.Truth.{is_truth}
use Rattle.sq_value.specs.declared.value.Value.{Value}
use Rattle.sq_value.specs.declared.value.Value.TheVariants as value
use Rattle.sq_value.specs.declared.value.Truth.{Truth}
use Rattle.sq_value.specs.declared.value.Truth.TheVariants.{True}
use Rattle.sq_value.specs.declared.value.Cmp.TheVariants.{Eq}
use Rattle.sq_expr.specs.Fits.{aliases_of, side_aliases}
use Rattle.sq_expr.specs.Meaning.{truth_of}
use Rattle.sq_expr.specs.Plain.{is_plain}
use Rattle.sq_expr.specs.Reach.{Compares}
use Rattle.sq_expr.specs.declared.cond.ColumnOf.{ColumnOf}
use Rattle.sq_expr.specs.declared.cond.Term.{Term}
use Rattle.sq_expr.specs.declared.cond.Side.{Side}
use Rattle.sq_expr.specs.declared.cond.Side.TheVariants as side
use Rattle.sq_expr.specs.declared.block.AliasUse.{AliasUse}
use Rattle.sq_expr.specs.declared.block.Block.{Block}
use Rattle.sq_expr.specs.declared.block.Conjunct.{Conjunct}
use Rattle.remote_lookup.specs.Filled.{remote_of, keys_at, KeysRise}
use Rattle.remote_lookup.specs.declared.remote.Remote.{Remote}
use Rattle.remote_lookup.specs.declared.remote.RemoteKey.{RemoteKey}

-- a conjunct asks a remote by a side: it equates the look-up column of an alias of the remote with the side, which is
-- plain and has no column of this alias
pub record Asks (block : Block) (remotes : List Remote) (remote : ℕ) (other : Side) : Type 0 where
  pub p : ℕ
  pub conjunct : Conjunct
  pub at : slice_get block.conjuncts p ≡ Some conjunct
  pub own : ColumnOf
  pub compares : Compares conjunct own Eq other
  pub u : AliasUse
  pub used : slice_get block.aliases own.alias ≡ Some u
  pub of : remote_of remotes u.table ≡ Some remote
  pub r : Remote
  pub is : slice_get remotes remote ≡ Some r
  pub column : own.column ≡ r.column
  pub plain : is_plain other ≡ true
  pub apart : (a : ℕ) → Contains (side_aliases other) a → a ≢ own.alias

-- the value of a column where one alias has a row and the others have none
abbrev pub value_in_row : ℕ → List Value → ColumnOf → Value
value_in_row alias row c = if c.alias == alias then slice_index_or row c.column value.Null else value.Null

-- whether a conjunct has no alias but this one
abbrev pub is_own : ℕ → Conjunct → Bool
is_own alias c = list_all (λ a. a == alias) (aliases_of c.cond)

-- whether an alias's own conjuncts are True of a row
abbrev pub passes_own : (ℕ → Value → Value → Truth) → Block → ℕ → List Value → Bool
passes_own gives block alias row =
    list_all (λ (c : Conjunct). not (is_own alias c) || is_truth (truth_of gives (value_in_row alias row) c.cond) True)
    block.conjuncts

-- a row of a table, or, where the table is a remote's, of the file of one of these keys
abbrev pub HasRowOf : (ℕ → ℤ → List (List Value)) → List Relation → (ℕ → ℤ → Bool) → ℕ → List Value → Option ℕ → Type 0
HasRowOf rows tables keys table row None = (t : Relation) × (slice_get tables table ≡ Some t) × Contains t.rows row
HasRowOf rows tables keys table row (Some remote) = (k : ℤ) × (keys remote k ≡ true) × Contains (rows remote k) row

-- a value is an integer, or a decimal number that equals it
abbrev pub IsInteger : ℤ → Value → Type 0
IsInteger k v = rank_of v ≡ Some (Number (millionths k 0))

-- a literal asks a remote for a key
pub record IsAskedByLiteral (block : Block) (remotes : List Remote) (remote : ℕ) (key : ℤ) : Type 0 where
  pub t : Term
  pub ask : Asks block remotes remote (side.Sum (t ∷ []))
  pub alone : t.column ≡ None
  pub is : t.factor ≡ key

-- a row of an alias, where its own conjuncts are True, asks a remote for a key by its value in a column
pub record IsAskedByRow (gives : ℕ → Value → Value → Truth) (block : Block) (tables : List Relation)
    (remotes : List Remote)
    (rows : ℕ → ℤ → List (List Value)) (keys : ℕ → ℤ → Bool) (remote : ℕ) (key : ℤ) : Type 0 where
  pub c : ColumnOf
  pub ask : Asks block remotes remote (side.Column c)
  pub u : AliasUse
  pub used : slice_get block.aliases c.alias ≡ Some u
  pub row : List Value
  pub of : HasRowOf rows tables keys u.table row (remote_of remotes u.table)
  pub own : passes_own gives block c.alias row ≡ true
  pub has : IsInteger key (slice_index_or row c.column value.Null)

-- a key is asked for, where a remote's rows are those of the files of these keys
abbrev pub IsAskedFor : (ℕ → Value → Value → Truth) → Block → List Relation → List Remote → (ℕ → ℤ → List (List Value))
    → (ℕ → ℤ → Bool) → ℕ → ℤ → Type 0
IsAskedFor gives block tables remotes rows keys remote key =
    IsAskedByLiteral block remotes remote key ⊎ IsAskedByRow gives block tables remotes rows keys remote key

-- a set of keys that holds each key that is asked for
pub record HoldsAsked (gives : ℕ → Value → Value → Truth) (block : Block) (tables : List Relation)
    (remotes : List Remote)
    (rows : ℕ → ℤ → List (List Value)) (keys : ℕ → ℤ → Bool) : Type 0 where
  pub holds : (remote : ℕ) (key : ℤ) → IsAskedFor gives block tables remotes rows keys remote key
      → keys remote key ≡ true

-- a key that stands in each such set, and so in the least
abbrev pub IsNeeded : (ℕ → Value → Value → Truth) → Block → List Relation → List Remote → (ℕ → ℤ → List (List Value))
    → ℕ → ℤ → Type 0
IsNeeded gives block tables remotes rows remote key =
    (keys : ℕ → ℤ → Bool) → HoldsAsked gives block tables remotes rows keys → keys remote key ≡ true

-- these are the needed keys, those of each remote in rising order
pub record AreNeeded (gives : ℕ → Value → Value → Truth) (block : Block) (tables : List Relation)
    (remotes : List Remote)
    (rows : ℕ → ℤ → List (List Value)) (keys : List RemoteKey) : Type 0 where
  pub rising : KeysRise keys
  pub each : (remote : ℕ) (key : ℤ)
      → (Contains (keys_at keys remote) key ↔ IsNeeded gives block tables remotes rows remote key)

-- the aliases of remotes are reached by look-ups in their columns alone
pub record AreRemotes (block : Block) (remotes : List Remote) : Type 0 where
  pub unscanned : (alias : ℕ) (u : AliasUse) (remote : ℕ) → slice_get block.aliases alias ≡ Some u
      → remote_of remotes u.table ≡ Some remote → u.access.scan ≡ false
  pub look_up : (alias : ℕ) (u : AliasUse) (remote : ℕ) (r : Remote) → slice_get block.aliases alias ≡ Some u
      → remote_of remotes u.table ≡ Some remote → slice_get remotes remote ≡ Some r → u.access.look_up ≡ Some r.column

-- a row of the file of a key asks a remote for a key
pub record IsAskedByFile (gives : ℕ → Value → Value → Truth) (block : Block) (remotes : List Remote)
    (rows : ℕ → ℤ → List (List Value)) (from : RemoteKey) (remote : ℕ) (key : ℤ) : Type 0 where
  pub c : ColumnOf
  pub ask : Asks block remotes remote (side.Column c)
  pub u : AliasUse
  pub used : slice_get block.aliases c.alias ≡ Some u
  pub of : remote_of remotes u.table ≡ Some from.remote
  pub row : List Value
  pub in' : Contains (rows from.remote from.key) row
  pub own : passes_own gives block c.alias row ≡ true
  pub has : IsInteger key (slice_index_or row c.column value.Null)
