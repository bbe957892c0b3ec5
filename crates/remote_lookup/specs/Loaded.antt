-- What loading the needed keys needs and gives, and when it may refuse, by what is given of keys' files.
use Rattle.std.specs.Prelude.{◌≡◌, ◌≢◌, ℕ, ◌+◌, ◌<◌, List, [], ◌∷◌, Option, Some, None, Result, Ok, Err, AllPairs, All, ⊤, ℤ, slice_get, IfSome, IfOk, IfErr}
use Rattle.std.specs.List.{flat_map}
use Rattle.outside.specs.Files.{File}
use Rattle.sq_value.specs.Relation.{Relation}
use Rattle.sq_value.specs.declared.value.ColType.TheVariants.{Integer}
use Rattle.sq_value.specs.declared.value.Value.{Value}
use Rattle.sq_value.specs.declared.value.Truth.{Truth}
use Rattle.sq_expr.specs.Fits.{column_kind}
use Rattle.sq_expr.specs.declared.block.Block.{Block}
use Rattle.remote_lookup.specs.Filled.{keys_at}
use Rattle.remote_lookup.specs.Needed.{AreNeeded, AreRemotes}
use Rattle.remote_lookup.specs.Rounds.{Comes, Reaches, rows_of_file}
use Rattle.remote_lookup.specs.KeyFiles.{AreKeysGiven, KeyBytes, key_file_of, table_columns}
use Rattle.remote_lookup.specs.declared.remote.Loaded.{Loaded}
use Rattle.remote_lookup.specs.declared.remote.Remote.{Remote}
use Rattle.remote_lookup.specs.declared.remote.RemoteKey.{RemoteKey}
use Rattle.remote_lookup.specs.declared.remote.RemoteFault.{RemoteFault}
use Rattle.remote_lookup.specs.declared.remote.RemoteFault.TheVariants as fault

-- a remote's table is there and empty, and its look-up column is INTEGER
pub record IsRemote (tables : List Relation) (r : Remote) : Type 0 where
  pub table : Relation
  pub is : slice_get tables r.table ≡ Some table
  pub empty : table.rows ≡ []
  pub integer : column_kind tables r.table r.column ≡ Some Integer

-- remotes fit tables and a block: they have different tables, and the aliases of these have a look-up alone
pub record FitRemotes (block : Block) (tables : List Relation) (remotes : List Remote) : Type 0 where
  pub differ : AllPairs (λ (a b : Remote). a.table ≢ b.table) remotes
  pub each : All (IsRemote tables) remotes
  pub aliases : AreRemotes block remotes

-- the tables of remotes, the first of them with this number, for a set of keys: the rows of the keys' files, by key
-- and then by record
abbrev pub remote_tables_from : (ℕ → ℤ → List (List Value)) → List Relation → List RemoteKey → ℕ → List Remote
    → List Relation
remote_tables_from rows tables keys number [] = []
remote_tables_from rows tables keys number (r ∷ rs) =
    record { columns = table_columns tables r.table; rows = flat_map (rows number) (keys_at keys number) }
    ∷ remote_tables_from rows tables keys (number + 1) rs

abbrev pub remote_tables : (ℕ → ℤ → List (List Value)) → List Relation → List RemoteKey → List Remote → List Relation
remote_tables rows tables keys remotes = remote_tables_from rows tables keys 0 remotes

-- the keys are what the rounds come to, and so the needed ones, and the tables are those of the keys
pub record AreLoaded (gives : ℕ → Value → Value → Truth) (block : Block) (tables : List Relation)
    (remotes : List Remote)
    (found : KeyBytes) (keys : List RemoteKey) (loaded : List Relation) : Type 0 where
  pub comes : Comes gives block tables remotes (key_file_of tables remotes found) [] (Ok keys)
  pub needed : AreNeeded gives block tables remotes (λ r k. rows_of_file (key_file_of tables remotes found r k)) keys
  pub filled : loaded ≡ remote_tables (λ r k. rows_of_file (key_file_of tables remotes found r k)) tables keys remotes

-- a refusal: a failed read is that of a key that the rounds reach; want of memory may come at any time; any other is
-- what the rounds come to
abbrev pub MayRefuse : (ℕ → Value → Value → Truth) → Block → List Relation → List Remote → KeyBytes → RemoteFault
    → Type 0
MayRefuse gives block tables remotes found (fault.Read at) = Reaches gives block tables remotes
    (key_file_of tables remotes found) [] at
MayRefuse gives block tables remotes found (fault.TooLong at) =
    Comes gives block tables remotes (key_file_of tables remotes found) [] (Err (fault.TooLong at))
MayRefuse gives block tables remotes found (fault.BadFile at why) =
    Comes gives block tables remotes (key_file_of tables remotes found) [] (Err (fault.BadFile at why))
MayRefuse gives block tables remotes found (fault.TooManyKeys remote) =
    Comes gives block tables remotes (key_file_of tables remotes found) [] (Err (fault.TooManyKeys remote))
MayRefuse gives block tables remotes found (fault.TooManyRows remote) =
    Comes gives block tables remotes (key_file_of tables remotes found) [] (Err (fault.TooManyRows remote))
MayRefuse gives block tables remotes found fault.Memory = ⊤

-- what is answered over what is given of keys' files, which is what a folder holds, where it tells that: what is
-- loaded, or a refusal
pub record AnswersOver (gives : ℕ → Value → Value → Truth) (block : Block) (tables : List Relation)
    (remotes : List Remote)
    (holds : Option (List File)) (answer : Result Loaded RemoteFault) : Type 0 where
  pub found : KeyBytes
  pub agrees : AreKeysGiven remotes holds found
  pub loaded : IfOk answer (λ l. AreLoaded gives block tables remotes found l.keys.items l.tables.items)
  pub refused : IfErr answer (MayRefuse gives block tables remotes found)

-- what holds of a refusal that is neither a failed read nor want of memory
abbrev pub UnlessReadOrMemory : RemoteFault → Type 0 → Type 0
UnlessReadOrMemory (fault.Read at) told = ⊤
UnlessReadOrMemory (fault.TooLong at) told = told
UnlessReadOrMemory (fault.BadFile at why) told = told
UnlessReadOrMemory (fault.TooManyKeys remote) told = told
UnlessReadOrMemory (fault.TooManyRows remote) told = told
UnlessReadOrMemory fault.Memory told = ⊤

-- the remote that a refusal names
abbrev pub remote_named : RemoteFault → Option ℕ
remote_named (fault.Read at) = Some at.remote
remote_named (fault.TooLong at) = Some at.remote
remote_named (fault.BadFile at why) = Some at.remote
remote_named (fault.TooManyKeys remote) = Some remote
remote_named (fault.TooManyRows remote) = Some remote
remote_named fault.Memory = None

-- a refusal names one of so many remotes, if any
abbrev pub NamesOneOf : ℕ → RemoteFault → Type 0
NamesOneOf remotes f = IfSome (remote_named f) (λ remote. remote < remotes)
