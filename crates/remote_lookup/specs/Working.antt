-- For the proofs: what holds between two loads.
use Rattle.std.specs.Prelude.{◌≡◌, ◌↔◌, ◌||◌, ℕ, ℤ, ◌+◌, ◌<◌, ◌≤◌, ◌==◌, nat_lt, true, List, [], length, map, filter, All, Option, Some, None, Result, Ok, slice_get}
use Rattle.std.specs.List.{flat_map, find, range_with_len}
use Rattle.std.specs.Option.{option_map_or}
use Rattle.outside.specs.Files.{File}
use Rattle.sq_value.specs.Relation.{Relation}
use Rattle.sq_value.specs.declared.value.Value.{Value}
use Rattle.sq_value.specs.declared.value.Truth.{Truth}
use Rattle.sq_expr.specs.declared.block.Block.{Block}
use Rattle.remote_lookup.specs.Asked.{AreFresh}
use Rattle.remote_lookup.specs.Asking.{AreSpare}
use Rattle.remote_lookup.specs.Filled.{keys_at}
use Rattle.remote_lookup.specs.KeyFiles.{AreKeysGiven, KeyBytes, key_file_of, key_name, rows_in, table_columns}
use Rattle.remote_lookup.specs.Needed.{IsAskedFor}
use Rattle.remote_lookup.specs.Reading.{OverFile}
use Rattle.remote_lookup.specs.Rounds.{AreOrdered, Cause, Comes, first_fault, lists_key, row_count_of, rows_of_file}
use Rattle.remote_lookup.specs.declared.remote.Remote.{Remote}
use Rattle.remote_lookup.specs.declared.remote.RemoteFault.{RemoteFault}
use Rattle.remote_lookup.specs.declared.remote.RemoteKey.{RemoteKey}
use Rattle.remote_lookup.specs.declared.rounds.Tally.{Tally}
use Rattle.remote_lookup.specs.declared.rounds.Work.{Work}

-- a remote's table without rows
abbrev pub empty_of : List Relation → Remote → Relation
empty_of tables r = record { columns = table_columns tables r.table; rows = [] }

-- the keys that are loaded
abbrev pub known : List (RemoteKey × Relation) → List RemoteKey
known entries = map (λ (e : RemoteKey × Relation). e.0) entries

-- keys are those of two lists: the same ones, as many, as many of each remote, and as many rows whatever the files are
pub record AreJoined (a b c : List RemoteKey) : Type 0 where
  pub has : (remote : ℕ) (key : ℤ) → lists_key c remote key ≡ (lists_key a remote key || lists_key b remote key)
  pub size : length c ≡ length a + length b
  pub count : (remote : ℕ) → length (keys_at c remote) ≡ length (keys_at a remote) + length (keys_at b remote)
  pub rows : (file : ℕ → ℤ → Result (List (List Value)) Cause) (remote : ℕ)
      → row_count_of file c remote ≡ row_count_of file a remote + row_count_of file b remote

-- how many rows of a remote are loaded
abbrev pub rows_loaded : List (RemoteKey × Relation) → ℕ → ℕ
rows_loaded entries remote =
    length (flat_map (λ (e : RemoteKey × Relation). e.1.rows)
    (filter (λ (e : RemoteKey × Relation). e.0.remote == remote) entries))

-- a tally tells the keys and the rows of a remote, which are few
pub record IsTallyOf (entries : List (RemoteKey × Relation)) (remote : ℕ) (t : Tally) : Type 0 where
  pub keys : t.keys ≡ length (keys_at (known entries) remote)
  pub rows : t.rows ≡ rows_loaded entries remote
  pub few_keys : t.keys ≤ 10000
  pub few_rows : t.rows ≤ 4000000

-- what is loaded of a key are the rows of its file
abbrev pub IsStored : (ℕ → ℤ → Result (List (List Value)) Cause) → RemoteKey × Relation → Type 0
IsStored file e = file e.0.remote e.0.key ≡ Ok e.1.rows

-- a key's table is of a remote that is there, and has the columns of its table
abbrev pub IsEntry : List Relation → List Remote → RemoteKey × Relation → Type 0
IsEntry tables remotes e = (r : Remote) × (slice_get remotes e.0.remote ≡ Some r)
    × (e.1.columns ≡ table_columns tables r.table)

-- the parts of the work fit each other
pub record IsWork (tables : List Relation) (remotes : List Remote) (w : Work) : Type 0 where
  pub ordered : AreOrdered (known w.loaded)
  pub spare : AreSpare tables remotes w.spare
  pub count : length w.tallies.items ≡ length remotes
  pub tallies : (remote : ℕ) (t : Tally) → slice_get w.tallies.items remote ≡ Some t → IsTallyOf w.loaded remote t
  pub entries : All (IsEntry tables remotes) w.loaded
  pub asked : AreOrdered w.asked.all
  pub there : (remote : ℕ) (key : ℤ) → lists_key w.asked.all remote key ≡ true → remote < length remotes

-- so it is of all that is loaded
abbrev pub AreStored : (ℕ → ℤ → Result (List (List Value)) Cause) → List (RemoteKey × Relation) → Type 0
AreStored file entries = All (IsStored file) entries

-- what is asked for is what the rows of the loaded keys ask for, where the files are these
abbrev pub IsTrueOf : (ℕ → Value → Value → Truth) → Block → List Relation → List Remote
    → (ℕ → ℤ → Result (List (List Value)) Cause) → Work → Type 0
IsTrueOf gives block tables remotes file w =
    (remote : ℕ) (key : ℤ) → ((lists_key w.asked.all remote key ≡ true)
    ↔ IsAskedFor gives block tables remotes (λ r k. rows_of_file (file r k)) (lists_key (known w.loaded)) remote key)

-- what the work means: so it is whatever the files are, where what is loaded are their rows
abbrev pub Means : (ℕ → Value → Value → Truth) → Block → List Relation → List Remote → Work → Type 0
Means gives block tables remotes w =
    (file : ℕ → ℤ → Result (List (List Value)) Cause) → AreStored file w.loaded
    → IsTrueOf gives block tables remotes file w

-- and at the end: the rounds come to the keys that are loaded
abbrev pub HasCome : (ℕ → Value → Value → Truth) → Block → List Relation → List Remote → Work → Type 0
HasCome gives block tables remotes w =
    (file : ℕ → ℤ → Result (List (List Value)) Cause) → AreStored file w.loaded
    → Comes gives block tables remotes file [] (Ok (known w.loaded))

-- the file of a key may be this, by what is given of it
abbrev pub MayBe : List Relation → List Remote → Option (List File) → RemoteKey → Result (List (List Value)) Cause
    → Type 0
MayBe tables remotes held at is =
    (r : Remote) × (slice_get remotes at.remote ≡ Some r)
    × OverFile (key_name r.prefix at.key) held
    (λ found. rows_in (table_columns tables r.table) r.column at.key found ≡ is)

-- what is loaded of a key are the rows that its file may have
abbrev pub IsFound : List Relation → List Remote → Option (List File) → RemoteKey × Relation → Type 0
IsFound tables remotes held e = MayBe tables remotes held e.0 (Ok e.1.rows)

abbrev pub AreFound : List Relation → List Remote → Option (List File) → List (RemoteKey × Relation) → Type 0
AreFound tables remotes held entries = All (IsFound tables remotes held) entries

-- this holds over what is given of keys' files
abbrev pub OverKeys : List Remote → Option (List File) → (KeyBytes → Type 0) → Type 0
OverKeys remotes held P = (found : KeyBytes) × AreKeysGiven remotes held found × P found

-- this holds of the files of keys over what is given of them, where what is loaded are their rows
abbrev pub OverLoaded : List Relation → List Remote → Option (List File) → List (RemoteKey × Relation)
    → ((ℕ → ℤ → Result (List (List Value)) Cause) → Type 0) → Type 0
OverLoaded tables remotes held entries P =
    (found : KeyBytes) × AreKeysGiven remotes held found
    × AreStored (key_file_of tables remotes found) entries × P (key_file_of tables remotes found)

-- the first fault of keys that are loaded in order
abbrev pub FirstFaultIs : List Relation → List Remote → Option (List File) → List (RemoteKey × Relation)
    → List RemoteKey → Option RemoteFault → Type 0
FirstFaultIs tables remotes held entries keys is =
    OverLoaded tables remotes held entries (λ file. first_fault file (known entries) keys ≡ is)

-- keys were loaded, none of which has a fault, and what was loaded before still is
pub record HaveLoaded (gives : ℕ → Value → Value → Truth) (block : Block) (tables : List Relation)
    (remotes : List Remote)
    (held : Option (List File)) (keys : List RemoteKey) (before after : Work) : Type 0 where
  pub work : IsWork tables remotes after
  pub fresh : (base : List RemoteKey) → AreFresh base before.asked.all before.asked.fresh
      → AreFresh base after.asked.all after.asked.fresh
  pub joined : AreJoined (known before.loaded) keys (known after.loaded)
  pub means : Means gives block tables remotes before → Means gives block tables remotes after
  pub found : AreFound tables remotes held before.loaded → AreFound tables remotes held after.loaded
  pub still : (file : ℕ → ℤ → Result (List (List Value)) Cause) → AreStored file after.loaded
      → AreStored file before.loaded
  pub whole : (file : ℕ → ℤ → Result (List (List Value)) Cause) → AreStored file after.loaded
      → first_fault file (known before.loaded) keys ≡ None

-- how many keys of a remote tallies tell
abbrev pub keys_at_remote : List Tally → ℕ → ℕ
keys_at_remote tallies remote = option_map_or (λ (t : Tally). t.keys) (slice_get tallies remote) 0

-- the first remote of which there are more than 10,000 keys together with fresh ones
abbrev pub crowded_with : List Tally → List RemoteKey → Option ℕ
crowded_with tallies fresh =
    find (λ (r : ℕ). nat_lt 10000 (keys_at_remote tallies r + length (filter (λ (k : RemoteKey). k.remote == r) fresh)))
    (range_with_len 0 (length tallies))
