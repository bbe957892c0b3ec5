-- What is given of the files of keys, and what the file of a key is: its rows, none where it is missing, or why it is
-- no part of its remote.
use Rattle.std.specs.Prelude.{◌≡◌, ℕ, ◌+◌, nat_lt, Bool, false, List, [], ◌∷◌, ◌++◌, length, codes, Option, Some, None, Result, Ok, Err, ℤ, slice_get, if◌then◌else◌}
use Rattle.std.specs.Fmt.{signed_decimal}
use Rattle.std.specs.Option.{option_map_or}
use Rattle.std.specs.Ordering.{int_eq}
use Rattle.outside.specs.Files.{File, lookup}
use Rattle.sq_value.specs.Columns.{are_same_columns}
use Rattle.sq_value.specs.Relation.{Relation}
use Rattle.sq_value.specs.declared.table.Column.{Column}
use Rattle.sq_value.specs.declared.value.Value.{Value}
use Rattle.sq_value.specs.declared.value.Value.TheVariants as value
use Rattle.table_csv.specs.TableFile.{table_of_bytes}
use Rattle.table_csv.specs.declared.fault.TableFault.{TableFault}
use Rattle.remote_lookup.specs.Rounds.{Cause, TooLong, Bad}
use Rattle.remote_lookup.specs.declared.remote.KeyFault.TheVariants as fault
use Rattle.remote_lookup.specs.declared.remote.Remote.{Remote}

-- the name of a key's file
abbrev pub key_name : List ℕ → ℤ → List ℕ
key_name prefix key = prefix ++ signed_decimal key ++ codes ".csv"

-- what is given of keys' files: the bytes of the file of each key of each remote, or that it is missing
abbrev pub KeyBytes : Type 0
KeyBytes = ℕ → ℤ → Option (List ℕ)

-- what is given of them is what a folder holds, where it tells that
abbrev pub AreKeysGiven : List Remote → Option (List File) → KeyBytes → Type 0
AreKeysGiven remotes holds found =
    (files : List File) → holds ≡ Some files → (remote : ℕ) (key : ℤ) (r : Remote) → slice_get remotes remote ≡ Some r
    → found remote key ≡ lookup files (key_name r.prefix key)

-- whether a value is this integer
abbrev pub is_that_integer : ℤ → Option Value → Bool
is_that_integer key None = false
is_that_integer key (Some value.Null) = false
is_that_integer key (Some (value.Int n)) = int_eq n key
is_that_integer key (Some (value.Text t)) = false
is_that_integer key (Some (value.Decimal d)) = false

-- the first record with another key, or none; records count from a number on
abbrev pub other_key : ℕ → ℤ → ℕ → List (List Value) → Option ℕ
other_key column key number [] = None
other_key column key number (row ∷ rows) =
    if is_that_integer key (slice_get row column) then other_key column key (number + 1) rows else Some number

abbrev pub unless_other : List (List Value) → Option ℕ → Result (List (List Value)) Cause
unless_other rows None = Ok rows
unless_other rows (Some rec) = Err (Bad (fault.OtherKey rec))

-- the rows of a key's table
abbrev pub rows_for : List Column → ℕ → ℤ → Result Relation TableFault → Result (List (List Value)) Cause
rows_for columns column key (Err f) = Err (Bad (fault.Table f))
rows_for columns column key (Ok t) =
    if are_same_columns t.columns columns then unless_other t.rows (other_key column key 1 t.rows) else Err
    (Bad fault.Columns)

abbrev pub rows_in : List Column → ℕ → ℤ → Option (List ℕ) → Result (List (List Value)) Cause
rows_in columns column key None = Ok []
rows_in columns column key (Some bytes) =
    if nat_lt 67108864 (length bytes) then Err TooLong else rows_for columns column key (table_of_bytes bytes)

abbrev pub table_columns : List Relation → ℕ → List Column
table_columns tables table = option_map_or (λ (t : Relation). t.columns) (slice_get tables table) []

abbrev pub file_in : List Relation → Option (List ℕ) → ℤ → Option Remote → Result (List (List Value)) Cause
file_in tables found key None = Ok []
file_in tables found key (Some r) = rows_in (table_columns tables r.table) r.column key found

-- what the file of a key of a remote is, by what is given of keys' files
unfoldable pub key_file_of : List Relation → List Remote → KeyBytes → ℕ → ℤ → Result (List (List Value)) Cause
key_file_of tables remotes found remote key = file_in tables (found remote key) key (slice_get remotes remote)
