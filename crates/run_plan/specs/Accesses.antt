-- How each table is reached: a remote's by its look-up alone, any other as an access of the words says, or by a scan.
use Rattle.std.specs.Prelude.{ℕ, ◌+◌, ◌==◌, List, [], ◌∷◌, length, map, Option, Some, None, is_some, false, position, slice_get, option_and_then, Result, Ok, Err, if◌then◌else◌}
use Rattle.std.specs.List.{find, range_with_len}
use Rattle.sq_value.specs.Name.{is_same_name}
use Rattle.sq_value.specs.Relation.{Relation}
use Rattle.sq_value.specs.declared.table.Column.{Column}
use Rattle.sq_expr.specs.declared.block.Access.{Access}
use Rattle.sq_bind.specs.Statement.{columns_at, scanned}
use Rattle.command_line.specs.declared.command.AccessWord.{AccessWord}
use Rattle.remote_lookup.specs.Filled.{remote_of}
use Rattle.remote_lookup.specs.declared.remote.Remote.{Remote}
use Rattle.run_plan.specs.declared.status.Status.{Status}
use Rattle.run_plan.specs.declared.status.Status.TheVariants as status

-- the place of a column of this name
abbrev pub place_of_column : List Column → List ℕ → Option ℕ
place_of_column columns name = position (λ (c : Column). is_same_name c.name name) columns

-- the place of the column that an access names, where its table has it
abbrev pub column_asked : List Relation → AccessWord → Option ℕ
column_asked tables a = place_of_column (columns_at tables a.table) a.column

-- the first access whose table lacks its column, where accesses count from a number on
unfoldable pub first_lacking : List Relation → ℕ → List AccessWord → Option ℕ
first_lacking tables number [] = None
first_lacking tables number (a ∷ more) =
    if is_some (column_asked tables a) then first_lacking tables (number + 1) more else Some number

-- how a table is reached that an access of the words names, or none
abbrev pub access_by : List Relation → Option AccessWord → Access
access_by tables None = scanned
access_by tables (Some a) = record { scan = a.scan; look_up = column_asked tables a }

abbrev pub access_to : List Relation → List AccessWord → ℕ → Access
access_to tables asked table = access_by tables (find (λ (a : AccessWord). a.table == table) asked)

-- the remote that has this table, where there is one
abbrev pub remote_at : List Remote → ℕ → Option Remote
remote_at remotes table = option_and_then (slice_get remotes) (remote_of remotes table)

-- a remote's table is reached by its look-up alone
abbrev pub access_over : Option Remote → Access → Access
access_over None other = other
access_over (Some r) other = record { scan = false; look_up = Some r.column }

abbrev pub reach_to : List Relation → List AccessWord → List Remote → ℕ → Access
reach_to tables asked remotes table = access_over (remote_at remotes table) (access_to tables asked table)

-- how each table is reached
abbrev pub accesses_to : List Relation → List AccessWord → List Remote → List Access
accesses_to tables asked remotes = map (reach_to tables asked remotes) (range_with_len 0 (length tables))

abbrev pub unless_lacking : Option ℕ → List Access → Result (List Access) Status
unless_lacking None accesses = Ok accesses
unless_lacking (Some access) accesses = Err (status.NoColumn access)

-- the same, where each access names a column of its table; accesses count from 1
unfoldable pub accesses_read : List Relation → List AccessWord → List Remote → Result (List Access) Status
accesses_read tables asked remotes = unless_lacking (first_lacking tables 1 asked) (accesses_to tables asked remotes)
