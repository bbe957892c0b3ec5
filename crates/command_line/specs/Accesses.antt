-- The texts of `--index` and `--lookup`: items with a comma between each two, each a table's name, `.` and a column.
use Rattle.std.specs.Prelude.{ℕ, Bool, true, false, not, ◌&&◌, ◌==◌, nat_lt, List, [], ◌∷◌, ◌++◌, length, Option, Some, None, position, if◌then◌else◌}
use Rattle.std.specs.List.{list_any, before_first, after_first, slice_split}
use Rattle.command_line.specs.Steps.{◌>>=◌}
use Rattle.command_line.specs.Tables.{has_name}
use Rattle.command_line.specs.declared.command.TableWord.{TableWord}
use Rattle.command_line.specs.declared.command.AccessWord.{AccessWord}

-- whether a byte is `.`
abbrev pub is_dot : ℕ → Bool
is_dot b = b == 46

-- an access of the table at a place, where the column's name isn't empty
abbrev pub access_with : Bool → List ℕ → ℕ → Option AccessWord
access_with scan column table =
    if nat_lt 0 (length column) then Some (record { table = table; column = column; scan = scan }) else None

-- the access that an item asks for: its table's name stands before the first `.`, and its column's name behind it
abbrev pub access_of : List TableWord → Bool → List ℕ → Option AccessWord
access_of tables scan item = do
  table ← position (has_name (before_first is_dot item)) tables
  access_with scan (after_first is_dot item) table

-- the accesses of some items
unfoldable pub accesses_of_items : List TableWord → Bool → List (List ℕ) → Option (List AccessWord)
accesses_of_items tables scan [] = Some []
accesses_of_items tables scan (item ∷ items) = do
  access ← access_of tables scan item
  accesses ← accesses_of_items tables scan items
  Some (access ∷ accesses)

-- whether a byte is `,`
abbrev pub is_comma : ℕ → Bool
is_comma b = b == 44

-- the items of an option: none where it isn't given, else its text cut at each comma
abbrev pub items_in : Option (List ℕ) → List (List ℕ)
items_in None = []
items_in (Some text) = slice_split is_comma text

-- whether an access is one of this table
abbrev pub is_of_table : ℕ → AccessWord → Bool
is_of_table table a = a.table == table

-- whether no table has two accesses
unfoldable pub tables_differ : List AccessWord → Bool
tables_differ [] = true
tables_differ (a ∷ others) = not (list_any (is_of_table a.table) others) && tables_differ others

-- accesses of which no table has two
abbrev pub if_differ : List AccessWord → Option (List AccessWord)
if_differ accesses = if tables_differ accesses then Some accesses else None

-- the accesses that `--index` and `--lookup` ask for, in this order
abbrev pub accesses_of : List TableWord → Option (List ℕ) → Option (List ℕ) → Option (List AccessWord)
accesses_of tables index lookup = do
  with_scan ← accesses_of_items tables true (items_in index)
  without_scan ← accesses_of_items tables false (items_in lookup)
  if_differ (with_scan ++ without_scan)
