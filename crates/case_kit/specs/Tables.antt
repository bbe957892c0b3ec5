-- Serves tests: small tables as a text, a table a line.
use Rattle.std.specs.Prelude.{ℕ, Bool, List, [], ◌∷◌, map, Option, Some, None, Result, Ok, Err, is_some, ◌==◌, if◌then◌else◌, option_and_then}
use Rattle.std.specs.List.{before_first, after_first}
use Rattle.std.specs.Str.Lines.{lines}
use Rattle.sq_value.specs.Relation.{Relation}
use Rattle.catalogue.specs.Named.{NamedTables, no_tables, place_of_table, with_table}
use Rattle.table_csv.specs.TableFile.{table_of_bytes}
use Rattle.table_csv.specs.declared.fault.TableFault.{TableFault}

-- whether a byte is a blank
abbrev pub is_blank : ℕ → Bool
is_blank b = b == 32

-- the bytes of a file whose lines have a slash between each two
abbrev pub file_in : List ℕ → List ℕ
file_in text = map (λ b. if b == 47 then 10 else b) text

-- one table more, where it was read and its name is new
abbrev pub with_read : NamedTables → List ℕ → Result Relation TableFault → Option NamedTables
with_read before name (Ok table) =
    if is_some (place_of_table before name) then None else Some (with_table before name table)
with_read before name (Err fault) = None

-- one table more, by its line: its name, a blank, and its file
abbrev pub with_line : NamedTables → List ℕ → Option NamedTables
with_line before line =
    with_read before (before_first is_blank line) (table_of_bytes (file_in (after_first is_blank line)))

-- the tables of some lines behind others, where each has one
abbrev pub with_lines : List (List ℕ) → NamedTables → Option NamedTables
with_lines [] before = Some before
with_lines (line ∷ rest) before = option_and_then (with_lines rest) (with_line before line)

-- the tables of a text
abbrev pub tables_in : List ℕ → Option NamedTables
tables_in text = with_lines (lines text) no_tables
