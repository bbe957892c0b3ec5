-- The files that the words name: the script's text, and the tables.
use Rattle.std.specs.Prelude.{ℕ, ◌+◌, nat_lt, List, [], ◌∷◌, length, map, Option, Result, Ok, Err, if◌then◌else◌}
use Rattle.sq_value.specs.Name.{lower}
use Rattle.sq_value.specs.Relation.{Relation}
use Rattle.table_csv.specs.TableFile.{table_of_bytes}
use Rattle.catalogue.specs.Named.{NamedTables}
use Rattle.command_line.specs.declared.command.TableWord.{TableWord}
use Rattle.run_plan.specs.Faults.{table_status}
use Rattle.run_plan.specs.Steps.{◌>>=◌, or_refuse, or_fault}
use Rattle.run_plan.specs.declared.status.Status.{Status}
use Rattle.run_plan.specs.declared.status.Status.TheVariants as status
use Rattle.run_plan.specs.declared.status.FileOf.{FileOf}
use Rattle.run_plan.specs.declared.status.FileOf.TheVariants as file
use Rattle.run_plan.specs.declared.status.LimitOf.TheVariants as limit

-- a text, where it has at most 67,108,864 bytes
abbrev pub short_text : FileOf → List ℕ → Result (List ℕ) Status
short_text file text = if nat_lt 67108864 (length text) then Err (status.Limit (limit.File file)) else Ok text

-- the text of a file, by what is given of it
unfoldable pub file_read : FileOf → Option (List ℕ) → Result (List ℕ) Status
file_read file found = do
  text ← or_refuse (status.NotFound file) found
  short_text file text

-- the table of a file; tables count from 0
unfoldable pub table_read : ℕ → Option (List ℕ) → Result Relation Status
table_read number found = do
  bytes ← file_read (file.Table number) found
  or_fault (table_status number) (table_of_bytes bytes)

-- the tables of files in order, the first of them with this number
unfoldable pub tables_read : ℕ → List (Option (List ℕ)) → Result (List Relation) Status
tables_read number [] = Ok []
tables_read number (found ∷ more) = do
  table ← table_read number found
  tables ← tables_read (number + 1) more
  Ok (table ∷ tables)

-- tables under the names of these words
abbrev pub catalogue_of : List TableWord → List Relation → NamedTables
catalogue_of words tables = record { names = map (λ (t : TableWord). lower t.name) words; tables = tables }

-- the catalogue of these words, by what is given of their files
unfoldable pub catalogue_read : List (Option (List ℕ)) → List TableWord → Result NamedTables Status
catalogue_read founds words = do
  tables ← tables_read 0 founds
  Ok (catalogue_of words tables)
