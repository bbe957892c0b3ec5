-- The remotes of the words: their heading files, and the catalogue with their tables behind the others.
use Rattle.std.specs.Prelude.{◌≡◌, ℕ, ◌+◌, ◌==◌, Bool, true, false, List, [], ◌∷◌, ◌++◌, length, Option, Some, None, option_map, option_and_then, slice_get, Result, Ok, Err, if◌then◌else◌}
use Rattle.sq_value.specs.Relation.{Relation}
use Rattle.sq_value.specs.declared.table.Column.{Column}
use Rattle.sq_value.specs.declared.value.ColType.{ColType}
use Rattle.sq_value.specs.declared.value.ColType.TheVariants as kind
use Rattle.table_csv.specs.TableFile.{table_of_bytes}
use Rattle.table_csv.specs.declared.fault.TableFault.{TableFault}
use Rattle.catalogue.specs.Named.{NamedTables, with_table}
use Rattle.command_line.specs.declared.command.RemoteWord.{RemoteWord}
use Rattle.remote_lookup.specs.declared.remote.Remote.{Remote}
use Rattle.run_plan.specs.declared.opening.Heading.{Heading}
use Rattle.run_plan.specs.Accesses.{place_of_column}
use Rattle.run_plan.specs.Files.{file_read}
use Rattle.run_plan.specs.Steps.{◌>>=◌, or_refuse}
use Rattle.run_plan.specs.declared.status.Status.{Status}
use Rattle.run_plan.specs.declared.status.Status.TheVariants as status
use Rattle.run_plan.specs.declared.status.FileOf.TheVariants as file

-- whether a type is INTEGER
abbrev pub is_integer_type : Option ColType → Bool
is_integer_type (Some kind.Integer) = true
is_integer_type (Some kind.Text) = false
is_integer_type (Some (kind.Decimal scale)) = false
is_integer_type None = false

-- the type of the column at a place
abbrev pub kind_of_column : List Column → ℕ → Option ColType
kind_of_column columns place = option_map (λ (c : Column). c.kind) (slice_get columns place)

abbrev pub if_integer : List Column → ℕ → Option ℕ
if_integer columns place = if is_integer_type (kind_of_column columns place) then Some place else None

-- the place of the column of this name, where it is INTEGER
abbrev pub integer_named : List Column → List ℕ → Option ℕ
integer_named columns name = option_and_then (if_integer columns) (place_of_column columns name)

-- a table as the heading of a remote that is looked up by this column: it has no rows
abbrev pub heading_of : List ℕ → Relation → Option Heading
heading_of name t =
    if length t.rows == 0
    then option_map (λ (column : ℕ). record { table = t; column = column }) (integer_named t.columns name)
    else None

abbrev pub heading_in : List ℕ → Result Relation TableFault → Option Heading
heading_in name (Ok t) = heading_of name t
heading_in name (Err f) = None

-- a heading's table has no rows, and its column is INTEGER
pub record IsHeadingOf (h : Heading) : Type 0 where
  pub empty : h.table.rows ≡ []
  pub integer : kind_of_column h.table.columns h.column ≡ Some kind.Integer

-- the heading of a remote, by what is given of its file; remotes count from 0
unfoldable pub heading_read : ℕ → Option (List ℕ) → RemoteWord → Result Heading Status
heading_read number found word = do
  bytes ← file_read (file.Heading number) found
  or_refuse (status.BadHeading number) (heading_in word.column (table_of_bytes bytes))

-- a catalogue, and the remotes that have their tables there
pub record Opened : Type 0 where
  pub catalogue : NamedTables
  pub remotes : List Remote

abbrev pub opened_as : NamedTables → List Remote → Opened
opened_as catalogue remotes = record { catalogue = catalogue; remotes = remotes }

-- one more remote: its table is put behind the others
abbrev pub with_remote : Opened → RemoteWord → Heading → Opened
with_remote o word heading =
    opened_as (with_table o.catalogue word.name heading.table)
    (o.remotes ++ record { table = length o.catalogue.tables; column = heading.column; prefix = word.prefix } ∷ [])

-- the remotes of these words, in order, the first of them with this number, behind others, by what is given of their
-- headings, one each
unfoldable pub remotes_opened : ℕ → List (Option (List ℕ)) → Opened → List RemoteWord → Result Opened Status
remotes_opened number founds o [] = Ok o
remotes_opened number [] o (word ∷ more) = Ok o
remotes_opened number (found ∷ founds) o (word ∷ more) = do
  heading ← heading_read number found word
  remotes_opened (number + 1) founds (with_remote o word heading) more
