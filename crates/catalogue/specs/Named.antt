-- Tables under names, which are the same but for the case of ASCII letters, as SQL-92 compares its identifiers.
use Rattle.std.specs.Prelude.{ℕ, List, [], ◌∷◌, ◌++◌, Option, position}
use Rattle.std.specs.Str.{bytes_eq}
use Rattle.sq_value.specs.Name.{lower}
use Rattle.sq_value.specs.Relation.{Relation}

-- a catalogue: the names in lower case of ASCII letters, and the tables, each at its name's place
pub record NamedTables : Type 0 where
  pub names : List (List ℕ)
  pub tables : List Relation

-- a catalogue without tables
abbrev pub no_tables : NamedTables
no_tables = record { names = []; tables = [] }

-- the place of the table of that name, counted from 0
abbrev pub place_of_table : NamedTables → List ℕ → Option ℕ
place_of_table catalogue name = position (bytes_eq (lower name)) catalogue.names

-- the catalogue with one more table, at the last place
abbrev pub with_table : NamedTables → List ℕ → Relation → NamedTables
with_table catalogue name table =
    record { names = catalogue.names ++ lower name ∷ []; tables = catalogue.tables ++ table ∷ [] }
