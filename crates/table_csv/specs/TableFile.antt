-- The table of a file, or its first fault.
use Rattle.std.specs.Prelude.{ℕ, List, [], ◌∷◌, length, map, Option, Some, None, Result, Ok, Err, nat_lt, if◌then◌else◌}
use Rattle.csv.specs.Reading.{is_bom, records, default_config}
use Rattle.sq_value.specs.Relation.{Relation}
use Rattle.sq_value.specs.declared.table.Column.{Column}
use Rattle.table_csv.specs.declared.fault.TableFault.{TableFault}
use Rattle.table_csv.specs.declared.fault.TableFault.TheVariants as fault
use Rattle.table_csv.specs.Fields.{earlier_of, records_fault, values_of}
use Rattle.table_csv.specs.Heading.{columns_from, heading_fault}

-- the bytes behind all byte order marks, EF BB BF, with which they begin
unfoldable pub behind_order_marks : List ℕ → List ℕ
behind_order_marks [] = []
behind_order_marks (a ∷ []) = a ∷ []
behind_order_marks (a ∷ b ∷ []) = a ∷ b ∷ []
behind_order_marks (a ∷ b ∷ c ∷ rest) = if is_bom a b c then behind_order_marks rest else a ∷ b ∷ c ∷ rest

-- a fault, or else a table
abbrev pub table_unless : Option TableFault → Relation → Result Relation TableFault
table_unless (Some f) table = Err f
table_unless None table = Ok table

-- the table of columns and of the records below the heading
abbrev pub table_of_columns : List Column → List (List (List ℕ)) → Relation
table_of_columns columns rows = record { columns = columns; rows = map (values_of columns) rows }

-- the first fault of a heading of at most 64 fields and of the records below it
abbrev pub file_fault : List (List ℕ) → List Column → List (List (List ℕ)) → Option TableFault
file_fault heading columns rows =
    if nat_lt 64 (length heading) then Some fault.TooManyColumns
    else earlier_of (heading_fault [] 1 heading) (records_fault 1 columns rows)

-- the table of a heading and of the records below it, or the first fault
abbrev pub table_below : List (List ℕ) → List (List (List ℕ)) → Result Relation TableFault
table_below heading rows =
    let columns = columns_from 0 heading rows in
    table_unless (file_fault heading columns rows) (table_of_columns columns rows)

-- the table of records, the first of which is the heading, or the first fault; what has no field is no heading
unfoldable pub table_of_records : List (List (List ℕ)) → Result Relation TableFault
table_of_records [] = Err fault.NoHeading
table_of_records ([] ∷ rows) = Err fault.NoHeading
table_of_records ((first ∷ more) ∷ rows) = table_below (first ∷ more) rows

-- the table of a file's bytes, or the first fault
abbrev pub table_of_bytes : List ℕ → Result Relation TableFault
table_of_bytes bytes = table_of_records (records default_config (behind_order_marks bytes))
