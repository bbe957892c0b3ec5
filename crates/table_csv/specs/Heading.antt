-- The columns of a table's file: their names from the heading, and their types from marks or from all their fields.
use Rattle.std.specs.Prelude.{ℕ, ◌+◌, Bool, ◌&&◌, ◌||◌, not, List, [], ◌∷◌, ◌++◌, length, drop, Option, Some, None, ◌==◌, nat_lt, slice_index, slice_get, is_ok, if◌then◌else◌}
use Rattle.std.specs.List.{list_all, list_any, filter_map}
use Rattle.std.specs.Str.{is_utf8}
use Rattle.std.specs.Str.Parse.{starts_with_minus}
use Rattle.sq_value.specs.Name.{is_same_name}
use Rattle.sq_value.specs.Numeral.{all_digits, number_read}
use Rattle.sq_value.specs.declared.table.Column.{Column}
use Rattle.sq_value.specs.declared.value.ColType.{ColType}
use Rattle.sq_value.specs.declared.value.ColType.TheVariants as kind
use Rattle.table_csv.specs.declared.fault.TableFault.{TableFault}
use Rattle.table_csv.specs.declared.fault.TableFault.TheVariants as fault
use Rattle.table_csv.specs.Marks.{marked_kind, column_name}
use Rattle.table_csv.specs.Fields.{earlier_of, is_null_field}

-- the names of a heading's fields, whose numbers go on from one
unfoldable pub names_from : ℕ → List (List ℕ) → List (List ℕ)
names_from number [] = []
names_from number (field ∷ more) = column_name number field ∷ names_from (number + 1) more

-- the fault of a heading's field, behind fields of these names
abbrev pub name_fault : List (List ℕ) → ℕ → List ℕ → Option TableFault
name_fault earlier number field =
    if not (is_utf8 field) then Some (fault.NotUtf8 0 number)
    else if list_any (is_same_name (column_name number field)) earlier then Some (fault.RepeatedColumn number)
    else None

-- the first fault of a heading's fields, behind fields of these names
unfoldable pub heading_fault : List (List ℕ) → ℕ → List (List ℕ) → Option TableFault
heading_fault earlier number [] = None
heading_fault earlier number (field ∷ more) =
    earlier_of (name_fault earlier number field)
    (heading_fault (earlier ++ column_name number field ∷ []) (number + 1) more)

-- the text behind a minus
abbrev pub without_minus : List ℕ → List ℕ
without_minus text = if starts_with_minus text then drop 1 text else text

-- whether a text is `0`, or digits that don't begin with 0, perhaps behind a minus
abbrev pub is_canonical_numeral : List ℕ → Bool
is_canonical_numeral text =
    ((length text == 1) && (slice_index text 0 == 48))
    || (nat_lt 0 (length (without_minus text)) && all_digits (without_minus text)
    && not (slice_index (without_minus text) 0 == 48))

-- whether a field is the canonical text of an integer of 64 bits
abbrev pub is_canonical : List ℕ → Bool
is_canonical text = is_utf8 text && is_canonical_numeral text && is_ok (number_read text)

-- the fields of a column, counted from 0, in the records that have it
abbrev pub column_fields : ℕ → List (List (List ℕ)) → List (List ℕ)
column_fields place records = filter_map (λ fields. slice_get fields place) records

-- the type of a column without a mark, from all its fields
abbrev pub type_of_fields : List (List ℕ) → ColType
type_of_fields fields =
    if list_any (λ field. not (is_null_field field)) fields
    && list_all (λ field. is_null_field field || is_canonical field) fields
    then kind.Integer else kind.Text

-- the type of a heading's field at a place, counted from 0, over these records
abbrev pub type_of_column : ℕ → List ℕ → List (List (List ℕ)) → Option ColType → ColType
type_of_column place field records (Some type) = type
type_of_column place field records None = type_of_fields (column_fields place records)

-- the columns of a heading's fields over these records, whose places go on from one
unfoldable pub columns_from : ℕ → List (List ℕ) → List (List (List ℕ)) → List Column
columns_from place [] records = []
columns_from place (field ∷ more) records =
    record { name = column_name (place + 1) field; kind = type_of_column place field records (marked_kind field) }
    ∷ columns_from (place + 1) more records
