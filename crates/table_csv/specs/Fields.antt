-- What a field of a record writes under its column: a value, or a fault.
use Rattle.std.specs.Prelude.{ℕ, ◌+◌, Bool, not, List, [], ◌∷◌, length, Option, Some, None, ◌==◌, nat_lt, is_ok, Result, Ok, Err, ℤ, if◌then◌else◌}
use Rattle.std.specs.Str.{is_utf8}
use Rattle.sq_value.specs.Numeral.{number_read}
use Rattle.sq_value.specs.Decimal.{decimal_read}
use Rattle.sq_value.specs.declared.decimal.Dec.{Dec}
use Rattle.sq_value.specs.declared.decimal.DecFault.{DecFault}
use Rattle.sq_value.specs.declared.integer.IntFault.{IntFault}
use Rattle.sq_value.specs.declared.table.Column.{Column}
use Rattle.sq_value.specs.declared.value.Value.{Value}
use Rattle.sq_value.specs.declared.value.Value.TheVariants as value
use Rattle.sq_value.specs.declared.value.ColType.{ColType}
use Rattle.sq_value.specs.declared.value.ColType.TheVariants as kind
use Rattle.table_csv.specs.declared.fault.TableFault.{TableFault}
use Rattle.table_csv.specs.declared.fault.TableFault.TheVariants as fault

-- whether a field is empty, which is SQL's null
abbrev pub is_null_field : List ℕ → Bool
is_null_field field = length field == 0

-- the value of an integer that was read
abbrev pub int_or_null : Result ℤ IntFault → Value
int_or_null (Ok number) = value.Int number
int_or_null (Err e) = value.Null

-- the value of a decimal number that was read
abbrev pub decimal_or_null : Result Dec DecFault → Value
decimal_or_null (Ok number) = value.Decimal number
decimal_or_null (Err e) = value.Null

-- the value that a field which isn't empty writes in a column of a type
abbrev pub written_value : ColType → List ℕ → Value
written_value kind.Integer field = int_or_null (number_read field)
written_value kind.Text field = value.Text field
written_value (kind.Decimal scale) field = decimal_or_null (decimal_read scale field)

-- the value of a field in a column of a type
abbrev pub value_of : ColType → List ℕ → Value
value_of type field = if is_null_field field then value.Null else written_value type field

-- why a field which isn't empty writes no value of the column's type
abbrev pub number_fault : ℕ → ℕ → ColType → List ℕ → Option TableFault
number_fault rec number kind.Integer field =
    if is_ok (number_read field) then None else Some (fault.BadInteger rec number)
number_fault rec number kind.Text field = None
number_fault rec number (kind.Decimal scale) field =
    if is_ok (decimal_read scale field) then None else Some (fault.BadDecimal rec number)

-- the fault of a field, by the numbers of its record and of the field
abbrev pub field_fault : ℕ → ℕ → ColType → List ℕ → Option TableFault
field_fault rec number type field =
    if not (is_utf8 field) then Some (fault.NotUtf8 rec number)
    else if is_null_field field then None
    else number_fault rec number type field

-- the first of two faults
abbrev pub earlier_of : Option TableFault → Option TableFault → Option TableFault
earlier_of (Some f) later = Some f
earlier_of None later = later

-- the values of a record's fields under its columns
unfoldable pub values_of : List Column → List (List ℕ) → List Value
values_of [] fields = []
values_of (c ∷ cs) [] = []
values_of (c ∷ cs) (f ∷ fs) = value_of c.kind f ∷ values_of cs fs

-- the first fault of a record's fields, whose numbers go on from one
unfoldable pub fields_fault : ℕ → ℕ → List Column → List (List ℕ) → Option TableFault
fields_fault rec number [] fields = None
fields_fault rec number (c ∷ cs) [] = None
fields_fault rec number (c ∷ cs) (f ∷ fs) =
    earlier_of (field_fault rec number c.kind f) (fields_fault rec (number + 1) cs fs)

-- the fault of a record with this number below a heading of these columns
abbrev pub record_fault : ℕ → List Column → List (List ℕ) → Option TableFault
record_fault rec columns fields =
    if nat_lt 4000000 rec then Some fault.TooManyRows
    else if not (length fields == length columns) then Some (fault.Unequal rec)
    else fields_fault rec 1 columns fields

-- the first fault of records, whose numbers go on from one
unfoldable pub records_fault : ℕ → List Column → List (List (List ℕ)) → Option TableFault
records_fault rec columns [] = None
records_fault rec columns (fields ∷ more) =
    earlier_of (record_fault rec columns fields) (records_fault (rec + 1) columns more)
