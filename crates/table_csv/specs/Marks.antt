-- How a field of a heading names a column, and fixes its type.
use Rattle.std.specs.Prelude.{ℕ, ◌-◌, Bool, List, ◌++◌, length, take, Option, Some, None, nat_eq, ◌==◌, codes, option_map, if◌then◌else◌}
use Rattle.std.specs.List.{ends_with}
use Rattle.std.specs.Fmt.{decimal}
use Rattle.sq_value.specs.declared.value.ColType.{ColType}
use Rattle.sq_value.specs.declared.value.ColType.TheVariants.{Integer, Text, Decimal}

-- whether a field ends with a mark
abbrev pub ends : List ℕ → List ℕ → Bool
ends mark field = ends_with nat_eq field mark

-- the scale that a field's mark fixes: `:dec0` to `:dec6` at its end
abbrev pub marked_scale : List ℕ → Option ℕ
marked_scale field =
    if ends (codes ":dec0") field then Some 0
    else if ends (codes ":dec1") field then Some 1
    else if ends (codes ":dec2") field then Some 2
    else if ends (codes ":dec3") field then Some 3
    else if ends (codes ":dec4") field then Some 4
    else if ends (codes ":dec5") field then Some 5
    else if ends (codes ":dec6") field then Some 6
    else None

-- the type that a field's mark fixes: `:int`, `:text` or `:dec0` to `:dec6` at its end
abbrev pub marked_kind : List ℕ → Option ColType
marked_kind field =
    if ends (codes ":int") field then Some Integer
    else if ends (codes ":text") field then Some Text
    else option_map Decimal (marked_scale field)

-- how many bytes the mark of a type has
abbrev pub mark_length : Option ColType → ℕ
mark_length None = 0
mark_length (Some Integer) = 4
mark_length (Some Text) = 5
mark_length (Some (Decimal scale)) = 5

-- the name that a field writes: what stands before its mark
abbrev pub written_name : List ℕ → List ℕ
written_name field = take (length field - mark_length (marked_kind field)) field

-- a name, or where it is empty `column` and the number of its field, from 1
abbrev pub name_or_number : ℕ → List ℕ → List ℕ
name_or_number number name = if length name == 0 then codes "column" ++ decimal number else name

-- the name of the column that a field with this number writes
abbrev pub column_name : ℕ → List ℕ → List ℕ
column_name number field = name_or_number number (written_name field)
