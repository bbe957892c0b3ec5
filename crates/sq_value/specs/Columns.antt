-- When columns are the same: names byte for byte, and types.
use Rattle.std.specs.Prelude.{ℕ, nat_eq, ◌==◌, Bool, true, false, ◌&&◌, List}
use Rattle.std.specs.Cmp.Lexicographic.{pointwise}
use Rattle.sq_value.specs.declared.value.ColType.{ColType}
use Rattle.sq_value.specs.declared.value.ColType.TheVariants as kind
use Rattle.sq_value.specs.declared.table.Column.{Column}

-- whether two types are one; those of DECIMAL are told apart by their scales
abbrev pub is_same_kind : ColType → ColType → Bool
is_same_kind kind.Integer kind.Integer = true
is_same_kind kind.Integer kind.Text = false
is_same_kind kind.Integer (kind.Decimal b) = false
is_same_kind kind.Text kind.Integer = false
is_same_kind kind.Text kind.Text = true
is_same_kind kind.Text (kind.Decimal b) = false
is_same_kind (kind.Decimal a) kind.Integer = false
is_same_kind (kind.Decimal a) kind.Text = false
is_same_kind (kind.Decimal a) (kind.Decimal b) = a == b

-- whether two columns have the same name and type
abbrev pub is_same_column : Column → Column → Bool
is_same_column a b = pointwise nat_eq a.name b.name && is_same_kind a.kind b.kind

-- whether two lists of columns are the same, in order
abbrev pub are_same_columns : List Column → List Column → Bool
are_same_columns xs ys = pointwise is_same_column xs ys
