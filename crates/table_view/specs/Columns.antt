-- What a column of a table holds.
use Rattle.std.specs.Prelude.{◌≡◌, ℕ, ◌<◌, Bool, true, false, List, Option, Some, None, filter, length, map}
use Rattle.std.specs.List.{range_with_len}
use Rattle.std.specs.Ordering.{is_gt}
use Rattle.sq_value.specs.Order.{sorted_by}
use Rattle.sq_value.specs.Relation.{Relation, cell}
use Rattle.sq_value.specs.declared.value.SortWay.{SortWay}
use Rattle.sq_value.specs.declared.value.Value.{Value}
use Rattle.sq_value.specs.declared.value.Value.TheVariants as value

-- whether a cell is null
abbrev pub is_null : Option Value → Bool
is_null (Some value.Null) = true
is_null (Some (value.Int n)) = false
is_null (Some (value.Text t)) = false
is_null (Some (value.Decimal d)) = false
is_null None = false

-- a column's cells in the first so many rows
abbrev pub column_cells : Relation → ℕ → ℕ → List (Option Value)
column_cells table column rows = map (λ row. cell table row column) (range_with_len 0 rows)

-- a value of a column's first so many rows, before which none of their values comes in a way of sorting
pub record IsForemost (way : SortWay) (table : Relation) (column rows : ℕ) (value : Value) : Type 0 where
  pub there : (row : ℕ) × (row < rows) × (cell table row column ≡ Some value)
  pub first : (row : ℕ) (other : Value) → row < rows → cell table row column ≡ Some other
      → is_gt (sorted_by way value other) ≡ false

-- how many of these are null
unfoldable pub nulls : Relation → ℕ → ℕ → ℕ
nulls table column rows = length (filter is_null (column_cells table column rows))
