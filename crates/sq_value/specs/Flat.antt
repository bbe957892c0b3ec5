-- Serves proofs: the table that a flat list of values stands for.
use Rattle.std.specs.Prelude.{◌≡◌, ◌*◌, length, All}
use Rattle.sq_value.specs.Relation.{Relation, IsRow, IsHeading, rows_of}
use Rattle.sq_value.specs.declared.table.Table.TheInside.{Inside}

abbrev pub relation_of : Inside → Relation
relation_of t = record { columns = t.columns.items; rows = rows_of (length t.columns.items) t.rows t.values.items }

-- the values fill the rows, and each row fits the columns
pub record IsFlat (t : Inside) : Type 0 where
  pub heading : IsHeading t.columns.items
  pub full : length t.values.items ≡ t.rows * length t.columns.items
  pub each : All (IsRow t.columns.items) (rows_of (length t.columns.items) t.rows t.values.items)
