-- The tables of the demo: parts, their sales, and what is held of them.
use Rattle.std.specs.Prelude.{ℕ, ◌+◌, ◌*◌, ◌%◌, ◌==◌, List, [], ◌∷◌, map, pos, codes, if◌then◌else◌}
use Rattle.std.specs.List.{range_with_len}
use Rattle.sq_value.specs.Relation.{Relation, IsRow}
use Rattle.sq_value.specs.declared.value.Value.{Value}
use Rattle.sq_value.specs.declared.value.Value.TheVariants.{Null, Int}
use Rattle.sq_value.specs.declared.value.ColType.TheVariants.{Integer}
use Rattle.sq_value.specs.declared.table.Column.{Column}
use Rattle.catalogue.specs.Named.{NamedTables, no_tables, with_table}

-- a column of integers
abbrev pub integer_column : List ℕ → Column
integer_column name = record { name = name; kind = Integer }

-- a table of two columns of integers, whose row of each number is given
abbrev pub pair_table : List ℕ → List ℕ → (ℕ → List Value) → ℕ → Relation
pair_table first second row count =
    record {
      columns = integer_column first ∷ integer_column second ∷ [];
      rows = map row (range_with_len 0 count);
    }

-- a natural number as a value
abbrev pub whole_number : ℕ → Value
whole_number n = Int (pos n)

-- row i of the parts: its number, and one of ten kinds
abbrev pub part_row : ℕ → ℕ → List Value
part_row shift i = whole_number i ∷ whole_number ((i + shift) % 10) ∷ []

-- row i of the sales: a part, and how many
abbrev pub sale_row : ℕ → ℕ → ℕ → List Value
sale_row count shift i = whole_number ((7 * i + shift) % count) ∷ whole_number (i % 100) ∷ []

-- how many are held, which is unknown in each hundredth row
abbrev pub held : ℕ → Value
held i = if i % 100 == 99 then Null else whole_number (i % 100)

-- row i of the stock: a part, and how many are held
abbrev pub stock_row : ℕ → ℕ → ℕ → List Value
stock_row count shift i = whole_number ((11 * i + shift) % count) ∷ held i ∷ []

-- the three tables of so many rows
abbrev pub part : ℕ → ℕ → Relation
part count shift = pair_table (codes "id") (codes "kind") (part_row shift) count

abbrev pub sale : ℕ → ℕ → Relation
sale count shift = pair_table (codes "part") (codes "qty") (sale_row count shift) count

abbrev pub stock : ℕ → ℕ → Relation
stock count shift = pair_table (codes "part") (codes "held") (stock_row count shift) count

-- the tables under their names
abbrev pub demo : ℕ → ℕ → NamedTables
demo count shift =
    with_table (with_table (with_table no_tables (codes "part") (part count shift)) (codes "sale") (sale count shift))
    (codes "stock") (stock count shift)

-- whether a table of two columns takes these values as a row
abbrev pub TakesPair : Relation → Value → Value → Type 0
TakesPair table first second = IsRow table.columns (first ∷ second ∷ [])
