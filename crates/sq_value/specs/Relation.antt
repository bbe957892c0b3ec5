-- What a table is: typed columns, and a list of rows with one value for each column.
use Rattle.std.specs.Prelude.{◌≡◌, ℕ, zero, suc, ◌<◌, ◌≤◌, List, [], ◌∷◌, length, take, drop, Option, option_and_then, slice_get, All, ⊤}
use Rattle.sq_value.specs.Name.{IsSameName}
use Rattle.sq_value.specs.declared.value.Value.{Value}
use Rattle.sq_value.specs.declared.value.Value.TheVariants as value
use Rattle.sq_value.specs.declared.value.ColType.{ColType}
use Rattle.sq_value.specs.declared.value.ColType.TheVariants as kind
use Rattle.sq_value.specs.declared.table.Column.{Column}

-- a table: its columns, and its rows in order
pub record Relation : Type 0 where
  pub columns : List Column
  pub rows : List (List Value)

-- a value is null or of the type; a DECIMAL has its column's scale, which is at most 6
abbrev pub HasKind : ColType → Value → Type 0
HasKind kind value.Null = ⊤
HasKind kind.Integer (value.Int n) = ⊤
HasKind kind.Integer (value.Text t) = ⊥
HasKind kind.Integer (value.Decimal d) = ⊥
HasKind kind.Text (value.Int n) = ⊥
HasKind kind.Text (value.Text t) = ⊤
HasKind kind.Text (value.Decimal d) = ⊥
HasKind (kind.Decimal scale) (value.Int n) = ⊥
HasKind (kind.Decimal scale) (value.Text t) = ⊥
HasKind (kind.Decimal scale) (value.Decimal d) = (d.scale ≡ scale) × (scale ≤ 6)

-- a row has one value for each column, null or of the column's type
abbrev pub IsRow : List Column → List Value → Type 0
IsRow [] [] = ⊤
IsRow [] (v ∷ vs) = ⊥
IsRow (c ∷ cs) [] = ⊥
IsRow (c ∷ cs) (v ∷ vs) = HasKind c.kind v × IsRow cs vs

-- no two columns have the same name
abbrev pub NamesDiffer : List Column → Type 0
NamesDiffer [] = ⊤
NamesDiffer (c ∷ cs) = All (λ d. ¬ (IsSameName c.name d.name)) cs × NamesDiffer cs

-- a table has 1 to 64 columns, whose names differ
pub record IsHeading (columns : List Column) : Type 0 where
  pub some : 0 < length columns
  pub few : length columns ≤ 64
  pub differ : NamesDiffer columns

-- the value at a row and a column
abbrev pub cell : Relation → ℕ → ℕ → Option Value
cell r row column = option_and_then (λ cells. slice_get cells column) (slice_get r.rows row)

-- the rows of a flat list of values, of one width, as many as n
unfoldable pub rows_of : ℕ → ℕ → List Value → List (List Value)
rows_of width zero values = []
rows_of width (suc n) values = take width values ∷ rows_of width n (drop width values)
