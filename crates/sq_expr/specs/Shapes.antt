-- When a shape fits a block and tables: its columns and cells are there, and what is summed are numbers. Binding
-- ensures it.
use Rattle.std.specs.Prelude.{◌≡◌, ℕ, ◌<◌, true, List, [], length, Option, Some, None, IsSome, All, ⊤}
use Rattle.sq_value.specs.Relation.{Relation}
use Rattle.sq_expr.specs.Fits.{HasClass, Numbers, kind_in, tables_used}
use Rattle.sq_expr.specs.declared.cond.ColumnOf.{ColumnOf}
use Rattle.sq_expr.specs.declared.block.Block.{Block}
use Rattle.sq_expr.specs.declared.shape.AggKind.{AggKind}
use Rattle.sq_expr.specs.declared.shape.AggKind.TheVariants as agg
use Rattle.sq_expr.specs.declared.shape.Cell.{Cell}
use Rattle.sq_expr.specs.declared.shape.SortOn.{SortOn}
use Rattle.sq_expr.specs.declared.shape.SortOn.TheVariants as sort
use Rattle.sq_expr.specs.declared.shape.ShapeOrder.{ShapeOrder}
use Rattle.sq_expr.specs.declared.shape.Shape.{Shape}

-- a column is one of the table of one of the aliases
abbrev pub IsColumn : List Relation → Block → ColumnOf → Type 0
IsColumn tables block c = IsSome (kind_in tables (tables_used block) c)

-- what a cell asks of its column beyond being there: a sum is of numbers
abbrev pub FitsAgg : List Relation → Block → Option AggKind → ColumnOf → Type 0
FitsAgg tables block None c = ⊤
FitsAgg tables block (Some agg.CountAll) c = ⊤
FitsAgg tables block (Some agg.Count) c = ⊤
FitsAgg tables block (Some agg.Sum) c =
    HasClass (λ c kind. kind_in tables (tables_used block) c ≡ Some kind) Numbers c
FitsAgg tables block (Some agg.Min) c = ⊤
FitsAgg tables block (Some agg.Max) c = ⊤

-- what lines are sorted by is one of so many cells, or a column
abbrev pub FitsSort : List Relation → Block → ℕ → SortOn → Type 0
FitsSort tables block cells (sort.Cell place) = place < cells
FitsSort tables block cells (sort.Column c) = IsColumn tables block c

-- a shape fits: its columns are there, a sum is of numbers, what it is sorted by is there, and where all members are
-- one group each cell has a set function
pub record FitsShape (tables : List Relation) (block : Block) (shape : Shape) : Type 0 where
  pub keys : All (IsColumn tables block) shape.keys
  pub cells : All (λ (cell : Cell). IsColumn tables block cell.column) shape.cells
  pub sums : All (λ (cell : Cell). FitsAgg tables block cell.agg cell.column) shape.cells
  pub order : All (λ (key : ShapeOrder). FitsSort tables block (length shape.cells) key.on) shape.order
  pub whole : shape.grouped ≡ true → shape.keys ≡ [] → All (λ (cell : Cell). IsSome cell.agg) shape.cells
