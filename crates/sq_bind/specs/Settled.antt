-- What grouping and DISTINCT ask of a shape, said of the shape alone: in SQL-92's grouped tables each cell has one
-- value in a group, and so has what lines are sorted by; with DISTINCT lines are sorted by what they show.
use Rattle.std.specs.Prelude.{◌≡◌, ◌⊎◌, true, None, All, IsSome}
use Rattle.std.specs.List.{Any}
use Rattle.sq_expr.specs.declared.cond.ColumnOf.{ColumnOf}
use Rattle.sq_expr.specs.declared.shape.Cell.{Cell}
use Rattle.sq_expr.specs.declared.shape.Shape.{Shape}
use Rattle.sq_expr.specs.declared.shape.ShapeOrder.{ShapeOrder}
use Rattle.sq_expr.specs.declared.shape.SortOn.{SortOn}
use Rattle.sq_expr.specs.declared.shape.SortOn.TheVariants as sort

-- a column is one of GROUP BY
abbrev pub IsKey : Shape → ColumnOf → Type 0
IsKey shape c = Any (λ (key : ColumnOf). key ≡ c) shape.keys

-- a cell shows a column as it is
abbrev pub IsShownBy : Shape → ColumnOf → Type 0
IsShownBy shape c = Any (λ (cell : Cell). (cell.agg ≡ None) × (cell.column ≡ c)) shape.cells

-- what lines are sorted by is a cell, or a column with a property
abbrev pub IsCellOr : (ColumnOf → Type 0) → SortOn → Type 0
IsCellOr P on = (c : ColumnOf) → on ≡ sort.Column c → P c

-- where a shape is grouped, each cell is a set function or a column of GROUP BY, and lines are sorted by cells and
-- columns of GROUP BY; with DISTINCT they are sorted by cells and columns that a cell shows
pub record IsSettledShape (shape : Shape) : Type 0 where
  pub cells : shape.grouped ≡ true → All (λ (cell : Cell). IsSome cell.agg ⊎ IsKey shape cell.column) shape.cells
  pub order : shape.grouped ≡ true → All (λ (key : ShapeOrder). IsCellOr (IsKey shape) key.on) shape.order
  pub shown : shape.distinct ≡ true → All (λ (key : ShapeOrder). IsCellOr (IsShownBy shape) key.on) shape.order
