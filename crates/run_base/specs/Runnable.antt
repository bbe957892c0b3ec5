-- Which bound statements can be run.
use Rattle.std.specs.Prelude.{◌≡◌, ℕ, List, [], Option, IfSome}
use Rattle.sq_value.specs.Relation.{Relation}
use Rattle.sq_value.specs.declared.predicate.Kinds.{Kinds}
use Rattle.sq_expr.specs.Fits.{IsFit}
use Rattle.sq_expr.specs.Reach.{IsReachable}
use Rattle.sq_expr.specs.Shapes.{FitsShape}
use Rattle.sq_expr.specs.declared.block.Block.{Block}
use Rattle.sq_expr.specs.declared.shape.Shape.{Shape}
use Rattle.run_base.specs.declared.bound.Bound.{Bound}

-- lines of this shape can be made of a block's matches: the block leaves their order to the shape, which fits
pub record IsShapeFor (tables : List Relation) (block : Block) (shape : Shape) : Type 0 where
  pub unordered : block.order ≡ []
  pub fits : FitsShape tables block shape

-- a statement fits the predicates and the tables, each of its aliases is reachable, and its shape, if it has one, is
-- one for its block
pub record IsRunnable (kinds : ℕ → Option Kinds) (tables : List Relation) (bound : Bound) : Type 0 where
  pub fits : IsFit kinds tables bound.block
  pub reachable : IsReachable bound.block
  pub shaped : IfSome bound.shape (IsShapeFor tables bound.block)
