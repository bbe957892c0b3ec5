use Rattle.std.proofs.Common.{◌≡◌, ◌<◌, Some, slice_get, ℕ}
use Rattle.sq_expr.specs.Fits.{FitsAlias}
use Rattle.sq_expr.specs.declared.block.Access.{Access}
use Rattle.case_kit.proofs.ways.are_ways_of.Given as goal

abbrev pub invariant-loop-table : goal.invariant-loop-table
invariant-loop-table l =
    (place : ℕ) (one : Access) → place < l.table → slice_get l.accesses place ≡ Some one
    → FitsAlias l.tables record { table = place; access = one }
