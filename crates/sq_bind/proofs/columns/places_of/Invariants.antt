use Rattle.std.proofs.Common.{◌≡◌, take}
use Rattle.sq_expr.specs.declared.cond.ColumnOf.{ColumnOf}
use Rattle.sq_bind.specs.Statement.{is_grouping}
use Rattle.sq_bind.specs.Columns.{has}
use Rattle.sq_bind.proofs.columns.places_of.Given as goal

abbrev pub invariant-loop-column : goal.invariant-loop-column
invariant-loop-column l = (other : ColumnOf) → has l.places other ≡ is_grouping (take l.column-index l.columns) other
