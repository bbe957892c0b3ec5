use Rattle.std.proofs.Common.{◌≡◌, take}
use Rattle.std.specs.List.{list_any}
use Rattle.sq_expr.specs.declared.cond.ColumnOf.{ColumnOf}
use Rattle.sq_bind.specs.Statement.{shows}
use Rattle.sq_bind.specs.Columns.{has}
use Rattle.sq_bind.proofs.columns.shown_of.Given as goal

abbrev pub invariant-loop-cell : goal.invariant-loop-cell
invariant-loop-cell l = (other : ColumnOf) → has l.places other ≡ list_any (shows other) (take l.cell-index l.cells)
