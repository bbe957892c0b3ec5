use Rattle.std.specs.Prelude.{IfSome, slice_get}
use Rattle.sq_value.specs.Relation.{HasKind}
use Rattle.sq_value.specs.declared.table.Column.{Column}
use Rattle.table_view.specs.Columns.{IsForemost}
use Rattle.table_view.proofs.columns.first_of.Given as goal

abbrev pub invariant-loop-row : goal.invariant-loop-row
invariant-loop-row l =
    IsForemost l.way l.table l.column l.row l.first × IfSome (slice_get l.table.columns l.column) (λ (c : Column). HasKind c.kind l.first)
