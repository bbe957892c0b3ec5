use Rattle.std.proofs.Common.{◌≡◌}
use Rattle.table_view.specs.Columns.{nulls}
use Rattle.table_view.proofs.columns.nulls_of.Given as goal

abbrev pub invariant-loop-row : goal.invariant-loop-row
invariant-loop-row l = l.nulls ≡ nulls l.table l.column l.row
