use Rattle.std.proofs.Common.{◌≡◌, take}
use Rattle.group_sink.specs.Columns.{cells_at}
use Rattle.group_sink.proofs.making.line_at.Given as goal

abbrev pub invariant-loop-column : goal.invariant-loop-column
invariant-loop-column l = l.cells.items ≡ cells_at (take l.column-index l.columns) l.group
