use Rattle.std.proofs.Common.{◌≡◌, ◌++◌, drop}
use Rattle.sq_bind.specs.Statement.{cells_from}
use Rattle.sq_bind.proofs.select.push_columns.Given as goal

abbrev pub invariant-loop-index : goal.invariant-loop-index
invariant-loop-index l = (l.cells.items ++ cells_from l.alias l.index (drop l.index l.columns)) ≡ (l.initial.cells.items ++ cells_from l.alias 0 l.columns)
