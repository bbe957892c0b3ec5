use Rattle.std.proofs.Common.{◌≡◌, map, take}
use Rattle.sq_bind.specs.Statement.{output_column}
use Rattle.sq_bind.proofs.plain.output_of.Given as goal

abbrev pub invariant-loop-cell : goal.invariant-loop-cell
invariant-loop-cell l = l.output ≡ map output_column (take l.cell-index l.cells)
