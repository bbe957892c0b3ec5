use Rattle.std.proofs.Common.{take}
use Rattle.sq_bind.specs.Ordered.{HoldsCells}
use Rattle.sq_bind.proofs.output.names_of.Given as goal

abbrev pub invariant-loop-index : goal.invariant-loop-index
invariant-loop-index l = HoldsCells l.names.entries (take l.index l.cells)
