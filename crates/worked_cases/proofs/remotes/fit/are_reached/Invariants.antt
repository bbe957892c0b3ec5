use Rattle.std.proofs.Common.{take}
use Rattle.std.specs.Prelude.{All}
use Rattle.worked_cases.specs.FitRemotes.{IsReached}
use Rattle.worked_cases.proofs.remotes.fit.are_reached.Given as goal

abbrev pub invariant-loop-item : goal.invariant-loop-item
invariant-loop-item l = All (IsReached l.remotes) (take l.item-index l.block.aliases)
