use Rattle.std.proofs.Common.{take}
use Rattle.std.specs.Prelude.{All}
use Rattle.run_plan.proofs.AccessLemmas.{Has}
use Rattle.run_plan.proofs.accesses.first_lacking.Given as goal

abbrev pub invariant-loop-index : goal.invariant-loop-index
invariant-loop-index l = All (Has l.tables) (take l.index l.asked)
