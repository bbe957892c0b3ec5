use Rattle.std.proofs.Common.{◌≡◌, take, None, eqb}
use Rattle.std.specs.List.{find}
use Rattle.command_line.specs.declared.command.AccessWord.{AccessWord}
use Rattle.run_plan.proofs.accesses.access_to.Given as goal

abbrev pub invariant-loop-access : goal.invariant-loop-access
invariant-loop-access l = find (λ (a : AccessWord). eqb a.table l.table) (take l.access-index l.asked) ≡ None
