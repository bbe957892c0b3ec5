use Rattle.std.proofs.Common.{◌≡◌, map}
use Rattle.std.specs.List.{range_with_len}
use Rattle.run_plan.specs.Accesses.{reach_to}
use Rattle.run_plan.proofs.accesses.accesses_to.Given as goal

abbrev pub invariant-loop-table : goal.invariant-loop-table
invariant-loop-table l = l.accesses.items ≡ map (reach_to l.tables l.asked l.remotes) (range_with_len 0 l.table)
