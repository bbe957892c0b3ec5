use Rattle.std.proofs.Common.{◌≡◌, ◌++◌, drop}
use Rattle.table_csv.specs.Work.{completed}
use Rattle.table_csv.proofs.columns.complete.Given as goal

abbrev pub invariant-loop-i : goal.invariant-loop-i
invariant-loop-i l = l.columns.items ++ completed (drop l.i l.heads) (drop l.i l.seen) ≡ completed l.heads l.seen
