use Rattle.std.proofs.Common.{◌≡◌, length}
use Rattle.table_csv.specs.TableFile.{behind_order_marks}
use Rattle.table_csv.proofs.reading.behind_order_marks.Given as goal

abbrev pub invariant-loop-behind : goal.invariant-loop-behind
invariant-loop-behind l = behind_order_marks l.rest ≡ behind_order_marks l.bytes

abbrev pub decreases-loop-behind : goal.decreases-loop-behind
decreases-loop-behind l = length l.rest
