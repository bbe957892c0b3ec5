use Rattle.std.proofs.Common.{◌≡◌, take}
use Rattle.group_sink.specs.Columns.{rank_in}
use Rattle.group_sink.specs.Dense.{numbered}
use Rattle.group_sink.specs.Parts.{has_same_ranks}
use Rattle.group_sink.proofs.apart.line_numbers.Given as goal

abbrev pub invariant-loop-column : goal.invariant-loop-column
invariant-loop-column l = l.numbers.items ≡ numbered (has_same_ranks rank_in (take l.column-index l.columns)) l.groups
