use Rattle.std.proofs.Common.{◌≡◌, map, take}
use Rattle.worked_cases.specs.SampleBlocks as sample
use Rattle.worked_cases.proofs.bags.aliases.Given as goal

abbrev pub invariant-loop-table : goal.invariant-loop-table
invariant-loop-table l = l.aliases ≡ map sample.scanned (take l.table-index l.uses)
