use Rattle.std.proofs.Common.{◌≡◌, ◌+◌, ◌++◌, [], drop}
use Rattle.csv.specs.Records.{fields_of}
use Rattle.table_csv.specs.Heading.{heading_fault}
use Rattle.table_csv.specs.Work.{heads_from, names_of}
use Rattle.table_csv.proofs.heading.read_heading.Given as goal

abbrev pub invariant-loop-i : goal.invariant-loop-i
invariant-loop-i l = record {
  made : l.named.items ++ heads_from (l.i + 1) (drop l.i (fields_of l.row)) ≡ heads_from 1 (fields_of l.row);
  fault : heading_fault (names_of l.named.items) (l.i + 1) (drop l.i (fields_of l.row)) ≡ heading_fault [] 1 (fields_of l.row);
}
