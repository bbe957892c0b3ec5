use Rattle.std.proofs.Common.{◌≡◌, ◌+◌, ◌++◌, drop}
use Rattle.csv.specs.Records.{fields_of}
use Rattle.table_csv.specs.Fields.{fields_fault, values_of}
use Rattle.table_csv.proofs.fields.fill_values.Given as goal

abbrev pub invariant-loop-i : goal.invariant-loop-i
invariant-loop-i l = record {
  made : l.values.items ++ values_of (drop l.i l.columns) (drop l.i (fields_of l.row)) ≡ values_of l.columns (fields_of l.row);
  fault : fields_fault l.rec (l.i + 1) (drop l.i l.columns) (drop l.i (fields_of l.row)) ≡ fields_fault l.rec 1 l.columns (fields_of l.row);
}
