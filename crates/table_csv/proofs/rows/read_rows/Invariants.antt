use Rattle.std.proofs.Common.{◌≡◌, ◌+◌, ◌≤◌, ◌++◌, [], length, fold, map}
use Rattle.table_csv.specs.Fields.{records_fault, values_of}
use Rattle.table_csv.specs.Reading.{IsPlain, records_left}
use Rattle.table_csv.specs.Work.{all_learned}
use Rattle.table_csv.proofs.rows.read_rows.Given as goal

abbrev pub invariant-loop-values : goal.invariant-loop-values
invariant-loop-values l = record {
  plain : IsPlain l.reader;
  columns : l.table.columns ≡ l.fn.table.columns;
  count : length l.table.rows + 1 ≡ l.rec;
  none : l.values.items ≡ [];
  few : l.rec ≤ 4000001;
  made : l.table.rows ++ map (values_of l.fn.table.columns) (records_left l.reader) ≡ map (values_of l.fn.table.columns) (records_left l.fn.reader);
  fault : records_fault l.rec l.fn.table.columns (records_left l.reader) ≡ records_fault 1 l.fn.table.columns (records_left l.fn.reader);
  learned : fold all_learned l.seen (records_left l.reader) ≡ fold all_learned l.fn.seen (records_left l.fn.reader);
}

abbrev pub decreases-loop-values : goal.decreases-loop-values
decreases-loop-values l = length (records_left l.reader)
