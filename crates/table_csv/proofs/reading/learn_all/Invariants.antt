use Rattle.std.proofs.Common.{◌≡◌, length, fold}
use Rattle.std.specs.Prelude.{replicate}
use Rattle.table_csv.specs.declared.types.Seen.TheVariants as seen
use Rattle.table_csv.specs.Reading.{IsPlain, records_left}
use Rattle.table_csv.specs.Work.{all_learned}
use Rattle.table_csv.proofs.reading.learn_all.Given as goal

abbrev pub invariant-loop-row : goal.invariant-loop-row
invariant-loop-row l = record {
  plain : IsPlain l.reader;
  same : fold all_learned l.seen.items (records_left l.reader) ≡ fold all_learned (replicate l.width seen.Nulls) (records_left l.fn.reader);
}

abbrev pub decreases-loop-row : goal.decreases-loop-row
decreases-loop-row l = length (records_left l.reader)
