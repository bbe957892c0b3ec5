use Rattle.std.proofs.Common.{◌≡◌, ◌++◌, take, drop}
use Rattle.csv.specs.Records.{fields_of}
use Rattle.table_csv.specs.Work.{all_learned}
use Rattle.table_csv.proofs.types.learn_record.Given as goal

abbrev pub invariant-loop-i : goal.invariant-loop-i
invariant-loop-i l = take l.i l.seen ++ all_learned (drop l.i l.seen) (drop l.i (fields_of l.row)) ≡ all_learned l.initial.seen (fields_of l.row)
