use Rattle.table_csv.specs.Headed.{IsLearned}
use Rattle.table_csv.specs.Reading.{IsPlain}
use Rattle.table_csv.proofs.front.learn_first.Given as goal

abbrev pub invariant-loop : goal.invariant-loop
invariant-loop l = record {
  plain : IsPlain l.reader;
  known : IsLearned l.width l.seen.items;
}
