use Rattle.std.proofs.Common.{◌≡◌, ◌+◌, Ok, drop, length, take, vec_len}
use Rattle.std.specs.Vec.Iter.{into_iter_items, into_iter_len}
use Rattle.run_base.specs.Items.{items_over}
use Rattle.run_base.specs.Seen.{sink_seen}
use Rattle.run_answers.specs.Joint.{bounds_of}
use Rattle.run_answers.specs.Wrote.{Put}
use Rattle.run_answers.proofs.TogetherLemmas.{texts_from}
use Rattle.run_answers.proofs.together.put_texts.Given as goal

abbrev pub invariant-loop-one : goal.invariant-loop-one
invariant-loop-one g l = record {
  count : l.at + into_iter_len l.one-iterator ≡ vec_len l.fn.found;
  long : into_iter_len l.one-iterator ≡ length (into_iter_items l.one-iterator);
  left : drop l.at l.fn.found.items ≡ into_iter_items l.one-iterator;
  put : Put (texts_from g.P.Predicates.gives 0 (take l.at (items_over l.tables (bounds_of l.statements))))
      (sink_seen l.initial.out (g.O.Sink.written l.initial.out) (g.O.Sink.faults l.initial.out))
      (sink_seen l.out (g.O.Sink.written l.out) (g.O.Sink.faults l.out)) (Ok tt);
}
