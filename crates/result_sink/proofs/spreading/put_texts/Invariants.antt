use Rattle.std.proofs.Common.{◌≡◌, take}
use Rattle.std.specs.List.{flat_map}
use Rattle.outside.specs.Faults.{NeverFalls}
use Rattle.outside.specs.Told.{Adds}
use Rattle.result_sink.proofs.spreading.put_texts.Given as goal

abbrev pub invariant-loop-text : goal.invariant-loop-text
invariant-loop-text g l = record {
  kept : g.O.Sink.faults l.out ≡ g.O.Sink.faults l.initial.out;
  counts : NeverFalls (g.O.Sink.faults l.initial.out) (g.O.Sink.faults l.out);
  added : Adds (g.O.Sink.written l.initial.out) (g.O.Sink.written l.out) (flat_map (λ text. text.items) (take l.text-index l.texts));
}
