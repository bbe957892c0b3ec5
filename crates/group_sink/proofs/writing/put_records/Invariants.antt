use Rattle.std.proofs.Common.{◌≡◌, take}
use Rattle.std.specs.List.{flat_map}
use Rattle.outside.specs.Faults.{NeverFalls}
use Rattle.outside.specs.Told.{Adds}
use Rattle.group_sink.specs.Texts.{line_text}
use Rattle.group_sink.proofs.writing.put_records.Given as goal

abbrev pub invariant-loop-shown : goal.invariant-loop-shown
invariant-loop-shown g l = record {
  kept : g.O.Sink.faults l.out ≡ g.O.Sink.faults l.initial.out;
  counts : NeverFalls (g.O.Sink.faults l.initial.out) (g.O.Sink.faults l.out);
  added : Adds (g.O.Sink.written l.initial.out) (g.O.Sink.written l.out) (flat_map line_text (take l.shown-index l.lines));
}
