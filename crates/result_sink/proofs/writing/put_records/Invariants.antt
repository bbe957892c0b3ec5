use Rattle.std.proofs.Common.{◌≡◌, take}
use Rattle.std.specs.List.{flat_map}
use Rattle.outside.specs.Faults.{NeverFalls}
use Rattle.outside.specs.Told.{Adds}
use Rattle.result_sink.specs.Ready.{record_text}
use Rattle.result_sink.proofs.writing.put_records.Given as goal

abbrev pub invariant-loop-combo : goal.invariant-loop-combo
invariant-loop-combo g l = record {
  kept : g.O.Sink.faults l.out ≡ g.O.Sink.faults l.initial.out;
  counts : NeverFalls (g.O.Sink.faults l.initial.out) (g.O.Sink.faults l.out);
  added : Adds (g.O.Sink.written l.initial.out) (g.O.Sink.written l.out) (flat_map (record_text l.block l.tables) (take l.combo-index l.combos));
}
