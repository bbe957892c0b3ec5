use Rattle.std.proofs.Common.{◌≡◌, length}
use Rattle.outside.specs.Faults.{NeverFalls}
use Rattle.result_sink.specs.Ready.{record_text}
use Rattle.result_sink.proofs.TextLemmas.{AddsBefore}
use Rattle.result_sink.proofs.blocks.put_blocks.Given as goal

abbrev pub invariant-loop-rest : goal.invariant-loop-rest
invariant-loop-rest g l = record {
  kept : g.O.Sink.faults l.out ≡ g.O.Sink.faults l.initial.out;
  counts : NeverFalls (g.O.Sink.faults l.initial.out) (g.O.Sink.faults l.out);
  added : AddsBefore (record_text l.block l.tables) l.combos l.rest (g.O.Sink.written l.initial.out) (g.O.Sink.written l.out);
}

abbrev pub decreases-loop-rest : goal.decreases-loop-rest
decreases-loop-rest g l = length l.rest
