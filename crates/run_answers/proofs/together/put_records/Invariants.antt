use Rattle.std.proofs.Common.{ℕ, List, Ok, map, take}
use Rattle.sq_value.specs.declared.value.Value.{Value}
use Rattle.sq_value.specs.declared.value.Truth.{Truth}
use Rattle.run_base.specs.Items.{Item}
use Rattle.run_base.specs.Seen.{sink_seen}
use Rattle.run_answers.specs.Summary.{count_texts}
use Rattle.run_answers.specs.Joint.{AreBags}
use Rattle.run_answers.specs.Wrote.{Put}
use Rattle.run_answers.proofs.together.put_records.Given as goal

abbrev pub invariant-loop-index : goal.invariant-loop-index
invariant-loop-index g l =
    (gives : ℕ → Value → Value → Truth) (items : List Item) → AreBags gives items (map (λ f. f.combos.items) l.found)
    → Put (count_texts gives 1 (take l.index items)) (sink_seen l.initial.out (g.O.Sink.written l.initial.out) (g.O.Sink.faults l.initial.out))
    (sink_seen l.out (g.O.Sink.written l.out) (g.O.Sink.faults l.out)) (Ok tt)
