use Rattle.std.proofs.Common.{Ok, take}
use Rattle.std.specs.List.{flat_map}
use Rattle.run_base.specs.Items.{items_over}
use Rattle.run_answers.specs.Answering.{Answers}
use Rattle.run_answers.specs.Tally.{IsTally}
use Rattle.run_answers.specs.Text.{behind_line}
use Rattle.run_answers.proofs.answering.put_more.Given as goal

abbrev pub invariant-loop-index : goal.invariant-loop-index
invariant-loop-index g l =
    Answers l.engine.settings.now.tally (IsTally l.engine.settings.now.cache g.P.Predicates.gives) 2 (take l.index (items_over l.tables l.bounds)) (flat_map (behind_line g.P.Predicates.gives))
    l.initial.outputs l.outputs (Ok tt)
