use Rattle.worked_cases.proofs.ReadyLemmas.{some_apart}
use Rattle.worked_cases.proofs.answers.are_ordered.Goals as goal

pub ordered_by-requires-clause-apart : goal.ordered_by-requires-clause-apart
ordered_by-requires-clause-apart g c κs within =
    some_apart c.args.block.now c.in_ok-again.again.items c.requires.ready.some c.in_ok-again.ensures
