use Rattle.worked_cases.proofs.conditions.written.+condition.Given as goal

abbrev pub decreases-condition : goal.decreases-condition
decreases-condition l = l.depth
