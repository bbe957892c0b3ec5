use Rattle.engine_cases.proofs.tuples.is_selectable.Goals as goal

pub returns : goal.returns
returns c e = c.is_legal.ensures.0 e
