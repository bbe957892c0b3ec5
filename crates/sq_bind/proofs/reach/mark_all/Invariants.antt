use Rattle.std.proofs.Common.{◌≡◌, drop}
use Rattle.sq_bind.specs.Reached.{spread}
use Rattle.sq_bind.proofs.reach.mark_all.Given as goal

abbrev pub invariant-loop-conjunct : goal.invariant-loop-conjunct
invariant-loop-conjunct l = spread l.uses (drop l.conjunct-index l.conjuncts) l.marks ≡ spread l.uses l.conjuncts l.initial.marks
