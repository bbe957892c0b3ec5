use Rattle.std.proofs.Common.{◌≡◌, map, take}
use Rattle.sq_bind.specs.Seen.{seen}
use Rattle.sq_bind.specs.Operand.{term_of}
use Rattle.sq_bind.proofs.operand.terms_of.Given as goal

abbrev pub invariant-loop-term : goal.invariant-loop-term
invariant-loop-term l = l.all ≡ map (term_of (map seen l.aliases)) (take l.term-index l.terms)
