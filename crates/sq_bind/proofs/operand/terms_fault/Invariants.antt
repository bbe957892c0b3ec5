use Rattle.std.proofs.Common.{◌≡◌, map, drop}
use Rattle.sq_bind.specs.Fault.{sooner, first_of}
use Rattle.sq_bind.specs.Seen.{seen}
use Rattle.sq_bind.specs.Compared.{terms_faults}
use Rattle.sq_bind.proofs.operand.terms_fault.Given as goal

abbrev pub invariant-loop-term : goal.invariant-loop-term
invariant-loop-term l =
    sooner l.fault (first_of (terms_faults (map seen l.aliases) (drop l.term-index l.terms))) ≡ first_of (terms_faults (map seen l.aliases) l.terms)
