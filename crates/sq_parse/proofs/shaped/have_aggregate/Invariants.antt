use Rattle.std.proofs.Common.{◌≡◌, length}
use Rattle.sq_parse.specs.Shaped as spec
use Rattle.sq_parse.proofs.shaped.have_aggregate.Given as goal

abbrev pub invariant-loop-items : goal.invariant-loop-items
invariant-loop-items l = spec.have_aggregate l.items ≡ spec.have_aggregate l.initial.items

abbrev pub decreases-loop-items : goal.decreases-loop-items
decreases-loop-items l = length l.items
