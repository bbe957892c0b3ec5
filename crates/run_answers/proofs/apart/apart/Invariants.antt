use Rattle.std.proofs.Common.{◌≡◌, ◌++◌, length, map, reverse}
use Rattle.run_base.specs.declared.bound.Bound.{Bound}
use Rattle.run_answers.specs.Together.{blocks_in}
use Rattle.run_answers.proofs.apart.apart.Given as goal

abbrev pub invariant-loop-bound : goal.invariant-loop-bound
invariant-loop-bound l = record {
  blocks : blocks_in l.bounds ++ reverse l.blocks.items ≡ blocks_in l.fn.bounds;
  shapes : map (λ (b : Bound). b.shape) l.bounds ++ reverse l.shapes.items ≡ map (λ (b : Bound). b.shape) l.fn.bounds;
}

abbrev pub decreases-loop-bound : goal.decreases-loop-bound
decreases-loop-bound l = length l.bounds
