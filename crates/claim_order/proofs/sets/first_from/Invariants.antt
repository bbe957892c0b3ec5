use Rattle.std.proofs.Common.{ℕ, ◌<◌, ◌≤◌}
use Rattle.std.specs.Prelude.{IsBitSet}
use Rattle.claim_order.proofs.sets.first_from.Given as goal

abbrev pub invariant-loop-alias : goal.invariant-loop-alias
invariant-loop-alias l = record {
  low : l.fn.from ≤ l.alias;
  none : (other : ℕ) → l.fn.from ≤ other → other < l.alias → IsBitSet l.set other → ⊥;
}
