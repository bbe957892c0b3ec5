use Rattle.std.proofs.Common.{ℕ, ◌<◌, ◌≤◌, ◌^◌, ◌⊎◌, inl, inr, arith, ◌∙◌, w16}
use Rattle.std.specs.Int.{trailing_zeros}
use Rattle.std.proofs.lemmas.Bool.{cases_lt}
use Rattle.std.proofs.lemmas.Nat.{bit_set_by_shift}
use Rattle.std.proofs.lemmas.Nat.Bits.{bit_at-trailing_zeros, bit_at_above, shr_and_one}
use Rattle.claim_order.proofs.sets.first_of.Goals as goal

-- the lowest bit of a word is below the bits that it has
lowest_below : (n k : ℕ) → 0 < n → n < 2 ^ 16 → n < 2 ^ k → trailing_zeros w16 n < k
lowest_below n k some fits few = by (cases_lt (trailing_zeros w16 n) k)
  where
    by : (trailing_zeros w16 n < k) ⊎ (k ≤ trailing_zeros w16 n) → trailing_zeros w16 n < k
    by (inl below) = below
    by (inr above) =
        absurd (omega (arith, (bit_at-trailing_zeros w16 n some fits).1, bit_at_above n k (trailing_zeros w16 n) few above))

pub returns-clause-first : goal.returns-clause-first
returns-clause-first c =
    let set : ℕ = c.args.set in
    let fits : set < 2 ^ 16 = omega (arith, c.requires.few) in
    let lowest = bit_at-trailing_zeros w16 set c.requires.some fits in
    record {
      in' = (bit_set_by_shift set (trailing_zeros w16 set)).0 (shr_and_one set (trailing_zeros w16 set) ∙ lowest.1);
      after = omega arith;
      first = λ other from below h. omega (arith, (bit_set_by_shift set other).1 h, shr_and_one set other, lowest.2 other below);
    }

pub returns-clause-below : goal.returns-clause-below
returns-clause-below c = lowest_below c.args.set 12 c.requires.some (omega (arith, c.requires.few)) (omega (arith, c.requires.few))
