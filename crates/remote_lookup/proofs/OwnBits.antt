-- An own conjunct by the bits of its span.
use Rattle.std.proofs.Common.{◌≡◌, ℕ, zero, suc, Option, Some, false, ◌<◌, ◌*◌, ◌^◌, ◌%◌, max, Bool, true, List, [], ◌∷◌, refl, ap, sym, ◌∙◌, arith, bit_or, nat_eq}
use Rattle.std.specs.Prelude.{◌==◌, ◌&&◌, Contains, IsBitSet, slice_get}
use Rattle.std.specs.List.{list_all}
use Rattle.std.specs.Int.{bit_at}
use Rattle.std.specs.Cmp.{both_ways}
use Rattle.std.proofs.Math.Pow.{pow-lt}
use Rattle.std.proofs.lemmas.Bool.{false≢true, eqb-true, eq-eqb}
use Rattle.std.proofs.lemmas.Nat.{bit_set_by_shift}
use Rattle.std.proofs.lemmas.Nat.Bits.{bit_at-lt, bit_at_or, bit_at-pow_same, bit_at-pow_other, same_from_bits, shr_and_one}
use Rattle.std.proofs.lemmas.Option.{slice_get-get_or}
use Rattle.sq_expr.specs.Fits.{aliases_of}
use Rattle.sq_expr.specs.declared.block.Conjunct.{Conjunct}
use Rattle.eddy_meaning.proofs.MatchLemmas.{Contains-here, Contains-there, list_all_at}
use Rattle.remote_lookup.specs.Needed.{is_own}
use Rattle.remote_lookup.specs.Own.{HasSpan}

set_bit : (s a : ℕ) → IsBitSet s a → bit_at s a ≡ 1
set_bit s a h = sym (shr_and_one s a) ∙ (bit_set_by_shift s a).1 h

pub bit_set : (s a : ℕ) → bit_at s a ≡ 1 → IsBitSet s a
bit_set s a e = (bit_set_by_shift s a).0 (shr_and_one s a ∙ e)

all_from : (a : ℕ) (bs : List ℕ) → ((b : ℕ) → Contains bs b → b ≡ a) → list_all (λ b. b == a) bs ≡ true
all_from a [] h = refl
all_from a (b ∷ bs) h =
    ap (λ (x : Bool). x && list_all (λ c. c == a) bs) (eq-eqb b a (h b (Contains-here b bs)))
    ∙ all_from a bs (λ c in'. h c (Contains-there c b bs in'))

pub alias_is : (a : ℕ) (bs : List ℕ) → list_all (λ b. b == a) bs ≡ true → (b : ℕ) → Contains bs b → b ≡ a
alias_is a bs own b occurs =
    let found : slice_get bs occurs.0 ≡ Some b = slice_get-get_or bs occurs.0 b occurs.1 ∙ ap (λ (x : ℕ). let o : Option ℕ = Some x in o) occurs.2 in
    eqb-true b a (list_all_at (λ (x : ℕ). x == a) bs occurs.0 b own found)

module _ (span a : ℕ) where
  to : (bit_or span (2 ^ a) == 2 ^ a) ≡ true → (b : ℕ) → IsBitSet span b → b ≡ a
  to e b occurs = by (b == a) refl
    where
      same : bit_or span (2 ^ a) ≡ 2 ^ a
      same = eqb-true (bit_or span (2 ^ a)) (2 ^ a) e

      bit : max (bit_at span b) (bit_at (2 ^ a) b) ≡ bit_at (2 ^ a) b
      bit = sym (bit_at_or span (2 ^ a) b) ∙ ap (λ (n : ℕ). bit_at n b) same

      by : (x : Bool) → (b == a) ≡ x → b ≡ a
      by true is = eqb-true b a is
      by false is =
          let other : bit_at (2 ^ a) b ≡ 0 = bit_at-pow_other a b (λ h. false≢true (sym is ∙ eq-eqb b a h)) in
          absurd (omega (arith, bit, other, set_bit span b occurs))

  from : ((b : ℕ) → IsBitSet span b → b ≡ a) → (bit_or span (2 ^ a) == 2 ^ a) ≡ true
  from h = eq-eqb (bit_or span (2 ^ a)) (2 ^ a) (same_from_bits (bit_or span (2 ^ a)) (2 ^ a) (λ i. bit_at_or span (2 ^ a) i ∙ each i (bit_at span i) refl (bit_at-lt span i)))
    where
      each : (i b : ℕ) → bit_at span i ≡ b → b < 2 → max b (bit_at (2 ^ a) i) ≡ bit_at (2 ^ a) i
      each i zero e low = omega arith
      each i (suc zero) e low =
          let one : bit_at (2 ^ a) i ≡ 1 = ap (bit_at (2 ^ a)) (h i (bit_set span i e)) ∙ bit_at-pow_same a in
          omega (arith, one)
      each i (suc (suc b)) e low = absurd (omega arith)

pub own_by_bits : (c : Conjunct) (a : ℕ) → a < 12 → HasSpan c → nat_eq (bit_or c.span (1 * 2 ^ a % 65536)) (1 * 2 ^ a % 65536) ≡ is_own a c
own_by_bits c a low spans =
    ap (λ (n : ℕ). nat_eq (bit_or c.span n) n) word
    ∙ both_ways (bit_or c.span (2 ^ a) == 2 ^ a) (is_own a c)
    (λ e. all_from a (aliases_of c.cond) (λ b occurs. to c.span a e b ((spans b).1 occurs)))
    (λ own. from c.span a (λ b set'. alias_is a (aliases_of c.cond) own b ((spans b).0 set')))
  where
    few : 2 ^ a < 2 ^ 12
    few = pow-lt low

    word : 1 * 2 ^ a % 65536 ≡ 2 ^ a
    word = omega (arith, few)
