-- Division that leaves nothing, and decimal numbers that equal integers.
use Rattle.std.proofs.Common.{◌≡◌, ◌↔◌, ℕ, zero, suc, ◌+◌, ◌*◌, ℤ, pos, negsuc, ◌<ℤ◌, ◌-ℤ◌, refl, ap, ◌∙◌, subst, arith, Option, Some, None}
use Rattle.std.specs.Prelude.{◌*ℤ◌, ◌+ℤ◌, MatchOption}
use Rattle.std.specs.Int.RustNames.{int_div, int_rem, unsigned_abs}
use Rattle.std.proofs.lemmas.Int.{ints, quot-rem, rem_below, unsigned_abs-mul}
use Rattle.std.proofs.Math.IntN.{*ℤ-zero, *ℤ_comm, suc_ℤ-*ℤ}
use Rattle.sq_value.specs.Rank.{millionths}

abs_zero : (r : ℤ) → unsigned_abs r ≡ 0 → r ≡ pos 0
abs_zero r e = omega (arith, ints, e)

spread : (a b : ℤ) (n : ℕ) → (a -ℤ b) *ℤ pos n ≡ a *ℤ pos n -ℤ b *ℤ pos n
spread a b zero = omega (arith, ints, *ℤ-zero (a -ℤ b), *ℤ-zero a, *ℤ-zero b)
spread a b (suc n) = omega (arith, ints, step (a -ℤ b), step a, step b, spread a b n)
  where
    step : (m : ℤ) → m *ℤ pos (suc n) ≡ m *ℤ pos n +ℤ m
    step m = *ℤ_comm m (pos (suc n)) ∙ suc_ℤ-*ℤ (pos n) m ∙ ap (λ (x : ℤ). x +ℤ m) (*ℤ_comm (pos n) m)

-- a multiple of a divisor leaves nothing
no_rest_of : (u : ℤ) (n : ℕ) (k : ℤ) → u ≡ k *ℤ pos (suc n) → int_rem u (pos (suc n)) ≡ pos 0
no_rest_of u n k e = by (unsigned_abs (k -ℤ int_div u (pos (suc n)))) refl
  where
    rest : int_rem u (pos (suc n)) ≡ (k -ℤ int_div u (pos (suc n))) *ℤ pos (suc n)
    rest = omega (arith, ints, quot-rem u (pos (suc n)), e, spread k (int_div u (pos (suc n))) (suc n))

    size : unsigned_abs (int_rem u (pos (suc n))) ≡ unsigned_abs (k -ℤ int_div u (pos (suc n))) * suc n
    size = ap unsigned_abs rest ∙ unsigned_abs-mul (k -ℤ int_div u (pos (suc n))) (pos (suc n))

    by : (m : ℕ) → unsigned_abs (k -ℤ int_div u (pos (suc n))) ≡ m → int_rem u (pos (suc n)) ≡ pos 0
    by zero is =
        let none : unsigned_abs (int_rem u (pos (suc n))) ≡ 0 * suc n = size ∙ ap (λ (m : ℕ). m * suc n) is in
        abs_zero (int_rem u (pos (suc n))) (omega (arith, none))
    by (suc m) is =
        let all : unsigned_abs (int_rem u (pos (suc n))) ≡ suc m * suc n = size ∙ ap (λ (m : ℕ). m * suc n) is in
        let more : suc m * suc n ≡ m * suc n + suc n = omega arith in
        absurd (omega (arith, rem_below u (pos (suc n)) (omega arith), all, more))

pub no_rest : (u d k : ℤ) → pos 0 <ℤ d → u ≡ k *ℤ d → int_rem u d ≡ pos 0
no_rest u (pos zero) k some e = absurd (omega (arith, ints, some))
no_rest u (pos (suc n)) k some e = no_rest_of u n k e
no_rest u (negsuc n) k some e = absurd (omega (arith, ints, some))

pub mapped : {A : Type 0} {M N : Type 0} {P Q : A → Type 0} (o : Option A) → (M → N) → ((a : A) → P a → Q a)
    → MatchOption o M P → MatchOption o N Q
mapped None f g h = f h
mapped (Some a) f g h = g a h

-- a decimal number equals an integer where its units are so many tens, hundreds and on
module _ (u k : ℤ) where
  pub of_0 : (u ≡ k) ↔ (millionths u 0 ≡ millionths k 0)
  of_0 = (λ e. omega (arith, ints, e), λ e. omega (arith, ints, e))

  pub of_1 : (u ≡ k *ℤ pos 10) ↔ (millionths u 1 ≡ millionths k 0)
  of_1 = (λ e. omega (arith, ints, e), λ e. omega (arith, ints, e))

  pub of_2 : (u ≡ k *ℤ pos 100) ↔ (millionths u 2 ≡ millionths k 0)
  of_2 = (λ e. omega (arith, ints, e), λ e. omega (arith, ints, e))

  pub of_3 : (u ≡ k *ℤ pos 1000) ↔ (millionths u 3 ≡ millionths k 0)
  of_3 = (λ e. omega (arith, ints, e), λ e. omega (arith, ints, e))

  pub of_4 : (u ≡ k *ℤ pos 10000) ↔ (millionths u 4 ≡ millionths k 0)
  of_4 = (λ e. omega (arith, ints, e), λ e. omega (arith, ints, e))

  pub of_5 : (u ≡ k *ℤ pos 100000) ↔ (millionths u 5 ≡ millionths k 0)
  of_5 = (λ e. omega (arith, ints, e), λ e. omega (arith, ints, e))

-- units by another name
pub renamed : (r : Option ℤ) (v u d : ℤ) → v ≡ u → MatchOption r ((k : ℤ) → v ≡ k *ℤ d → ⊥) (λ k. v ≡ k *ℤ d)
    → MatchOption r ((k : ℤ) → u ≡ k *ℤ d → ⊥) (λ k. u ≡ k *ℤ d)
renamed r v u d same h = subst (λ (w : ℤ). MatchOption r ((k : ℤ) → w ≡ k *ℤ d → ⊥) (λ k. w ≡ k *ℤ d)) same h
