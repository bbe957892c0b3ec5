-- The digits of a number, piece by piece.
use Rattle.std.proofs.Common.{◌≡◌, ℤ, ℕ, zero, suc, ◌+◌, ◌-◌, ◌/◌, ◌%◌, ◌^◌, [], ◌∷◌, ◌++◌, refl, ap, sym, ◌∙◌, arith}
use Rattle.std.specs.Prelude.{unsigned_abs}
use Rattle.std.specs.Int.{is_negative}
use Rattle.std.specs.Fmt.{sign_text, decimal}
use Rattle.std.proofs.Math.Nat.{div-div-eq-div-mul, pow-succ'}
use Rattle.sq_value.specs.Decimal.{last_digits, fraction_text, decimal_text}
use Rattle.sq_value.specs.declared.decimal.Dec.{Dec}

-- a number without one digit, and then without all others but one
pub fewer_digits : (n places rest : ℕ) → ¬ (places ≡ 0) → rest ≡ n / 10 / 10 ^ (places - 1) → rest ≡ n / 10 ^ places
fewer_digits n zero rest h e = absurd (h refl)
fewer_digits n (suc k) rest h e =
    let less : suc k - 1 ≡ k = omega arith in
    e ∙ ap (λ (m : ℕ). n / 10 / 10 ^ m) less ∙ div-div-eq-div-mul n 10 (10 ^ k) ∙ ap (λ (m : ℕ). n / m) (sym (pow-succ' 10 k))

-- the first of the last digits
pub last_digits-step : (places n rest : ℕ) → ¬ (places ≡ 0) → rest ≡ n / 10 ^ (places - 1)
    → last_digits places n ≡ ((48 + rest % 10) ∷ []) ++ last_digits (places - 1) n
last_digits-step zero n rest h e = absurd (h refl)
last_digits-step (suc k) n rest h e =
    let less : suc k - 1 ≡ k = omega arith in
    let power : rest ≡ n / 10 ^ k = e ∙ ap (λ (m : ℕ). n / 10 ^ m) less in
    ap (λ (m : ℕ). (48 + m % 10) ∷ last_digits k n) (sym power) ∙ ap (λ (m : ℕ). (48 + rest % 10) ∷ last_digits m n) (sym less)

-- the text of a decimal number, in its pieces
pub decimal_text-is : (d : Dec) (z : ℤ) (size whole : ℕ) → z ≡ d.units → size ≡ unsigned_abs z → whole ≡ size / 10 ^ d.scale
    → decimal_text d ≡ sign_text (is_negative z) ++ decimal whole ++ fraction_text d.scale size
unfolding decimal_text
decimal_text-is d z size whole same e f = rw (f, e, same) refl
