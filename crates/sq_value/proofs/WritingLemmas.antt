-- Writing a number, piece by piece.
use Rattle.std.proofs.Common.{◌≡◌, ℤ, ℕ, zero, suc, ◌+◌, ◌-◌, ◌/◌, ◌%◌, ◌^◌, List, [], ◌∷◌, ◌++◌, refl, ap, sym, ◌∙◌, append_assoc, arith}
use Rattle.std.specs.Prelude.{Result, Ok, Err, OnOk, unsigned_abs}
use Rattle.std.specs.Int.{is_negative}
use Rattle.std.specs.Fmt.{sign_text, decimal}
use Rattle.sq_value.specs.Decimal.{last_digits, fraction_text, decimal_text}
use Rattle.sq_value.specs.declared.decimal.Dec.{Dec}

-- one piece behind another is both
pub pushed_on : {T E : Type 0} (r : Result T E) (old mid new x y z : List ℕ) → mid ≡ old ++ x → OnOk r (new ≡ mid ++ y) → z ≡ x ++ y
    → OnOk r (new ≡ old ++ z)
pushed_on (Ok v) old mid new x y z e h is =
    h ∙ ap (λ (l : List ℕ). l ++ y) e ∙ append_assoc old x y ∙ ap (λ (l : List ℕ). old ++ l) (sym is)
pushed_on (Err e) old mid new x y z f h is = tt

pub pushed_same : {T E : Type 0} (r : Result T E) (old new x z : List ℕ) → OnOk r (new ≡ old ++ x) → z ≡ x → OnOk r (new ≡ old ++ z)
pushed_same (Ok v) old new x z h is = h ∙ ap (λ (l : List ℕ). old ++ l) (sym is)
pushed_same (Err e) old new x z h is = tt

-- the first of the last digits
pub last_digits-step : (places n p : ℕ) → ¬ (places ≡ 0) → p ≡ 10 ^ (places - 1)
    → last_digits places n ≡ ((48 + n / p % 10) ∷ []) ++ last_digits (places - 1) n
last_digits-step zero n p h e = absurd (h refl)
last_digits-step (suc k) n p h e =
    let less : suc k - 1 ≡ k = omega arith in
    let power : p ≡ 10 ^ k = e ∙ ap (λ (m : ℕ). 10 ^ m) less in
    ap (λ (m : ℕ). (48 + n / m % 10) ∷ last_digits k n) (sym power) ∙ ap (λ (m : ℕ). (48 + n / p % 10) ∷ last_digits m n) (sym less)

-- the text of a decimal number, in its pieces
pub decimal_text-is : (d : Dec) (z : ℤ) (size p : ℕ) → z ≡ d.units → size ≡ unsigned_abs z → p ≡ 10 ^ d.scale
    → decimal_text d ≡ sign_text (is_negative z) ++ decimal (size / p) ++ fraction_text d.scale size
unfolding decimal_text
decimal_text-is d z size p same e f = rw (e, f, same) refl

-- two pieces were put, one behind the other
pub two_pushed : (old mid new x y : List ℕ) → mid ≡ old ++ x → new ≡ mid ++ y → new ≡ old ++ (x ++ y)
two_pushed old mid new x y e f = f ∙ ap (λ (l : List ℕ). l ++ y) e ∙ append_assoc old x y
