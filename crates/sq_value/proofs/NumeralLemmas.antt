-- The numeral that a text is, and the number that `parse` reads of it.
use Rattle.std.proofs.Common.{◌≡◌, ℕ, ◌≤◌, Bool, true, false, leb, List, [], ◌∷◌, ℤ, pos, negsuc, Ok, Err, refl, sym, subst, arith, cond, w64}
use Rattle.std.specs.Prelude.{FitsSigned, ◌&&◌}
use Rattle.std.specs.Char.{is_ascii_digit}
use Rattle.std.proofs.lemmas.Bool.{false≢true, ltb-true, leb-true, lt-ltb}
use Rattle.std.proofs.lemmas.Str.{digit_value_digit}
use Rattle.std.proofs.lemmas.Int.{to_z-of_z}
use mir.Val.{to_z, of_z}
use Rattle.std.specs.Str.Parse.{IsNumeral, AllDigits, without_leading_sign, signed_digits_value}
use Rattle.sq_value.specs.Numeral.{all_digits, is_numeral, is_i64, number_read}
use Rattle.sq_value.specs.declared.integer.IntFault.TheVariants.{NotANumber, OutOfRange}

pub both : (a b : Bool) → (a && b) ≡ true → (a ≡ true) × (b ≡ true)
both true true e = (refl, refl)
both true false e = absurd (false≢true e)
both false b e = absurd (false≢true e)

-- digits that pass the test are digits of base ten, and the other way round
pub AllDigits-from_all_digits : (ds : List ℕ) → all_digits ds ≡ true → AllDigits 10 ds
AllDigits-from_all_digits [] e = tt
AllDigits-from_all_digits (c ∷ cs) e =
    let one = both (is_ascii_digit c) (all_digits cs) e in
    let ends = both (leb 48 c) (leb c 57) one.0 in
    let low : 48 ≤ c = leb-true 48 c ends.0 in
    let high : c ≤ 57 = leb-true c 57 ends.1 in
    (omega (arith, digit_value_digit c (low, high)), AllDigits-from_all_digits cs one.1)

-- the test of a range and the fact
pub fits_from_i64 : (z : ℤ) → is_i64 z ≡ true → FitsSigned w64 z
fits_from_i64 (pos n) e = record { sfits = ltb-true n 9223372036854775808 e }
fits_from_i64 (negsuc n) e = record { sfits = ltb-true n 9223372036854775808 e }

pub i64_from_fits : (z : ℤ) → FitsSigned w64 z → is_i64 z ≡ true
i64_from_fits (pos n) h = lt-ltb n 9223372036854775808 h.sfits
i64_from_fits (negsuc n) h = lt-ltb n 9223372036854775808 h.sfits

-- what `parse` reads of a numeral
pub number_read-Ok : (text : List ℕ) (n : ℤ) → is_numeral text ≡ true
    → (IsNumeral 10 (without_leading_sign text) × FitsSigned w64 (signed_digits_value 10 text)) × (n ≡ signed_digits_value 10 text)
    → Ok (to_z w64 (of_z w64 n)) ≡ number_read text
unfolding number_read
number_read-Ok text n e h =
    let fits : is_i64 (signed_digits_value 10 text) ≡ true = i64_from_fits _ h.0.1 in
    let n_fits : FitsSigned w64 n = subst (FitsSigned w64) (sym h.1) h.0.1 in
    rw (e, fits, to_z-of_z w64 n n_fits, h.1) refl

pub number_read-Err : (text : List ℕ) → is_numeral text ≡ true
    → ¬ (IsNumeral 10 (without_leading_sign text) × FitsSigned w64 (signed_digits_value 10 text)) → Err OutOfRange ≡ number_read text
unfolding number_read
number_read-Err text e h = rw e (by (is_i64 (signed_digits_value 10 text)) refl)
  where
    by : (b : Bool) → is_i64 (signed_digits_value 10 text) ≡ b
        → Err OutOfRange ≡ cond b (Ok (signed_digits_value 10 text)) (Err OutOfRange)
    by true is =
        let parts = both _ _ e in
        absurd (h ((ltb-true 0 _ parts.0, AllDigits-from_all_digits _ parts.1), fits_from_i64 _ is))
    by false is = refl

pub number_read-NotANumber : (text : List ℕ) → is_numeral text ≡ false → Err NotANumber ≡ number_read text
unfolding number_read
number_read-NotANumber text e = rw e refl
