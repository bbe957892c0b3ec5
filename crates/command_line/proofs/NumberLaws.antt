-- The numbers that texts of digits are.
use Rattle.std.proofs.Common.{◌≡◌, ◌≢◌, ℕ, ◌≤◌, ◌<◌, ◌^◌, ◌&&◌, Bool, cond, true, false, ◌⊎◌, inl, inr, List, [], ◌∷◌, length, get_or, Some, None, refl, sym, subst, arith, leb}
use Rattle.std.specs.Prelude.{nat_lt, nat_le}
use Rattle.std.specs.List.{list_all}
use Rattle.std.specs.Char.{is_ascii_digit}
use Rattle.std.specs.Str.Parse.{IsNumeral, AllDigits, digits_value, without_leading_plus}
use Rattle.std.proofs.lemmas.Bool.{leb-true, ltb-true, lt-leb, cases_lt}
use Rattle.std.proofs.lemmas.Str.{digit_value_digit}
use Rattle.std.proofs.lemmas.Str.Parse.{without_leading_plus_none}
use Rattle.clap.proofs.WalkLemmas.{both}
use Rattle.command_line.specs.Settings.{is_number, number_between}

all_digits : (ds : List ℕ) → list_all is_ascii_digit ds ≡ true → AllDigits 10 ds
all_digits [] e = tt
all_digits (d ∷ ds) e =
    let one = both (is_ascii_digit d) (list_all is_ascii_digit ds) e in
    let ends = both (leb 48 d) (leb d 57) one.0 in
    let low : 48 ≤ d = leb-true 48 d ends.0 in
    let high : d ≤ 57 = leb-true d 57 ends.1 in
    (omega (arith, digit_value_digit d (low, high), high), all_digits ds one.1)

no_sign : (ds : List ℕ) → 0 < length ds → list_all is_ascii_digit ds ≡ true → get_or ds 0 0 ≢ 43
no_sign [] some e = absurd (omega arith)
no_sign (d ∷ ds) some e =
    λ plus. let one = both (is_ascii_digit d) (list_all is_ascii_digit ds) e in
    let ends = both (leb 48 d) (leb d 57) one.0 in
    let low : 48 ≤ d = leb-true 48 d ends.0 in
    omega (arith, plus)

-- digits that aren't read as a number of 64 bits are no number up to one
pub number_unread : (least most : ℕ) (text : List ℕ) → most < 2 ^ 64 → is_number text ≡ true
    → (IsNumeral 10 (without_leading_plus text) × (digits_value 10 (without_leading_plus text) < 2 ^ 64) → ⊥) → None ≡ number_between least most text
number_unread least most text fits number unread = by (cases_lt (digits_value 10 text) (2 ^ 64))
  where
    parts : ((nat_lt 0 (length text) && nat_le (length text) 20) ≡ true) × (list_all is_ascii_digit text ≡ true)
    parts = both (nat_lt 0 (length text) && nat_le (length text) 20) (list_all is_ascii_digit text) number

    some : 0 < length text
    some = ltb-true 0 (length text) (both (nat_lt 0 (length text)) (nat_le (length text) 20) parts.0).0

    digits : list_all is_ascii_digit text ≡ true
    digits = parts.1

    plain : without_leading_plus text ≡ text
    plain = without_leading_plus_none text (no_sign text some digits)

    above : (a b : Bool) → b ≡ false → None ≡ cond (a && b) (Some (digits_value 10 text)) None
    above true b e = rw (e) refl
    above false b e = refl

    by : (digits_value 10 text < 2 ^ 64) ⊎ (2 ^ 64 ≤ digits_value 10 text) → None ≡ number_between least most text
    by (inl small) =
        absurd (unread (subst (λ ds. IsNumeral 10 ds × (digits_value 10 ds < 2 ^ 64)) (sym plain) ((some, all_digits text digits), small)))
    by (inr big) =
        above (is_number text && nat_le least (digits_value 10 text)) (nat_le (digits_value 10 text) most)
        (lt-leb (digits_value 10 text) most (omega (arith, big, fits)))
