-- Fields of digits alone, and the integers that they write.
use Rattle.std.proofs.Common.{◌≡◌, ℕ, zero, suc, ◌+◌, ◌*◌, ◌^◌, ◌<◌, ◌≤◌, Bool, true, false, leb, List, [], ◌∷◌, length, drop, get_or, ℤ, pos, Option, Some, None, Ok, refl, sym, ap, ◌∙◌, subst, arith, w64}
use Rattle.std.specs.Prelude.{FitsSigned, IfSome, slice_index, not, ◌&&◌, ◌||◌, ◌==◌, nat_lt}
use Rattle.std.specs.Char.{digit_value, is_ascii_digit}
use Rattle.std.specs.Str.{IsAscii, is_utf8}
use Rattle.std.specs.Str.Parse.{digits_value, digits_value_after, starts_with_minus, without_leading_sign}
use Rattle.std.proofs.lemmas.Bool.{leb-true, lt-ltb, ltb-true, ne_eqb}
use Rattle.std.proofs.Math.Nat.{pow-le-pow_right}
use Rattle.std.proofs.lemmas.Int.{to_z-of_z}
use Rattle.std.proofs.lemmas.Int.Digits.{digits_value-lt}
use Rattle.std.proofs.lemmas.List.{drop_more}
use mir.Val.{to_z, of_z}
use Rattle.std.proofs.lemmas.Str.{IsUtf8-from_ascii, is_utf8-from_IsUtf8}
use Rattle.sq_value.specs.Numeral.{all_digits, number_read}
use Rattle.sq_value.specs.declared.value.Value.TheVariants as value
use Rattle.sq_value.specs.declared.value.ColType.TheVariants as kind
use Rattle.sq_value.proofs.NumeralLemmas.{AllDigits-from_all_digits}
use Rattle.table_csv.specs.Fields.{field_fault, is_null_field, value_of}
use Rattle.table_csv.specs.Heading.{is_canonical}

both : (a b : Bool) → (a && b) ≡ true → (a ≡ true) × (b ≡ true)
both true b e = (refl, e)
both false b e = absurd cc

-- a digit is a byte from 48 to 57
digit-range : (c : ℕ) → is_ascii_digit c ≡ true → (48 ≤ c) × (c ≤ 57)
digit-range c e =
    let ends = both (leb 48 c) (leb c 57) e in
    (leb-true 48 c ends.0, leb-true c 57 ends.1)

ascii-digits : (ds : List ℕ) → all_digits ds ≡ true → IsAscii ds
ascii-digits [] e i = omega arith
ascii-digits (d ∷ ds) e zero =
    let r = digit-range d (both (is_ascii_digit d) (all_digits ds) e).0 in
    omega (arith, r.1)
ascii-digits (d ∷ ds) e (suc i) = ascii-digits ds (both (is_ascii_digit d) (all_digits ds) e).1 i

utf8-digits : (ds : List ℕ) → all_digits ds ≡ true → is_utf8 ds ≡ true
utf8-digits ds e = is_utf8-from_IsUtf8 ds (IsUtf8-from_ascii ds (ascii-digits ds e))

-- digits are no sign
minus-digits : (ds : List ℕ) → all_digits ds ≡ true → starts_with_minus ds ≡ false
minus-digits [] e = refl
minus-digits (d ∷ ds) e =
    let r = digit-range d (both (is_ascii_digit d) (all_digits ds) e).0 in
    ne_eqb d 45 (λ same. absurd (omega (arith, r.0, same)))

plus-digits : (ds : List ℕ) → all_digits ds ≡ true → (slice_index ds 0 == 43) ≡ false
plus-digits [] e = refl
plus-digits (d ∷ ds) e =
    let r = digit-range d (both (is_ascii_digit d) (all_digits ds) e).0 in
    ne_eqb d 43 (λ same. absurd (omega (arith, r.0, same)))

unsigned-digits : (ds : List ℕ) → all_digits ds ≡ true → without_leading_sign ds ≡ ds
unsigned-digits ds e = rw (minus-digits ds e, plus-digits ds e) refl

-- the number that digits write, if it is one of 64 bits with a sign
pub number-digits : (ds : List ℕ) (n : ℕ) → all_digits ds ≡ true → 0 < length ds → n ≡ digits_value 10 ds → n < 9223372036854775808
    → number_read ds ≡ Ok (pos n)
unfolding number_read
number-digits ds n e some is few =
    let fits : nat_lt (digits_value 10 ds) 9223372036854775808 ≡ true = lt-ltb (digits_value 10 ds) 9223372036854775808 (omega (arith, is, few)) in
    rw (unsigned-digits ds e, minus-digits ds e, lt-ltb 0 (length ds) some, e, fits, is) refl

-- they are canonical, if the first is no 0 or the only one
pub canonical-digits : (ds : List ℕ) (n : ℕ) → all_digits ds ≡ true → 0 < length ds → n ≡ digits_value 10 ds → n < 9223372036854775808
    → ((length ds == 1) || not (slice_index ds 0 == 48)) ≡ true → is_canonical ds ≡ true
canonical-digits ds n e some is few first =
    rw (utf8-digits ds e, minus-digits ds e, lt-ltb 0 (length ds) some, e, number-digits ds n e some is few)
    (by (length ds == 1) (slice_index ds 0 == 48) first)
  where
    by : (a b : Bool) → (a || not b) ≡ true → (((a && b) || (true && true && not b)) && true) ≡ true
    by true true h = refl
    by true false h = refl
    by false true h = absurd cc
    by false false h = refl

-- the answers of reading them
plain_parts : (ds : List ℕ) (plain : Bool) → plain ≡ (nat_lt 0 (length ds) && ((length ds == 1) || not (slice_index ds 0 == 48))) → plain ≡ true
    → (0 < length ds) × (((length ds == 1) || not (slice_index ds 0 == 48)) ≡ true)
plain_parts ds plain is e =
    let parts = both (nat_lt 0 (length ds)) _ (sym is ∙ e) in
    (ltb-true 0 (length ds) parts.0, parts.1)

pub plain-some : (r : Option ℤ) (ds : List ℕ) (plain : Bool) → plain ≡ (nat_lt 0 (length ds) && ((length ds == 1) || not (slice_index ds 0 == 48))) → plain ≡ true
    → IfSome r (λ _. 0 < length ds)
plain-some None ds plain is e = tt
plain-some (Some z) ds plain is e = (plain_parts ds plain is e).0

pub plain-canonical : (r : Option ℤ) (ds : List ℕ) (n : ℕ) (plain : Bool) → plain ≡ (nat_lt 0 (length ds) && ((length ds == 1) || not (slice_index ds 0 == 48)))
    → plain ≡ true → all_digits ds ≡ true → n ≡ digits_value 10 ds → IfSome r (λ _. n < 9223372036854775808) → IfSome r (λ _. is_canonical ds ≡ true)
plain-canonical None ds n plain is e digits value few = tt
plain-canonical (Some z) ds n plain is e digits value few =
    let parts = plain_parts ds plain is e in
    canonical-digits ds n digits parts.0 value few parts.1

pub plain-number : (r : Option ℤ) (ds : List ℕ) (n : ℕ) (plain : Bool) → plain ≡ (nat_lt 0 (length ds) && ((length ds == 1) || not (slice_index ds 0 == 48)))
    → plain ≡ true → all_digits ds ≡ true → n ≡ digits_value 10 ds → IfSome r (λ z. z ≡ pos n) → IfSome r (λ _. n < 9223372036854775808)
    → IfSome r (λ z. number_read ds ≡ Ok z)
plain-number None ds n plain is e digits value same few = tt
plain-number (Some z) ds n plain is e digits value same few =
    number-digits ds n digits (plain_parts ds plain is e).0 value few ∙ ap (λ k. Ok k) (sym same)

pub plain-fits : (r : Option ℤ) (n : ℕ) → IfSome r (λ z. z ≡ pos n) → IfSome r (λ _. n < 9223372036854775808) → IfSome r (λ z. FitsSigned w64 z)
plain-fits None n same few = tt
plain-fits (Some z) n same few = subst (FitsSigned w64) (sym same) record { sfits = few }

-- up to 18 digits are a number of 63 bits
few-digits : (ds : List ℕ) → all_digits ds ≡ true → length ds ≤ 18 → digits_value 10 ds < 9223372036854775808
few-digits ds e few =
    let below = digits_value-lt 10 ds (AllDigits-from_all_digits ds e) in
    let most : 10 ^ length ds ≤ 10 ^ 18 = pow-le-pow_right {n = 10} (omega arith) few in
    omega (arith, below, most)

pub short-canonical : (ds : List ℕ) (plain : Bool) → plain ≡ (nat_lt 0 (length ds) && ((length ds == 1) || not (slice_index ds 0 == 48))) → plain ≡ true
    → length ds ≤ 18 → all_digits ds ≡ true → is_canonical ds ≡ true
short-canonical ds plain is e few digits =
    let parts = plain_parts ds plain is e in
    canonical-digits ds (digits_value 10 ds) digits parts.0 refl (few-digits ds digits few) parts.1

-- what the digits from one on say, the whole says
pub digits-more : (ds : List ℕ) (i : ℕ) → i < length ds → is_ascii_digit (get_or ds i 0) ≡ true → all_digits (drop (i + 1) ds) ≡ true → all_digits (drop i ds) ≡ true
digits-more ds i h one rest = rw (drop_more ds i 0 h, one) rest

pub value-more : (ds : List ℕ) (i v next : ℕ) → i < length ds → next ≡ v * 10 + digit_value (get_or ds i 0)
    → digits_value_after 10 next (drop (i + 1) ds) ≡ digits_value_after 10 v (drop i ds)
value-more ds i v next h is = rw (drop_more ds i 0 h) (ap (λ n. digits_value_after 10 n (drop (i + 1) ds)) is)

-- the value of a canonical field without a sign, which has no fault
some-null : (field : List ℕ) → 0 < length field → is_null_field field ≡ false
some-null field h = ne_eqb (length field) 0 (λ e. absurd (omega (arith, h, e)))

pub plain-value : (field : List ℕ) (n : ℤ) → 0 < length field → number_read field ≡ Ok n → FitsSigned w64 n
    → value.Int (to_z w64 (of_z w64 n)) ≡ value_of kind.Integer field
plain-value field n some e fits = rw (to_z-of_z w64 n fits, some-null field some, e) refl

pub plain-taken : (rec number : ℕ) (field : List ℕ) (n : ℤ) → 0 < length field → is_canonical field ≡ true → number_read field ≡ Ok n
    → field_fault rec number kind.Integer field ≡ None
plain-taken rec number field n some canonical e = rw ((both (is_utf8 field) _ (both _ _ canonical).0).0, some-null field some, e) refl
