-- A decimal number's text, read again.
use Rattle.std.proofs.Common.{◌≡◌, ℕ, zero, suc, ◌+◌, ◌-◌, ◌*◌, ◌/◌, ◌%◌, ◌^◌, ◌<◌, ◌≤◌, Bool, true, false, List, [], ◌∷◌, ◌++◌, length, ℤ, pos, negsuc, Option, Some, None, Result, Ok, Err, refl, ap, sym, ◌∙◌, subst, append_assoc, arith}
use Rattle.std.specs.Prelude.{◌&&◌, ◌==◌, unsigned_abs}
use Rattle.std.specs.Char.{is_ascii_digit, digit_value}
use Rattle.std.specs.Fmt.{sign_text, decimal}
use Rattle.std.specs.Int.{is_negative}
use Rattle.std.specs.Str.Parse.{starts_with_minus, without_leading_sign, digits_value, digits_value_after}
use Rattle.std.proofs.Math.Dec.{leb-suc-zero}
use Rattle.std.proofs.Math.Nat.{div-le_self, div-div-eq-div-mul, pow-suc}
use Rattle.std.proofs.lemmas.Bool.{ne_eqb, le-leb, leb-true, lt-ltb, ltb-true}
use Rattle.std.proofs.lemmas.List.{append-nil}
use Rattle.std.proofs.lemmas.Fmt.{decimal_by_steps, decimal_is_IsNumeral}
use Rattle.std.proofs.lemmas.Str.Parse.{without_leading_plus_none}
use Rattle.sq_value.specs.Numeral.{all_digits, is_i64}
use Rattle.sq_value.specs.Decimal.{before_point, behind_point, is_decimal, digits_or_none, units_written, with_sign, decimal_of, decimal_read, last_digits, fraction_text, decimal_text}
use Rattle.sq_value.specs.declared.decimal.Dec.{Dec}
use Rattle.sq_value.specs.declared.decimal.DecFault.{DecFault}
use Rattle.sq_value.proofs.NumeralLemmas.{both}
use Rattle.sq_value.proofs.DecimalLemmas.{before_point-here, behind_point-here, before_point-later, behind_point-later, before_point-none, behind_point-none, digits_value_after-append, digit_value-is}

-- ---- digits

digit : (d : ℕ) → d < 10 → is_ascii_digit (48 + d) ≡ true
digit d small = rw (le-leb 48 (48 + d) (omega (arith, small)), le-leb (48 + d) 57 (omega (arith, small))) refl

value_of : (d : ℕ) → d < 10 → digit_value (48 + d) ≡ d
value_of d small = let e : digit_value (48 + d) + 48 ≡ 48 + d = digit_value-is (48 + d) (digit d small) in omega (arith, e)

low : (d : ℕ) → is_ascii_digit d ≡ true → 48 ≤ d
low d e = leb-true 48 d (both _ _ e).0

all-cons : (d : ℕ) (ds : List ℕ) → is_ascii_digit d ≡ true → all_digits ds ≡ true → all_digits (d ∷ ds) ≡ true
all-cons d ds e f = rw (e, f) refl

all-append : (xs ys : List ℕ) → all_digits xs ≡ true → all_digits ys ≡ true → all_digits (xs ++ ys) ≡ true
all-append [] ys e f = f
all-append (x ∷ xs) ys e f =
    let parts = both (is_ascii_digit x) (all_digits xs) e in
    all-cons x (xs ++ ys) parts.0 (all-append xs ys parts.1 f)

decimal_digits : (n : ℕ) → n < 2 ^ 64 → all_digits (decimal n) ≡ true
decimal_digits =
    decimal_by_steps (λ n ds. all_digits ds ≡ true)
    (λ n small. all-cons (48 + n) [] (digit n small) refl)
    (λ n ds large rest. all-append ds ((48 + n % 10) ∷ []) rest (all-cons (48 + n % 10) [] (digit (n % 10) (omega arith)) refl))

-- the last digits of a number: as many as asked for, and what they make of the digits before them
last_all : (places n : ℕ) → all_digits (last_digits places n) ≡ true
last_all zero n = refl
last_all (suc places) n =
    all-cons (48 + n / 10 ^ places % 10) (last_digits places n) (digit (n / 10 ^ places % 10) (omega arith)) (last_all places n)

last_length : (places n : ℕ) → length (last_digits places n) ≡ places
last_length zero n = refl
last_length (suc places) n = ap suc (last_length places n)

last_value : (places n : ℕ) → digits_value_after 10 (n / 10 ^ places) (last_digits places n) ≡ n
last_value zero n = omega arith
last_value (suc places) n =
    let q : ℕ = n / 10 ^ places in
    let d : ℕ = q % 10 in
    let small : d < 10 = omega arith in
    let tens : n / 10 ^ suc places ≡ q / 10 = ap (λ (p : ℕ). n / p) (pow-suc 10 places) ∙ sym (div-div-eq-div-mul n (10 ^ places) 10) in
    let here : n / 10 ^ suc places * 10 + digit_value (48 + d) ≡ q =
    ap (λ (t : ℕ). t * 10 + digit_value (48 + d)) tens ∙ ap (λ (v : ℕ). q / 10 * 10 + v) (value_of d small) ∙ omega arith in
    ap (λ (m : ℕ). digits_value_after 10 m (last_digits places n)) here ∙ last_value places n

-- ---- the point

apart : (b : ℕ) → is_ascii_digit b ≡ true → (b == 46) ≡ false
apart b e = let h : 48 ≤ b = low b e in ne_eqb b 46 (λ f. omega (arith, h, f))

before : (ds fs : List ℕ) → all_digits ds ≡ true → before_point (ds ++ (46 ∷ fs)) ≡ ds
before [] fs e = before_point-here fs
before (d ∷ ds) fs e =
    let parts = both (is_ascii_digit d) (all_digits ds) e in
    before_point-later d (ds ++ (46 ∷ fs)) (apart d parts.0) ∙ ap (λ (l : List ℕ). d ∷ l) (before ds fs parts.1)

behind : (ds fs : List ℕ) → all_digits ds ≡ true → behind_point (ds ++ (46 ∷ fs)) ≡ Some fs
behind [] fs e = behind_point-here fs
behind (d ∷ ds) fs e =
    let parts = both (is_ascii_digit d) (all_digits ds) e in
    behind_point-later d (ds ++ (46 ∷ fs)) (apart d parts.0) ∙ behind ds fs parts.1

before_none : (ds : List ℕ) → all_digits ds ≡ true → before_point ds ≡ ds
before_none [] e = before_point-none
before_none (d ∷ ds) e =
    let parts = both (is_ascii_digit d) (all_digits ds) e in
    before_point-later d ds (apart d parts.0) ∙ ap (λ (l : List ℕ). d ∷ l) (before_none ds parts.1)

behind_none : (ds : List ℕ) → all_digits ds ≡ true → behind_point ds ≡ None
behind_none [] e = behind_point-none
behind_none (d ∷ ds) e =
    let parts = both (is_ascii_digit d) (all_digits ds) e in
    behind_point-later d ds (apart d parts.0) ∙ behind_none ds parts.1

-- ---- the sign

minus-is : (s : Bool) (ds rest : List ℕ) → all_digits ds ≡ true → 0 < length ds → starts_with_minus (sign_text s ++ (ds ++ rest)) ≡ s
minus-is true ds rest e some = refl
minus-is false [] rest e some = absurd (omega (arith, some))
minus-is false (d ∷ ds) rest e some =
    let h : 48 ≤ d = low d (both (is_ascii_digit d) (all_digits ds) e).0 in ne_eqb d 45 (λ f. omega (arith, h, f))

unsigned : (s : Bool) (ds rest : List ℕ) → all_digits ds ≡ true → 0 < length ds
    → without_leading_sign (sign_text s ++ (ds ++ rest)) ≡ ds ++ rest
unsigned true ds rest e some = refl
unsigned false [] rest e some = absurd (omega (arith, some))
unsigned false (d ∷ ds) rest e some =
    let h : 48 ≤ d = low d (both (is_ascii_digit d) (all_digits ds) e).0 in
    rw (minus-is false (d ∷ ds) rest e some) (without_leading_plus_none (d ∷ (ds ++ rest)) (λ f. omega (arith, h, f)))

signed_again : (z : ℤ) → with_sign (is_negative z) (unsigned_abs z) ≡ z
signed_again (pos n) = rw (leb-suc-zero n) refl
signed_again (negsuc n) = refl

size_fits : (z : ℤ) → is_i64 z ≡ true → unsigned_abs z ≤ 2 ^ 63
size_fits (pos n) e = let h : n < 9223372036854775808 = ltb-true n 9223372036854775808 e in omega (arith, h)
size_fits (negsuc n) e = let h : n < 9223372036854775808 = ltb-true n 9223372036854775808 e in omega (arith, h)

-- ---- the whole

-- what stands behind the point
abbrev behind_of : ℕ → ℕ → Option (List ℕ)
behind_of zero n = None
behind_of (suc places) n = Some (last_digits (suc places) n)

before_it : (scale n : ℕ) (ds : List ℕ) → all_digits ds ≡ true → before_point (ds ++ fraction_text scale n) ≡ ds
before_it zero n ds e = ap before_point (append-nil ds) ∙ before_none ds e
before_it (suc places) n ds e = before ds (last_digits (suc places) n) e

behind_it : (scale n : ℕ) (ds : List ℕ) → all_digits ds ≡ true → behind_point (ds ++ fraction_text scale n) ≡ behind_of scale n
behind_it zero n ds e = ap behind_point (append-nil ds) ∙ behind_none ds e
behind_it (suc places) n ds e = behind ds (last_digits (suc places) n) e

is_read : (scale n : ℕ) (ds : List ℕ) → all_digits ds ≡ true → 0 < length ds → is_decimal scale ds (behind_of scale n) ≡ true
is_read zero n ds e some = rw (lt-ltb 0 (length ds) some, e) refl
is_read (suc places) n ds e some =
    let long : length (last_digits (suc places) n) ≡ suc places = last_length (suc places) n in
    rw (lt-ltb 0 (length ds) some, e, last_all (suc places) n, long, lt-ltb 0 (suc places) (omega arith), le-leb (suc places) (suc places) (omega arith)) refl

units_read : (scale n : ℕ) (ds : List ℕ) → digits_value 10 ds ≡ n / 10 ^ scale
    → units_written scale ds (digits_or_none (behind_of scale n)) ≡ n
units_read zero n ds v =
    let whole : digits_value 10 (ds ++ []) ≡ n / 10 ^ 0 = ap (digits_value 10) (append-nil ds) ∙ v in omega (arith, whole)
units_read (suc places) n ds v =
    let fs : List ℕ = last_digits (suc places) n in
    let all : digits_value 10 (ds ++ fs) ≡ n =
    digits_value_after-append 0 ds fs ∙ ap (λ (m : ℕ). digits_value_after 10 m fs) v ∙ last_value (suc places) n in
    let none : suc places - length fs ≡ 0 = ap (λ (l : ℕ). suc places - l) (last_length (suc places) n) ∙ omega arith in
    ap (λ (k : ℕ). digits_value 10 (ds ++ fs) * 10 ^ k) none ∙ ap (λ (m : ℕ). m * 1) all ∙ omega arith

made : (scale : ℕ) (z : ℤ) (whole : List ℕ) (o : Option (List ℕ)) → is_decimal scale whole o ≡ true
    → with_sign (is_negative z) (units_written scale whole (digits_or_none o)) ≡ z → is_i64 z ≡ true
    → decimal_of scale (is_negative z) whole o ≡ Ok record { units = z; scale = scale }
made scale z whole o e f g = rw (e, f, g) refl

pub read_back : (units : ℤ) (scale : ℕ) → is_i64 units ≡ true
    → decimal_read scale (decimal_text record { units = units; scale = scale }) ≡ Ok record { units = units; scale = scale }
unfolding decimal_read decimal_text
read_back z scale fits =
    let n : ℕ = unsigned_abs z in
    let small : n / 10 ^ scale < 2 ^ 64 = omega (arith, size_fits z fits, div-le_self n (10 ^ scale)) in
    let ds : List ℕ = decimal (n / 10 ^ scale) in
    let all : all_digits ds ≡ true = decimal_digits (n / 10 ^ scale) small in
    let numeral = decimal_is_IsNumeral (n / 10 ^ scale) small in
    let text : decimal_text record { units = z; scale = scale } ≡ sign_text (is_negative z) ++ (ds ++ fraction_text scale n) =
    append_assoc (sign_text (is_negative z)) ds (fraction_text scale n) in
    let minus = ap starts_with_minus text ∙ minus-is (is_negative z) ds (fraction_text scale n) all numeral.0.0 in
    let digits = ap without_leading_sign text ∙ unsigned (is_negative z) ds (fraction_text scale n) all numeral.0.0 in
    let first = ap before_point digits ∙ before_it scale n ds all in
    let last = ap behind_point digits ∙ behind_it scale n ds all in
    ap (λ (b : Bool). decimal_of scale b (before_point (without_leading_sign (decimal_text record { units = z; scale = scale })))
    (behind_point (without_leading_sign (decimal_text record { units = z; scale = scale })))) minus
    ∙ ap (λ (l : List ℕ). decimal_of scale (is_negative z) l (behind_point (without_leading_sign (decimal_text record { units = z; scale = scale })))) first
    ∙ ap (decimal_of scale (is_negative z) ds) last
    ∙ made scale z ds (behind_of scale n) (is_read scale n ds all numeral.0.0)
    (ap (with_sign (is_negative z)) (units_read scale n ds numeral.1) ∙ signed_again z) fits
