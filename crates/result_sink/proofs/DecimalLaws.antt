-- The texts of integers and of decimal numbers need no quotes.
use Rattle.std.proofs.Common.{◌≡◌, ℕ, ℤ, zero, suc, ◌+◌, ◌/◌, ◌%◌, ◌^◌, ◌<◌, Bool, true, false, List, [], ◌∷◌, ◌++◌, arith, ◌∙◌, refl}
use Rattle.std.specs.Prelude.{pos, negsuc, unsigned_abs}
use Rattle.std.specs.Fmt.{decimal, sign_text, signed_decimal}
use Rattle.std.specs.Int.{is_negative}
use Rattle.std.proofs.lemmas.Bool.{ne_eqb, or_from, cond-false}
use Rattle.std.proofs.lemmas.List.Folds.{list_any-append}
use Rattle.std.proofs.lemmas.Fmt.{decimal_by_steps}
use Rattle.csv.specs.Writing.{default_writer, needs_byte, needs_quotes, field_text}
use Rattle.sq_value.specs.Decimal.{last_digits, fraction_text, decimal_text}
use Rattle.sq_value.specs.declared.decimal.Dec.{Dec}

-- a byte above the marks of CSV needs none
pub needs_byte-above : (b : ℕ) → 44 < b → needs_byte default_writer b ≡ false
needs_byte-above b above =
    or_from _ _ (or_from _ _ (or_from _ _ (or_from _ _ (ne_eqb b 44 (λ e. omega (arith, e, above))) (ne_eqb b 34 (λ e. omega (arith, e, above)))) (or_from _ _ (ne_eqb b 13 (λ e. omega (arith, e, above))) (ne_eqb b 10 (λ e. omega (arith, e, above))))) refl) refl

-- two texts that need none, one behind the other
pub needs_quotes-append : (xs ys : List ℕ) → needs_quotes default_writer xs ≡ false → needs_quotes default_writer ys ≡ false
    → needs_quotes default_writer (xs ++ ys) ≡ false
needs_quotes-append xs ys first second =
    list_any-append (needs_byte default_writer) xs ys
    ∙ or_from (needs_quotes default_writer xs) (needs_quotes default_writer ys) first second

-- one byte above the marks
pub needs_quotes-one : (b : ℕ) → 44 < b → needs_quotes default_writer (b ∷ []) ≡ false
needs_quotes-one b above = or_from (needs_byte default_writer b) false (needs_byte-above b above) refl

pub needs_quotes-cons : (b : ℕ) (bs : List ℕ) → 44 < b → needs_quotes default_writer bs ≡ false → needs_quotes default_writer (b ∷ bs) ≡ false
needs_quotes-cons b bs above rest = or_from (needs_byte default_writer b) (needs_quotes default_writer bs) (needs_byte-above b above) rest

pub needs_quotes-decimal : (n : ℕ) → n < 2 ^ 64 → needs_quotes default_writer (decimal n) ≡ false
needs_quotes-decimal =
    decimal_by_steps (λ n ds. needs_quotes default_writer ds ≡ false)
    (λ n small. needs_quotes-one (48 + n) (omega arith))
    (λ n ds large rest. needs_quotes-append ds ((48 + n % 10) ∷ []) rest (needs_quotes-one (48 + n % 10) (omega arith)))

pub needs_quotes-last_digits : (places n : ℕ) → needs_quotes default_writer (last_digits places n) ≡ false
needs_quotes-last_digits zero n = refl
needs_quotes-last_digits (suc places) n =
    needs_quotes-cons (48 + n / 10 ^ places % 10) (last_digits places n) (omega arith) (needs_quotes-last_digits places n)

pub needs_quotes-fraction : (scale n : ℕ) → needs_quotes default_writer (fraction_text scale n) ≡ false
needs_quotes-fraction zero n = refl
needs_quotes-fraction (suc places) n = needs_quotes-cons 46 (last_digits (suc places) n) (omega arith) (needs_quotes-last_digits (suc places) n)

pub needs_quotes-sign : (negative : Bool) → needs_quotes default_writer (sign_text negative) ≡ false
needs_quotes-sign true = refl
needs_quotes-sign false = refl

-- its field is its text
pub field_text-decimal : (d : Dec) → unsigned_abs d.units / 10 ^ d.scale < 2 ^ 64 → field_text default_writer (decimal_text d) ≡ decimal_text d
unfolding decimal_text
field_text-decimal d small =
    cond-false (needs_quotes default_writer (decimal_text d)) _ _
    (needs_quotes-append (sign_text (is_negative d.units) ++ decimal (unsigned_abs d.units / 10 ^ d.scale)) (fraction_text d.scale (unsigned_abs d.units))
    (needs_quotes-append (sign_text (is_negative d.units)) (decimal (unsigned_abs d.units / 10 ^ d.scale))
    (needs_quotes-sign (is_negative d.units)) (needs_quotes-decimal (unsigned_abs d.units / 10 ^ d.scale) small))
    (needs_quotes-fraction d.scale (unsigned_abs d.units)))

pub needs_quotes-signed : (n : ℤ) → unsigned_abs n < 2 ^ 64 → needs_quotes default_writer (signed_decimal n) ≡ false
needs_quotes-signed (pos n) small = needs_quotes-decimal n small
needs_quotes-signed (negsuc n) small = needs_quotes-cons 45 (decimal (suc n)) (omega arith) (needs_quotes-decimal (suc n) small)

-- the field of an integer is its text
pub field_text-integer : (n : ℤ) → unsigned_abs n < 2 ^ 64 → field_text default_writer (signed_decimal n) ≡ signed_decimal n
field_text-integer n small = cond-false (needs_quotes default_writer (signed_decimal n)) _ _ (needs_quotes-signed n small)
