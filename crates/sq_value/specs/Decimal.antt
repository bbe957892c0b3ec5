-- Decimal numbers as texts: an optional sign, digits, and maybe a point and more digits.
use Rattle.std.specs.Prelude.{ℕ, zero, suc, ◌+◌, ◌-◌, ◌*◌, ◌/◌, ◌%◌, ◌^◌, Bool, true, ◌&&◌, List, [], ◌∷◌, ◌++◌, length, nat_lt, nat_le, ◌==◌, if◌then◌else◌, ℤ, pos, neg_ℤ, unsigned_abs, Option, Some, None, unwrap_or, Result, Ok, Err}
use Rattle.std.specs.Fmt.{sign_text, decimal}
use Rattle.std.specs.Int.{is_negative}
use Rattle.std.specs.Str.Parse.{starts_with_minus, without_leading_sign, digits_value}
use Rattle.sq_value.specs.Numeral.{all_digits, is_i64}
use Rattle.sq_value.specs.declared.decimal.Dec.{Dec}
use Rattle.sq_value.specs.declared.decimal.DecFault.{DecFault}
use Rattle.sq_value.specs.declared.decimal.DecFault.TheVariants.{NotADecimal, OutOfRange}

-- what stands before the first point of a text
unfoldable pub before_point : List ℕ → List ℕ
before_point [] = []
before_point (b ∷ bs) = if b == 46 then [] else b ∷ before_point bs

-- what stands behind the first point, where there is one
unfoldable pub behind_point : List ℕ → Option (List ℕ)
behind_point [] = None
behind_point (b ∷ bs) = if b == 46 then Some bs else behind_point bs

-- whether digits are what may stand behind a point at a scale: one to as many as it says
abbrev pub is_fraction : ℕ → Option (List ℕ) → Bool
is_fraction scale None = true
is_fraction scale (Some digits) = nat_lt 0 (length digits) && nat_le (length digits) scale && all_digits digits

-- whether what stands before and behind a point is a number at a scale
abbrev pub is_decimal : ℕ → List ℕ → Option (List ℕ) → Bool
is_decimal scale whole behind = nat_lt 0 (length whole) && all_digits whole && is_fraction scale behind

-- a list of digits that may be missing
abbrev pub digits_or_none : Option (List ℕ) → List ℕ
digits_or_none behind = unwrap_or behind []

-- how many units of a scale digits write: all as one number, and a zero for each that the scale has more
abbrev pub units_written : ℕ → List ℕ → List ℕ → ℕ
units_written scale whole fraction = digits_value 10 (whole ++ fraction) * 10 ^ (scale - length fraction)

-- a number with its sign
abbrev pub with_sign : Bool → ℕ → ℤ
with_sign negative size = if negative then neg_ℤ (pos size) else pos size

-- the decimal number of a sign and of what stands before and behind a point, or why there is none
abbrev pub decimal_of : ℕ → Bool → List ℕ → Option (List ℕ) → Result Dec DecFault
decimal_of scale negative whole behind =
    let units = with_sign negative (units_written scale whole (digits_or_none behind)) in
    if is_decimal scale whole behind then
    (if is_i64 units then Ok record { units = units; scale = scale } else Err OutOfRange)
    else Err NotADecimal

-- the decimal number that a text writes at a scale, or why it writes none
unfoldable pub decimal_read : ℕ → List ℕ → Result Dec DecFault
decimal_read scale text =
    let digits = without_leading_sign text in
    decimal_of scale (starts_with_minus text) (before_point digits) (behind_point digits)

-- the last decimal digits of a number, as many as asked for
abbrev pub last_digits : ℕ → ℕ → List ℕ
last_digits zero n = []
last_digits (suc places) n = (48 + n / 10 ^ places % 10) ∷ last_digits places n

-- the point and the digits behind it; an integer has none
abbrev pub fraction_text : ℕ → ℕ → List ℕ
fraction_text zero n = []
fraction_text (suc places) n = 46 ∷ last_digits (suc places) n

-- the text of a decimal number: its sign if it is negative, the whole part, and as many digits more as its scale says
unfoldable pub decimal_text : Dec → List ℕ
decimal_text d =
    sign_text (is_negative d.units)
    ++ decimal (unsigned_abs d.units / 10 ^ d.scale) ++ fraction_text d.scale (unsigned_abs d.units)
