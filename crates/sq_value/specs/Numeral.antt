-- The integer that a text writes, or why it writes none.
use Rattle.std.specs.Prelude.{ℕ, Bool, ◌&&◌, List, length, nat_lt, ℤ, pos, negsuc, if◌then◌else◌, Result, Ok, Err}
use Rattle.std.specs.List.{list_all}
use Rattle.std.specs.Char.{is_ascii_digit}
use Rattle.std.specs.Str.Parse.{without_leading_sign, signed_digits_value}
use Rattle.sq_value.specs.declared.integer.IntFault.{IntFault}
use Rattle.sq_value.specs.declared.integer.IntFault.TheVariants.{NotANumber, OutOfRange}

-- whether each byte is an ASCII digit
abbrev pub all_digits : List ℕ → Bool
all_digits digits = list_all is_ascii_digit digits

-- whether a text is an optional sign and one or more digits
abbrev pub is_numeral : List ℕ → Bool
is_numeral text = nat_lt 0 (length (without_leading_sign text)) && all_digits (without_leading_sign text)

-- whether a number is from -2 ^ 63 up to 2 ^ 63 - 1, where `negsuc n` is -(n + 1)
abbrev pub is_i64 : ℤ → Bool
is_i64 (pos n) = nat_lt n 9223372036854775808
is_i64 (negsuc n) = nat_lt n 9223372036854775808

-- the number that a text writes, or why it writes none
unfoldable pub number_read : List ℕ → Result ℤ IntFault
number_read text =
    if is_numeral text then
    (if is_i64 (signed_digits_value 10 text) then Ok (signed_digits_value 10 text) else Err OutOfRange)
    else Err NotANumber
