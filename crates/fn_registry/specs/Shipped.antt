-- The predicates that the program ships: over integers, and Unknown where an argument is null.
use Rattle.std.specs.Prelude.{ℕ, ◌+◌, ◌%◌, nat_lt, nat_le, Bool, true, false, ◌&&◌, ◌||◌, ◌==◌, ℤ, pos, negsuc, if◌then◌else◌}
use Rattle.sq_value.specs.Comparison.{two_valued}
use Rattle.sq_value.specs.declared.value.Value.{Value}
use Rattle.sq_value.specs.declared.value.Value.TheVariants.{Int}
use Rattle.sq_value.specs.declared.value.Truth.{Truth}
use Rattle.sq_value.specs.declared.value.Truth.TheVariants.{Unknown}

-- the truth of a test of two integers, and Unknown of other values
abbrev pub on_integers : (ℤ → ℤ → Bool) → Value → Value → Truth
on_integers test (Int m) (Int n) = two_valued (test m n)
on_integers test _ _ = Unknown

-- how far an integer is from 0
abbrev pub magnitude : ℤ → ℕ
magnitude (pos n) = n
magnitude (negsuc n) = n + 1

-- whether the first isn't 0 and the second is a multiple of it
abbrev pub is_divisor : ℤ → ℤ → Bool
is_divisor m n = nat_lt 0 (magnitude m) && (magnitude n % magnitude m == 0)

-- whether both are negative, both zero or both positive
abbrev pub has_same_sign : ℤ → ℤ → Bool
has_same_sign (negsuc m) (negsuc n) = true
has_same_sign (negsuc m) (pos n) = false
has_same_sign (pos m) (negsuc n) = false
has_same_sign (pos m) (pos n) = (nat_lt 0 m && nat_lt 0 n) || ((m == 0) && (n == 0))

-- whether two natural numbers differ by at most 10
abbrev pub differ_by_ten : ℕ → ℕ → Bool
differ_by_ten m n = nat_le m (n + 10) && nat_le n (m + 10)

-- whether two integers do
abbrev pub is_near : ℤ → ℤ → Bool
is_near (pos m) (pos n) = differ_by_ten m n
is_near (negsuc m) (negsuc n) = differ_by_ten m n
is_near (pos m) (negsuc n) = nat_le (m + n + 1) 10
is_near (negsuc m) (pos n) = nat_le (m + n + 1) 10

-- the predicates by their numbers
abbrev pub divides : Value → Value → Truth
divides = on_integers is_divisor

abbrev pub same_sign : Value → Value → Truth
same_sign = on_integers has_same_sign

abbrev pub near10 : Value → Value → Truth
near10 = on_integers is_near

abbrev pub shipped_gives : ℕ → Value → Value → Truth
shipped_gives number x y =
    if number == 0 then divides x y
    else if number == 1 then same_sign x y
    else if number == 2 then near10 x y
    else Unknown
