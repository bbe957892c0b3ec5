-- What a call of a predicate is known by, and what the predicates give of it.
use Rattle.std.specs.Prelude.{ℕ, ℤ, Bool, ◌&&◌, ◌==◌, Option, Some, None, option_and_then}
use Rattle.std.specs.Option.{option_map, option_eq}
use Rattle.std.specs.Ordering.{int_eq}
use Rattle.sq_value.specs.declared.value.Value.{Value}
use Rattle.sq_value.specs.declared.value.Value.TheVariants as value
use Rattle.sq_value.specs.declared.value.Truth.{Truth}
use Rattle.predicate_cache.specs.declared.call_key.CallKey.{CallKey}

-- what an argument is known by: an integer by its number and a null by None; a text and a decimal number by nothing
abbrev pub argument : Value → Option (Option ℤ)
argument value.Null = Some None
argument (value.Int n) = Some (Some n)
argument (value.Text t) = None
argument (value.Decimal d) = None

-- what a call is known by, where both arguments are known by something
abbrev pub known_by : ℕ → Value → Value → Option CallKey
known_by number x y =
    option_and_then (λ a. option_map (λ b. record { number = number; x = a; y = b }) (argument y)) (argument x)

-- the argument that is known by this
abbrev pub argument_of : Option ℤ → Value
argument_of None = value.Null
argument_of (Some n) = value.Int n

-- what the predicates give of the call that is known by this
abbrev pub given : (ℕ → Value → Value → Truth) → CallKey → Truth
given gives key = gives key.number (argument_of key.x) (argument_of key.y)

-- whether two calls are known by the same
abbrev pub is_key : CallKey → CallKey → Bool
is_key key other = (key.number == other.number) && (option_eq int_eq key.x other.x && option_eq int_eq key.y other.y)
