-- The faults of a statement, each at its place, and the first of them.
use Rattle.std.specs.Prelude.{◌≡◌, ℕ, ◌<◌, ◌≤◌, ◌⊎◌, Bool, ◌&&◌, ◌||◌, ◌==◌, nat_lt, List, [], ◌∷◌, Option, Some, None, if◌then◌else◌, Contains}
use Rattle.sq_bind.specs.declared.fault.BindFault.{BindFault}
use Rattle.sq_bind.specs.declared.fault.BindFault.TheVariants as fault

-- the place of a fault in the script; an alias that can't be reached stands nowhere in it
abbrev pub place_of : BindFault → ℕ
place_of (fault.UnknownTable at) = at
place_of (fault.RepeatedAlias at) = at
place_of (fault.UnknownAlias at) = at
place_of (fault.UnknownColumn at) = at
place_of (fault.AmbiguousColumn at) = at
place_of (fault.TypeMismatch at) = at
place_of (fault.UnknownFunction at) = at
place_of (fault.WrongArguments at) = at
place_of (fault.TooManyAliases at) = at
place_of (fault.TooManyConjuncts at) = at
place_of (fault.TooManyTerms at) = at
place_of (fault.NotGrouped at) = at
place_of (fault.NotSelected at) = at
place_of (fault.Unreachable alias) = alias
place_of fault.Memory = 0

-- the number of a fault, which decides at one place
abbrev pub fault_number : BindFault → ℕ
fault_number (fault.UnknownTable at) = 1
fault_number (fault.RepeatedAlias at) = 2
fault_number (fault.UnknownAlias at) = 3
fault_number (fault.UnknownColumn at) = 4
fault_number (fault.AmbiguousColumn at) = 5
fault_number (fault.TypeMismatch at) = 6
fault_number (fault.UnknownFunction at) = 7
fault_number (fault.WrongArguments at) = 8
fault_number (fault.TooManyAliases at) = 9
fault_number (fault.TooManyConjuncts at) = 10
fault_number (fault.TooManyTerms at) = 11
fault_number (fault.NotGrouped at) = 14
fault_number (fault.NotSelected at) = 15
fault_number (fault.Unreachable alias) = 12
fault_number fault.Memory = 13

-- a fault stands before another, or is at its place and of no greater number
abbrev pub IsNotLater : BindFault → BindFault → Type 0
IsNotLater f other =
    (place_of f < place_of other) ⊎ ((place_of f ≡ place_of other) × (fault_number f ≤ fault_number other))

-- the first of some faults: the one with the least place, and at one place the one with the lower number
pub record IsFirst (faults : List BindFault) (f : BindFault) : Type 0 where
  pub among : Contains faults f
  pub first : (other : BindFault) → Contains faults other → IsNotLater f other

-- whether a fault stands before another
abbrev pub is_before : BindFault → BindFault → Bool
is_before f other =
    nat_lt (place_of f) (place_of other)
    || ((place_of f == place_of other) && nat_lt (fault_number f) (fault_number other))

-- the one of two that comes first
abbrev pub sooner : Option BindFault → Option BindFault → Option BindFault
sooner None y = y
sooner (Some f) None = Some f
sooner (Some f) (Some g) = if is_before g f then Some g else Some f

-- the first of some faults, where there are any
abbrev pub first_of : List BindFault → Option BindFault
first_of [] = None
first_of (f ∷ faults) = sooner (Some f) (first_of faults)
