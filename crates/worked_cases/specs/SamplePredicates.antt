-- Serves tests: six predicates, by name and by number.
use Rattle.std.specs.Prelude.{ℕ, List, Option, Some, None, if◌then◌else◌, ◌==◌, nat_eq, nat_lt, codes}
use Rattle.std.specs.Cmp.Lexicographic.{pointwise}
use Rattle.sq_value.specs.Name.{lower}
use Rattle.sq_value.specs.declared.value.ColType.TheVariants.{Integer, Text, Decimal}
use Rattle.sq_value.specs.declared.predicate.Kinds.{Kinds}

abbrev pub sample_kinds : ℕ → Option Kinds
sample_kinds number =
    if nat_lt number 3 then Some record { first = Integer; second = Integer }
    else (if number == 3 then Some record { first = Text; second = Text }
    else (if number == 4 then Some record { first = Decimal 2; second = Integer }
    else (if number == 7 then Some record { first = Decimal 3; second = Decimal 2 } else None)))

-- the number of a predicate of integers, by its name in lower case
unfoldable pub integers_at : List ℕ → Option ℕ
integers_at name =
    if pointwise nat_eq name (lower (codes "divides")) then Some 0
    else (if pointwise nat_eq name (lower (codes "same_sign")) then Some 1
    else (if pointwise nat_eq name (lower (codes "near10")) then Some 2 else None))

-- the number of another predicate
unfoldable pub others_at : List ℕ → Option ℕ
others_at name =
    if pointwise nat_eq name (lower (codes "begins")) then Some 3
    else (if pointwise nat_eq name (lower (codes "costs")) then Some 4
    else (if pointwise nat_eq name (lower (codes "rates")) then Some 7 else None))

abbrev pub or_else : Option ℕ → Option ℕ → Option ℕ
or_else None other = other
or_else (Some number) other = Some number

abbrev pub sample_number : List ℕ → Option ℕ
sample_number name = or_else (integers_at (lower name)) (others_at (lower name))
