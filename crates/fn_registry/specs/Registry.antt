-- Registered predicates by name and by number.
use Rattle.std.specs.Prelude.{ℕ, Bool, ◌||◌, ◌==◌, List, Option, option_map, find}
use Rattle.std.specs.List.{list_any}
use Rattle.sq_value.specs.Name.{is_same_name}
use Rattle.fn_registry.specs.declared.signature.Signature.{Signature}
use Rattle.sq_value.specs.declared.predicate.Kinds.{Kinds}

-- whether a predicate has this name, but for the case of ASCII letters
abbrev pub is_of_name : List ℕ → Signature → Bool
is_of_name name s = is_same_name s.name name

-- whether it has this number
abbrev pub is_of_number : ℕ → Signature → Bool
is_of_number number s = s.number == number

-- the number of the first predicate with this name
abbrev pub number_named : List Signature → List ℕ → Option ℕ
number_named signatures name = option_map (λ (s : Signature). s.number) (find (is_of_name name) signatures)

-- the types of the first predicate with this number
abbrev pub kinds_numbered : List Signature → ℕ → Option Kinds
kinds_numbered signatures number = option_map (λ (s : Signature). s.kinds) (find (is_of_number number) signatures)

-- whether a name or a number is there
abbrev pub is_taken : List Signature → List ℕ → ℕ → Bool
is_taken signatures name number = list_any (is_of_name name) signatures || list_any (is_of_number number) signatures
