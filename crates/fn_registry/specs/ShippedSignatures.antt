-- The names, numbers and types of the predicates that the program ships.
use Rattle.std.specs.Prelude.{List, [], ◌∷◌, codes}
use Rattle.sq_value.specs.declared.predicate.Kinds.{Kinds}
use Rattle.sq_value.specs.declared.value.ColType.TheVariants as kind
use Rattle.fn_registry.specs.declared.signature.Signature.{Signature}

-- both arguments are integers
abbrev pub integers : Kinds
integers = record { first = kind.Integer; second = kind.Integer }

-- the predicates, in the order in which the program adds them
abbrev pub shipped_signatures : List Signature
shipped_signatures =
    record { name = codes "divides"; number = 0; kinds = integers }
    ∷ record { name = codes "same_sign"; number = 1; kinds = integers }
    ∷ record { name = codes "near10"; number = 2; kinds = integers }
    ∷ []
