-- The predicates of the program as it is shipped.
use Rattle.fn_registry.specs.Meaning.{gives_of}
use Rattle.fn_registry.specs.Registry.{number_named, kinds_numbered}
use Rattle.fn_registry.specs.ShippedSignatures.{shipped_signatures}
use Rattle.run_plan.specs.Prepared.{Predicates, predicates}

-- `divides`, `same_sign` and `near10`: their names, numbers and types, and what they mean
abbrev pub shipped_predicates : Predicates
shipped_predicates = predicates (number_named shipped_signatures) (kinds_numbered shipped_signatures) (gives_of 0)
