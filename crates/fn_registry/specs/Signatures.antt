-- What is known of a list of registered predicates.
use Rattle.std.specs.Prelude.{List, map}
use Rattle.fn_registry.specs.declared.functions.Functions.{Functions}
use Rattle.fn_registry.specs.declared.registered.Registered.{Registered}
use Rattle.fn_registry.specs.declared.signature.Signature.{Signature}

-- their names, numbers and types, in order (what is in braces belongs to the closures' type)
abbrev pub signatures : {M : _} {X : _} {F : _} {g : _} → Functions M X F g → List Signature
signatures functions = map (λ r. r.signature) functions.items.items

-- the predicates themselves, closures included
abbrev pub stored : {M : _} {X : _} {F : _} {g : _} → Functions M X F g → List (Registered M X F g)
stored functions = functions.items.items
