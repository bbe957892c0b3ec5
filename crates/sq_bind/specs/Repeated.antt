-- Serves proofs: a set of names in lower case that stands for the aliases of some sources.
use Rattle.std.specs.Prelude.{◌≡◌, ℕ, List, String}
use Rattle.std.specs.List.{list_any}
use Rattle.std.specs.BTreeSet.{BTreeSet, contains_text}
use Rattle.sq_value.specs.Name.{lower, is_same_name}
use Rattle.sq_parse.specs.declared.tree.Source.{Source}

-- a name is among them exactly where it is an alias
abbrev pub HoldsNames : {A : Type 0} → BTreeSet (String A) → List Source → Type 0
HoldsNames names front =
    (name : List ℕ) → contains_text names (lower name) ≡ list_any (λ (s : Source). is_same_name s.alias.text name) front
