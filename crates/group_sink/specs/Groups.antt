-- The groups of members: those with equal keys are one group, as SQL-92's grouped tables have them, where a null
-- equals a null.
use Rattle.std.specs.Prelude.{Bool, true, false, not, List, [], ◌∷◌, map, filter}
use Rattle.std.specs.List.{list_all}
use Rattle.sq_value.specs.Rank.{rank_of}
use Rattle.sq_value.specs.declared.value.Value.{Value}
use Rattle.sq_expr.specs.declared.cond.ColumnOf.{ColumnOf}
use Rattle.group_sink.specs.Cells.{is_same_rank}

-- the elements that are the first of their kind
abbrev pub firsts : {X : Type 0} → (X → X → Bool) → List X → List X
firsts same [] = []
firsts same (x ∷ xs) = x ∷ filter (λ y. not (same x y)) (firsts same xs)

-- the elements of each kind, in the order of the firsts
abbrev pub kinds : {X : Type 0} → (X → X → Bool) → List X → List (List X)
kinds same xs = map (λ first. filter (same first) xs) (firsts same xs)

-- whether two members have equal keys, where `at` is the value of a column over a member
abbrev pub has_same_keys : {X : Type 0} → (ColumnOf → X → Value) → List ColumnOf → X → X → Bool
has_same_keys at keys x y = list_all (λ c. is_same_rank (rank_of (at c x)) (rank_of (at c y))) keys

-- the groups of a grouped statement: those with equal keys, or without keys all members, even none
abbrev pub groups_by : {X : Type 0} → (ColumnOf → X → Value) → List ColumnOf → List X → List (List X)
groups_by at [] members = members ∷ []
groups_by at (c ∷ keys) members = kinds (has_same_keys at (c ∷ keys)) members

-- the groups of a shaped statement: where it isn't grouped, each member alone
abbrev pub groups_of : {X : Type 0} → Bool → (ColumnOf → X → Value) → List ColumnOf → List X → List (List X)
groups_of true at keys members = groups_by at keys members
groups_of false at keys members = map (λ member. member ∷ []) members
