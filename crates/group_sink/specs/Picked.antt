-- Serves proofs: the elements of a group, where each element's group is its number.
use Rattle.std.specs.Prelude.{◌≡◌, ℕ, ◌+◌, ◌<◌, ◌==◌, List, [], ◌∷◌, length, map, All, if◌then◌else◌}
use Rattle.std.specs.List.{range_with_len}

-- the elements whose number is the named one
abbrev pub picked : {X : Type 0} → ℕ → List ℕ → List X → List X
picked group [] xs = []
picked group (n ∷ numbers) [] = []
picked group (n ∷ numbers) (x ∷ xs) = if n == group then x ∷ picked group numbers xs else picked group numbers xs

-- so many groups, and the number of each member's
pub record AreGroups {X : Type 0} (numbers : List ℕ) (count : ℕ) (members : List X) (groups : List (List X))
    : Type 0 where
  pub long : length numbers ≡ length members
  pub within : All (λ (n : ℕ). n < count) numbers
  pub are : groups ≡ map (λ j. picked j numbers members) (range_with_len 0 count)

-- the elements at which a number is met for the first time, where numbers begin with the named one and rise by one
abbrev pub met_first : {X : Type 0} → ℕ → List ℕ → List X → List X
met_first next [] xs = []
met_first next (n ∷ numbers) [] = []
met_first next (n ∷ numbers) (x ∷ xs) =
    if n == next then x ∷ met_first (1 + next) numbers xs else met_first next numbers xs

-- how many numbers there are then
abbrev pub kinds_from : ℕ → List ℕ → ℕ
kinds_from next [] = next
kinds_from next (n ∷ numbers) = if n == next then kinds_from (1 + next) numbers else kinds_from next numbers
