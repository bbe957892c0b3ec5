-- The lines of counts of statements of any kind, by what makes a line right for a statement with its number.
use Rattle.std.specs.Prelude.{◌≡◌, ℕ, ◌+◌, Bool, true, false, List, [], ◌∷◌, ◌++◌}

-- a line is right where lines are asked for, and else there is none
abbrev pub IsLine : {A : Type 0} → Bool → (ℕ → A → List ℕ → Type 0) → ℕ → A → List ℕ → Type 0
IsLine true IsRight number item line = IsRight number item line
IsLine false IsRight number item line = line ≡ []

-- the lines of items in order, one behind another, the first of them of the statement with this number
unfoldable pub AreLines : {A : Type 0} → Bool → (ℕ → A → List ℕ → Type 0) → ℕ → List A → List ℕ → Type 0
AreLines tally IsRight number [] lines = lines ≡ []
AreLines tally IsRight number (item ∷ more) lines =
    (line : List ℕ) × (rest : List ℕ) × IsLine tally IsRight number item line
    × AreLines tally IsRight (number + 1) more rest × (lines ≡ line ++ rest)
