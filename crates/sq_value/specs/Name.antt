-- When two names are the same: SQL's identifiers, told apart but for the case of ASCII letters.
use Rattle.std.specs.Prelude.{◌≡◌, ℕ, Bool, List, map, nat_eq}
use Rattle.std.specs.Char.{to_ascii_lowercase}
use Rattle.std.specs.Cmp.Lexicographic.{pointwise}

-- the name with its ASCII letters in lower case
abbrev pub lower : List ℕ → List ℕ
lower name = map to_ascii_lowercase name

-- two names are equal but for the case of ASCII letters
abbrev pub IsSameName : List ℕ → List ℕ → Type 0
IsSameName x y = lower x ≡ lower y

-- the test for it
abbrev pub is_same_name : List ℕ → List ℕ → Bool
is_same_name x y = pointwise nat_eq (lower x) (lower y)
