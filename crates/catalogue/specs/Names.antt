-- The bytes of texts.
use Rattle.std.specs.Prelude.{ℕ, List, String, map, string_bytes}

-- the bytes of each name
abbrev pub bytes_of : {A : Type 0} → List (String A) → List (List ℕ)
bytes_of names = map string_bytes names
