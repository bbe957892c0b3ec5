-- Serves tests: lists as text.
use Rattle.std.specs.Prelude.{ℕ, List, length, ◌++◌, ◌==◌, if◌then◌else◌}

-- a text with one part more behind it, and what stands between two parts
abbrev pub listed : List ℕ → List ℕ → List ℕ → List ℕ
listed between text part = if length text == 0 then part else text ++ between ++ part
