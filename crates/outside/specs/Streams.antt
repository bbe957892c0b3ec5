-- What calls do to the bytes that a stream has left and to those that it holds, where the stream tells them.
use Rattle.std.specs.Prelude.{◌≡◌, ℕ, ◌≤◌, List, ◌++◌, length, take, Option, IfSome}
use Rattle.std.specs.Io.KnownBytes.{Appends, Consumes}

-- what was read are the first bytes that the stream had left, at most so many of them
abbrev pub IsPrefixWithin : Option (List ℕ) → ℕ → List ℕ → Type 0
IsPrefixWithin left limit bytes = IfSome left (λ all. bytes ≡ take limit all)

-- the stream lost a prefix of what it had left, of at most so many bytes
abbrev pub LosesAtMost : ℕ → Option (List ℕ) → Option (List ℕ) → Type 0
LosesAtMost limit before now = (prefix : List ℕ) × Consumes before now prefix × (length prefix ≤ limit)

-- the stream took a prefix of a piece behind what it held
abbrev pub TakesPrefix : List ℕ → Option (List ℕ) → Option (List ℕ) → Type 0
TakesPrefix piece before now =
    (prefix : List ℕ) × (rest : List ℕ) × (piece ≡ prefix ++ rest) × Appends before now prefix
