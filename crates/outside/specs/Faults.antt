-- A count of faults, which never falls and stays at the end of a u64.
use Rattle.std.specs.Prelude.{ℕ, ◌+◌, ◌-◌, ◌^◌, ◌<◌, ◌≤◌, min}
use Rattle.std.proofs.Common.{lit<}
use Rattle.std.proofs.Math.Nat.{min-le_right, lt_of_le_of_lt}

-- a number of faults as a count shows it, which stays at its end
abbrev pub shown : ℕ → ℕ
shown faults = min faults (2 ^ 64 - 1)

-- what is shown is a u64
pub shown-bounded : (faults : ℕ) → shown faults < 2 ^ 64
shown-bounded faults = lt_of_le_of_lt (min-le_right faults (2 ^ 64 - 1)) (lit< tt)

-- one more, where there is room for it
abbrev pub raised : ℕ → ℕ
raised count = min (count + 1) (2 ^ 64 - 1)

-- a count rose in a call, or stands at the end of its type
abbrev pub RoseOrFull : ℕ → ℕ → Type 0
RoseOrFull before now = raised before ≤ now

-- a count stayed or rose
abbrev pub NeverFalls : ℕ → ℕ → Type 0
NeverFalls before now = before ≤ now
