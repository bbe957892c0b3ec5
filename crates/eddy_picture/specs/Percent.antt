-- How many of a hundred a part is of a whole.
use Rattle.std.specs.Prelude.{ℕ, ◌*◌, ◌/◌, ◌-◌, ◌^◌, ◌<◌, ◌==◌, min, if◌then◌else◌}

-- a lane's number
abbrev pub IsLane : ℕ → Type 0
IsLane lane = lane < 2376

-- rounded down, 0 where there is no whole, and at most what 64 bits hold
abbrev pub percent : ℕ → ℕ → ℕ
percent part whole = if whole == 0 then 0 else min (part * 100 / whole) (2 ^ 64 - 1)

-- a part's number
abbrev pub IsPart : ℕ → Type 0
IsPart part = part < 10
