-- The keys by which an index knows values.
use Rattle.std.specs.Prelude.{◌≡◌, ◌*◌, ◌^◌, ◌≤◌, Some, unsigned_abs, ⊤}
use Rattle.sq_value.specs.Rank.{Rank, Number, Text, rank_of}
use Rattle.sq_value.specs.declared.value.Value.{Value}
use Rattle.sq_value.specs.declared.key.Key.{Key}
use Rattle.sq_value.specs.declared.key.Key.TheVariants as key

-- the rank that a key holds
abbrev pub rank_of_key : Key → Rank
rank_of_key (key.Number n) = Number n
rank_of_key (key.Text t) = Text t.now

-- a key is a value's
abbrev pub IsKeyOf : Value → Key → Type 0
IsKeyOf v key = rank_of v ≡ Some (rank_of_key key)

-- a number of millionths is one of 64 bits, at most a million times
abbrev pub IsBounded : Key → Type 0
IsBounded (key.Number n) = unsigned_abs n ≤ 2 ^ 63 * 1000000
IsBounded (key.Text t) = ⊤
