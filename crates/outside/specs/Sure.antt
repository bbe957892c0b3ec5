-- A sink that takes every piece and keeps as much as it has room for.
use Rattle.std.specs.Prelude.{ℕ, ◌-◌, List, [], ◌++◌, length, take, Bool, true, ◌&&◌, nat_le, Option, None, Some, if◌then◌else◌}

-- the first bytes that were put, the room that is left, and whether all has fitted so far
pub record SureState : Type 0 where
  pub kept : List ℕ
  pub room : ℕ
  pub fitted : Bool

-- a sink with this room that has taken nothing
abbrev pub empty_sink : ℕ → SureState
empty_sink room = record { kept = []; room = room; fitted = true }

-- the sink after a piece: it keeps the first bytes that fit
abbrev pub after_piece : SureState → List ℕ → SureState
after_piece s piece =
    record {
      kept = s.kept ++ take s.room piece;
      room = s.room - length piece;
      fitted = s.fitted && nat_le (length piece) s.room;
    }

-- what is kept is what was written, while all has fitted
abbrev pub told : SureState → Option (List ℕ)
told s = if s.fitted then Some s.kept else None
