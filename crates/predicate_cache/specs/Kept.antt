-- What holds of each cache.
use Rattle.std.specs.Prelude.{◌≡◌, ℕ, ◌≤◌, List, length, All}
use Rattle.std.specs.List.{IsDistinct}
use Rattle.std.specs.Map.{keys_of}
use Rattle.sq_value.specs.declared.value.Value.{Value}
use Rattle.sq_value.specs.declared.value.Truth.{Truth}
use Rattle.predicate_cache.specs.Calls.{is_key, given}
use Rattle.predicate_cache.specs.Cached.{Remembered}
use Rattle.predicate_cache.specs.declared.call_key.CallKey.{CallKey}

-- each kept answer is what the predicates give
abbrev pub AreGiven : (ℕ → Value → Value → Truth) → List (CallKey × Truth) → Type 0
AreGiven gives entries = All (λ (e : CallKey × Truth). e.1 ≡ given gives e.0) entries

-- these answers are of different calls, and not more than there is room for
pub record AreKept (room : ℕ) (entries : List (CallKey × Truth)) : Type 0 where
  pub differ : IsDistinct is_key (keys_of entries)
  pub few : length entries ≤ room

-- the kept answers are what the predicates give, of different calls, and not more than there is room for
pub record IsCache {F : Type 0} (gives : ℕ → Value → Value → Truth) (c : Remembered F) : Type 0 where
  pub given : AreGiven gives c.entries
  pub kept : AreKept c.room c.entries
