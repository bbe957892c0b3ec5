-- A cache of predicates' answers, the latest used first, and what each call does to it.
use Rattle.std.specs.Prelude.{ℕ, ◌+◌, ◌-◌, ◌^◌, Bool, true, false, min, List, [], ◌∷◌, take, Option, Some, None, is_some, if◌then◌else◌}
use Rattle.std.specs.Map.{lookup, remove_entry}
use Rattle.sq_value.specs.declared.value.Value.{Value}
use Rattle.sq_value.specs.declared.value.Truth.{Truth}
use Rattle.predicate_cache.specs.Calls.{known_by, is_key, given}
use Rattle.predicate_cache.specs.declared.call_key.CallKey.{CallKey}

-- a cache: the predicates that it asks, how many answers it may keep, those that it keeps, and how often it gave one
pub record Remembered (F : Type 0) : Type 0 where
  pub functions : F
  pub room : ℕ
  pub entries : List (CallKey × Truth)
  pub hits : ℕ

-- the cache of these predicates without any answer
abbrev pub unused : {F : Type 0} → F → ℕ → Remembered F
unused functions room = record { functions = functions; room = room; entries = []; hits = 0 }

-- after a call whose answer is kept: it goes first, and the hits, which stay at their last value, rise by one
abbrev pub after_hit : {F : Type 0} → (ℕ → Value → Value → Truth) → CallKey → Remembered F → Remembered F
after_hit gives key old = record old {
  entries = (key, given gives key) ∷ remove_entry (is_key key) old.entries;
  hits = min (old.hits + 1) (2 ^ 64 - 1);
}

-- after a call whose answer isn't kept: it goes first, and the last one goes where there is no room; or nothing changes
abbrev pub after_miss : {F : Type 0} → (ℕ → Value → Value → Truth) → Bool → CallKey → Remembered F → Remembered F
after_miss gives true key old = record old { entries = take old.room ((key, given gives key) ∷ old.entries) }
after_miss gives false key old = old

-- after a call that is known by a key or by nothing, where `keeps` says whether an answer that isn't kept is put there
abbrev pub after_key : {F : Type 0} → (ℕ → Value → Value → Truth) → Bool → Option CallKey → Remembered F → Remembered F
after_key gives keeps None old = old
after_key gives keeps (Some key) old =
    if is_some (lookup (is_key key) old.entries) then after_hit gives key old else after_miss gives keeps key old

-- after a call
abbrev pub after_call : {F : Type 0} → (ℕ → Value → Value → Truth) → Bool → ℕ → Value → Value → Remembered F
    → Remembered F
after_call gives keeps number x y old = after_key gives keeps (known_by number x y) old

-- a call, and whether its answer was put there, if it wasn't kept
pub record Call : Type 0 where
  pub number : ℕ
  pub x : Value
  pub y : Value
  pub keeps : Bool

-- after a list of calls
abbrev pub after_calls : {F : Type 0} → (ℕ → Value → Value → Truth) → List Call → Remembered F → Remembered F
after_calls gives [] old = old
after_calls gives (c ∷ calls) old = after_calls gives calls (after_call gives c.keeps c.number c.x c.y old)
