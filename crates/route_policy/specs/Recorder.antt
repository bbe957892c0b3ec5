-- A policy that keeps the calls that are made of another one.
use Rattle.std.specs.Prelude.{ℕ, nat_lt, Bool, true, false, List, [], ◌∷◌, ◌++◌, length, Option, None, Some, if◌then◌else◌}
use Rattle.route_policy.specs.declared.call.PolicyCall.{PolicyCall}

-- a recorder: what it holds, the calls that it kept, how many it keeps at most, and whether it kept all so far
pub record Recording (P : Type 0) : Type 0 where
  pub inner : P
  pub kept : List PolicyCall
  pub room : ℕ
  pub whole : Bool

module _ {P : Type 0} where
  -- a recorder of no call yet
  abbrev pub fresh_recording : P → ℕ → Recording P
  fresh_recording inner room = record { inner = inner; kept = []; room = room; whole = true }

  -- whether a recorder has room for a call more
  abbrev pub has_room : Recording P → Bool
  has_room r = nat_lt (length r.kept) r.room

  -- the recorder after a call: what it holds is now this, and the call is kept where there is room
  abbrev pub recorded : Recording P → P → PolicyCall → Recording P
  recorded r inner call =
      if has_room r then record r { inner = inner; kept = r.kept ++ (call ∷ []) }
      else record r { inner = inner; whole = false }

  -- the calls, while all are kept
  abbrev pub told_calls : Recording P → Option (List PolicyCall)
  told_calls r = if r.whole then Some r.kept else None
