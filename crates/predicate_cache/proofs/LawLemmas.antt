-- A cache after a list of calls.
use Rattle.std.proofs.Common.{◌≡◌, ℕ, suc, ◌+◌, ◌≤◌, Bool, true, false, cond, List, [], ◌∷◌, length, Option, Some, None, refl, subst, arith, length-take}
use Rattle.std.specs.Prelude.{is_some}
use Rattle.std.specs.Map.{lookup, remove_entry}
use Rattle.sq_value.specs.declared.value.Value.{Value}
use Rattle.sq_value.specs.declared.value.Truth.{Truth}
use Rattle.predicate_cache.specs.Calls.{given, is_key, known_by}
use Rattle.predicate_cache.specs.Cached.{Remembered, Call, after_key, after_call, after_calls, after_hit, after_miss}
use Rattle.predicate_cache.specs.Kept.{AreGiven}
use Rattle.predicate_cache.specs.declared.call_key.CallKey.{CallKey}
use Rattle.predicate_cache.proofs.EntryLemmas.{AreGiven-first, AreGiven-remove_entry, AreGiven-take}

-- without a found entry a list is shorter by one
length-remove_entry : {K X : Type 0} (test : K → Bool) (es : List (K × X)) → is_some (lookup test es) ≡ true
    → length (remove_entry test es) + 1 ≡ length es
length-remove_entry test [] h = cc
length-remove_entry {K} {X} test (e ∷ es) h = (elim (test e.0) as (λ b. is_some (cond b (Some e.1) (lookup test es)) ≡ true → length (cond b es (e ∷ remove_entry test es)) + 1 ≡ suc (length es)) [
  | true ↦ λ h. omega arith
  | false ↦ λ h. let rest = length-remove_entry test es h in omega (arith, rest)
]) h

module _ {F : Type 0} (gives : ℕ → Value → Value → Truth) where
  -- what a cache keeps at each call
  pub record IsSound (room : ℕ) (calls : ℕ) (c : Remembered F) : Type 0 where
    pub room_is : c.room ≡ room
    pub given : AreGiven gives c.entries
    pub few : length c.entries ≤ room
    pub hits : c.hits ≤ calls

  by_key : (room calls : ℕ) (keeps : Bool) (key : CallKey) (old : Remembered F) → IsSound room calls old
      → (b : Bool) → is_some (lookup (is_key key) old.entries) ≡ b
      → IsSound room (calls + 1) (cond b (after_hit gives key old) (after_miss gives keeps key old))
  by_key room calls keeps key old h true e =
      let less = length-remove_entry (is_key key) old.entries e in
      let few = h.few in let hits = h.hits in
      record {
        room_is = h.room_is;
        given = AreGiven-first gives key (remove_entry (is_key key) old.entries) (AreGiven-remove_entry gives key old.entries h.given);
        few = omega (arith, less, few);
        hits = omega (arith, hits);
      }
  by_key room calls true key old h false e =
      let hits = h.hits in let same = h.room_is in
      let more : List (CallKey × Truth) = (key, given gives key) ∷ old.entries in
      record {
        room_is = h.room_is;
        given = AreGiven-take gives key old.room more (AreGiven-first gives key old.entries h.given);
        few = omega (arith, same, length-take old.room more);
        hits = omega (arith, hits);
      }
  by_key room calls false key old h false e =
      let hits = h.hits in
      record { room_is = h.room_is; given = h.given; few = h.few; hits = omega (arith, hits) }

  by_call : (room calls : ℕ) (keeps : Bool) (key : Option CallKey) (old : Remembered F) → IsSound room calls old
      → IsSound room (calls + 1) (after_key gives keeps key old)
  by_call room calls keeps None old h =
      let hits = h.hits in
      record { room_is = h.room_is; given = h.given; few = h.few; hits = omega (arith, hits) }
  by_call room calls keeps (Some key) old h = by_key room calls keeps key old h (is_some (lookup (is_key key) old.entries)) refl

  pub IsSound-after_calls : (room calls : ℕ) (list : List Call) (old : Remembered F) → IsSound room calls old
      → IsSound room (calls + length list) (after_calls gives list old)
  IsSound-after_calls room calls [] old h =
      let hits = h.hits in
      record { room_is = h.room_is; given = h.given; few = h.few; hits = omega (arith, hits) }
  IsSound-after_calls room calls (c ∷ list) old h =
      let same : (calls + 1) + length list ≡ calls + suc (length list) = omega arith in
      subst (λ (n : ℕ). IsSound room n (after_calls gives (c ∷ list) old)) same
      (IsSound-after_calls room (calls + 1) list (after_call gives c.keeps c.number c.x c.y old) (by_call room calls c.keeps (known_by c.number c.x c.y) old h))
