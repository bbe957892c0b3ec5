-- A cache before and after a call, by what `lru` says of its entries.
use Rattle.std.proofs.Common.{◌≡◌, ℕ, ◌+◌, ◌-◌, ◌^◌, min, Bool, true, false, cond, List, ◌∷◌, take, Option, Some, None, sym, ap, ◌∙◌, subst, ◌⊎◌, inl, inr}
use Rattle.std.specs.Prelude.{is_some}
use Rattle.std.specs.Option.{option_map_or}
use Rattle.std.specs.Map.{lookup, remove_entry}
use Rattle.lru.specs.LruCache.{promoted}
use Rattle.sq_value.specs.declared.value.Value.{Value}
use Rattle.sq_value.specs.declared.value.Truth.{Truth}
use Rattle.predicate_cache.specs.Calls.{given, is_key, known_by}
use Rattle.predicate_cache.specs.Cached.{Remembered, after_key, after_call, after_hit, after_miss}
use Rattle.predicate_cache.specs.Kept.{AreGiven}
use Rattle.predicate_cache.specs.declared.call_key.CallKey.{CallKey}
use Rattle.predicate_cache.proofs.EntryLemmas.{entry-lookup, entry-none, AreGiven-first, AreGiven-remove_entry, AreGiven-take}

abbrev Entries : Type 0
Entries = List (CallKey × Truth)

-- a cache that keeps these answers
abbrev pub seen : {F : Type 0} → F → ℕ → Entries → ℕ → Remembered F
seen functions room entries hits = record { functions = functions; room = room; entries = entries; hits = hits }

-- what putting an answer leaves of the kept ones
abbrev pub IsPut : CallKey → Truth → ℕ → Entries → Entries → Type 0
IsPut key truth room old new = (new ≡ old) ⊎ (new ≡ take room ((key, truth) ∷ old))

module _ (gives : ℕ → Value → Value → Truth) (key : CallKey) where
  -- a found answer goes first
  pub promoted-found : (es : Entries) (t : Truth) → AreGiven gives es → lookup (is_key key) es ≡ Some t
      → promoted (is_key key) es ≡ (key, given gives key) ∷ remove_entry (is_key key) es
  promoted-found es t h found =
      ap (λ (o : Option (CallKey × Truth)). option_map_or (λ e. e ∷ remove_entry (is_key key) es) o es) (entry-lookup gives key es t h found)

  -- where there is none, all stays
  pub promoted-none : (es : Entries) → lookup (is_key key) es ≡ None → promoted (is_key key) es ≡ es
  promoted-none es none =
      ap (λ (o : Option (CallKey × Truth)). option_map_or (λ e. e ∷ remove_entry (is_key key) es) o es) (entry-none gives key es none)

  pub AreGiven-promoted : (es new : Entries) (t : Truth) → AreGiven gives es → lookup (is_key key) es ≡ Some t
      → new ≡ promoted (is_key key) es → AreGiven gives new
  AreGiven-promoted es new t h found first =
      subst (AreGiven gives) (sym (first ∙ promoted-found es t h found))
      (AreGiven-first gives key (remove_entry (is_key key) es) (AreGiven-remove_entry gives key es h))

  module _ {F : Type 0} (functions : F) (number : ℕ) (x y : Value) (is : known_by number x y ≡ Some key) where
    after_found : (old : Remembered F) (t : Truth) → lookup (is_key key) old.entries ≡ Some t
        → after_call gives true number x y old ≡ after_hit gives key old
    after_found old t found =
        ap (λ k. after_key gives true k old) is
        ∙ ap (λ (o : Option Truth). cond (is_some o) (after_hit gives key old) (after_miss gives true key old)) found

    after_none : (keeps : Bool) (old : Remembered F) → lookup (is_key key) old.entries ≡ None
        → after_call gives keeps number x y old ≡ after_miss gives keeps key old
    after_none keeps old none =
        ap (λ k. after_key gives keeps k old) is
        ∙ ap (λ (o : Option Truth). cond (is_some o) (after_hit gives key old) (after_miss gives keeps key old)) none

    -- the cache after a call whose answer was found
    pub seen-found : (es new : Entries) (room room' hits hits' : ℕ) (t : Truth)
        → AreGiven gives es → lookup (is_key key) es ≡ Some t
        → new ≡ promoted (is_key key) es → room' ≡ room → hits' ≡ min (hits + 1) (2 ^ 64 - 1)
        → seen functions room' new hits' ≡ after_call gives true number x y (seen functions room es hits)
    seen-found es new room room' hits hits' t h found first same more =
        ap (λ (n : ℕ). seen functions n new hits') same
        ∙ ap (λ (l : Entries). seen functions room l hits') (first ∙ promoted-found es t h found)
        ∙ ap (λ (n : ℕ). seen functions room ((key, given gives key) ∷ remove_entry (is_key key) es) n) more
        ∙ sym (after_found (seen functions room es hits) t found)

    -- whether an answer was kept
    pub seen-kept : (es new : Entries) (room room' hits : ℕ) (t : Truth)
        → lookup (is_key key) es ≡ None → t ≡ given gives key → IsPut key t room es new → room' ≡ room
        → (keeps : Bool) × (seen functions room' new hits ≡ after_call gives keeps number x y (seen functions room es hits))
    seen-kept es new room room' hits t none is_given (inl stays) same = (
      false,
      ap (λ (n : ℕ). seen functions n new hits) same
          ∙ ap (λ (l : Entries). seen functions room l hits) stays
          ∙ sym (after_none false (seen functions room es hits) none),
    )
    seen-kept es new room room' hits t none is_given (inr first) same = (
      true,
      ap (λ (n : ℕ). seen functions n new hits) same
          ∙ ap (λ (l : Entries). seen functions room l hits) first
          ∙ ap (λ (u : Truth). seen functions room (take room ((key, u) ∷ es)) hits) is_given
          ∙ sym (after_none true (seen functions room es hits) none),
    )

  -- the answers after it are what the predicates give
  pub AreGiven-kept : (es new : Entries) (room : ℕ) (t : Truth)
      → AreGiven gives es → t ≡ given gives key → IsPut key t room es new → AreGiven gives new
  AreGiven-kept es new room t h is_given (inl stays) = subst (AreGiven gives) (sym stays) h
  AreGiven-kept es new room t h is_given (inr first) =
      subst (AreGiven gives) (sym first)
      (subst (λ (u : Truth). AreGiven gives (take room ((key, u) ∷ es))) (sym is_given)
      (AreGiven-take gives key room ((key, given gives key) ∷ es) (AreGiven-first gives key es h)))
