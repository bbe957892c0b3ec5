-- What is kept is of the calls that were used last.
use Rattle.std.proofs.Common.{◌≡◌, ℕ, zero, suc, Bool, true, false, cond, not, List, [], ◌∷◌, take, filter, Option, Some, None, refl, sym, ap, ◌∙◌, subst}
use Rattle.std.specs.Prelude.{is_some, ⊤, ◌||◌, All}
use Rattle.std.specs.List.{list_any}
use Rattle.std.specs.Map.{lookup, remove_entry, keys_of}
use Rattle.std.proofs.lemmas.Bool.{false≢true}
use Rattle.std.proofs.lemmas.List.Elements.{All-head, All-tail}
use Rattle.sq_value.specs.declared.value.Value.{Value}
use Rattle.sq_value.specs.declared.value.Truth.{Truth}
use Rattle.predicate_cache.specs.Calls.{given, is_key, known_by}
use Rattle.predicate_cache.specs.Cached.{Remembered, Call, after_key, after_call, after_calls, after_hit, after_miss}
use Rattle.predicate_cache.specs.Latest.{with_known, keys_called, last_uses}
use Rattle.predicate_cache.specs.declared.call_key.CallKey.{CallKey}
use Rattle.predicate_cache.proofs.KeyLemmas.{is_key-same}

-- a list without its first element that passes
abbrev remove_first : {K : Type 0} → (K → Bool) → List K → List K
remove_first test [] = []
remove_first test (x ∷ xs) = cond (test x) xs (x ∷ remove_first test xs)

abbrev others : {K : Type 0} → (K → Bool) → List K → List K
others test xs = filter (λ x. not (test x)) xs

-- at most one element passes
abbrev PassesOnce : {K : Type 0} → (K → Bool) → List K → Type 0
PassesOnce test [] = ⊤
PassesOnce test (x ∷ xs) = (test x ≡ true → others test xs ≡ xs) × PassesOnce test xs

module _ {K : Type 0} (test : K → Bool) where
  keys-remove : {X : Type 0} (es : List (K × X)) → keys_of (remove_entry test es) ≡ remove_first test (keys_of es)
  keys-remove [] = refl
  keys-remove (e ∷ es) = elim (test e.0) as (λ b. keys_of (cond b es (e ∷ remove_entry test es)) ≡ cond b (keys_of es) (e.0 ∷ remove_first test (keys_of es))) [
    | true ↦ refl
    | false ↦ ap (λ l. e.0 ∷ l) (keys-remove es)
  ]

  some-lookup : {X : Type 0} (es : List (K × X)) → is_some (lookup test es) ≡ list_any test (keys_of es)
  some-lookup [] = refl
  some-lookup (e ∷ es) = elim (test e.0) as (λ b. is_some (cond b (Some e.1) (lookup test es)) ≡ (b || list_any test (keys_of es))) [
    | true ↦ refl
    | false ↦ some-lookup es
  ]

  keys-take : {X : Type 0} (n : ℕ) (es : List (K × X)) → keys_of (take n es) ≡ take n (keys_of es)
  keys-take zero es = refl
  keys-take (suc n) [] = refl
  keys-take (suc n) (e ∷ es) = ap (λ l. e.0 ∷ l) (keys-take n es)

  -- the first of a list whose one passing element, which is among them, goes first
  take-hit : (m : ℕ) (xs : List K) → PassesOnce test xs → list_any test (take (suc m) xs) ≡ true
      → remove_first test (take (suc m) xs) ≡ take m (others test xs)
  take-hit m [] once some = absurd (false≢true some)
  take-hit m (x ∷ xs) once some = by (λ k s. take-hit k xs once.1 s) (test x) refl some
    where
      rest : ((k : ℕ) → list_any test (take (suc k) xs) ≡ true → remove_first test (take (suc k) xs) ≡ take k (others test xs))
          → (n : ℕ) → list_any test (take n xs) ≡ true → x ∷ remove_first test (take n xs) ≡ take n (x ∷ others test xs)
      rest again zero s = absurd (false≢true s)
      rest again (suc k) s = ap (λ l. x ∷ l) (again k s)

      by : ((k : ℕ) → list_any test (take (suc k) xs) ≡ true → remove_first test (take (suc k) xs) ≡ take k (others test xs))
          → (b : Bool) → test x ≡ b → (b || list_any test (take m xs)) ≡ true
          → cond b (take m xs) (x ∷ remove_first test (take m xs)) ≡ take m (cond (not b) (x ∷ others test xs) (others test xs))
      by again true e s = ap (take m) (sym (once.0 e))
      by again false e s = rest again m s

  -- and of one in which no such element passes
  take-miss : (m : ℕ) (xs : List K) → list_any test (take (suc m) xs) ≡ false → take m (take (suc m) xs) ≡ take m (others test xs)
  take-miss m [] none = refl
  take-miss m (x ∷ xs) none = by (λ k s. take-miss k xs s) (test x) refl none
    where
      rest : ((k : ℕ) → list_any test (take (suc k) xs) ≡ false → take k (take (suc k) xs) ≡ take k (others test xs))
          → (n : ℕ) → list_any test (take n xs) ≡ false → take n (x ∷ take n xs) ≡ take n (x ∷ others test xs)
      rest again zero s = refl
      rest again (suc k) s = ap (λ l. x ∷ l) (again k s)

      by : ((k : ℕ) → list_any test (take (suc k) xs) ≡ false → take k (take (suc k) xs) ≡ take k (others test xs))
          → (b : Bool) → test x ≡ b → (b || list_any test (take m xs)) ≡ false
          → take m (x ∷ take m xs) ≡ take m (cond (not b) (x ∷ others test xs) (others test xs))
      by again true e s = absurd (false≢true (sym s))
      by again false e s = rest again m s

  others-again : (xs : List K) → others test (others test xs) ≡ others test xs
  others-again [] = refl
  others-again (x ∷ xs) = by (others-again xs) (test x) refl
    where
      by : others test (others test xs) ≡ others test xs
          → (b : Bool) → test x ≡ b → others test (cond (not b) (x ∷ others test xs) (others test xs)) ≡ cond (not b) (x ∷ others test xs) (others test xs)
      by again true e = again
      by again false e = ap (λ c. cond (not c) (x ∷ others test (others test xs)) (others test (others test xs))) e ∙ ap (λ l. x ∷ l) again

  -- what is kept where a key goes first
  pub first-key : (n : ℕ) (xs : List K) (key : K) → PassesOnce test xs → (b : Bool) → list_any test (take n xs) ≡ b
      → cond b (key ∷ remove_first test (take n xs)) (take n (key ∷ take n xs)) ≡ take n (key ∷ others test xs)
  first-key zero xs key once true some = absurd (false≢true some)
  first-key zero xs key once false none = refl
  first-key (suc m) xs key once true some = ap (λ l. key ∷ l) (take-hit m xs once some)
  first-key (suc m) xs key once false none = ap (λ l. key ∷ l) (take-miss m xs none)

-- two such lists, one after the other
others-swap : {K : Type 0} (p q : K → Bool) (xs : List K) → others p (others q xs) ≡ others q (others p xs)
others-swap p q [] = refl
others-swap p q (x ∷ xs) = by (others-swap p q xs) (p x) refl (q x) refl
  where
    by : others p (others q xs) ≡ others q (others p xs) → (b : Bool) → p x ≡ b → (c : Bool) → q x ≡ c
        → others p (cond (not c) (x ∷ others q xs) (others q xs)) ≡ others q (cond (not b) (x ∷ others p xs) (others p xs))
    by again true e true f = again
    by again true e false f = ap (λ d. cond (not d) (x ∷ others p (others q xs)) (others p (others q xs))) e ∙ again
    by again false e true f = again ∙ ap (λ d. cond (not d) (x ∷ others q (others p xs)) (others q (others p xs))) (sym f)
    by again false e false f =
        ap (λ d. cond (not d) (x ∷ others p (others q xs)) (others p (others q xs))) e
        ∙ ap (λ l. x ∷ l) again
        ∙ ap (λ d. cond (not d) (x ∷ others q (others p xs)) (others q (others p xs))) (sym f)

once-others : {K : Type 0} (p q : K → Bool) (xs : List K) → PassesOnce p xs → PassesOnce p (others q xs)
once-others p q [] h = h
once-others p q (x ∷ xs) h = by (once-others p q xs h.1) (q x)
  where
    by : PassesOnce p (others q xs) → (c : Bool) → PassesOnce p (cond (not c) (x ∷ others q xs) (others q xs))
    by again true = again
    by again false = (λ e. others-swap p q xs ∙ ap (others q) (h.0 e), again)

once-last_uses : (key : CallKey) (keys : List CallKey) → PassesOnce (is_key key) (last_uses keys)
once-last_uses key [] = tt
once-last_uses key (k ∷ keys) = (
  λ e. let one = is_key-same key k e in
      ap (λ (z : CallKey). others (is_key z) (others (is_key k) (last_uses keys))) one ∙ others-again (is_key k) (last_uses keys),
  once-others (is_key key) (is_key k) (last_uses keys) (once-last_uses key keys),
)

module _ {F : Type 0} (gives : ℕ → Value → Value → Truth) (room : ℕ) where
  -- a cache keeps what was used last, so far
  abbrev IsLatest : Remembered F → List CallKey → Type 0
  IsLatest c earlier = (c.room ≡ room) × (keys_of c.entries ≡ take room (last_uses earlier))

  latest-key : (key : CallKey) (old : Remembered F) (earlier : List CallKey) → IsLatest old earlier
      → (b : Bool) → is_some (lookup (is_key key) old.entries) ≡ b
      → IsLatest (cond b (after_hit gives key old) (after_miss gives true key old)) (key ∷ earlier)
  latest-key key old earlier h b e = by b (first-key (is_key key) room (last_uses earlier) key (once-last_uses key earlier) b (ap (list_any (is_key key)) (sym h.1) ∙ sym (some-lookup (is_key key) old.entries) ∙ e))
    where
      by : (b : Bool) → cond b (key ∷ remove_first (is_key key) (take room (last_uses earlier))) (take room (key ∷ take room (last_uses earlier))) ≡ take room (last_uses (key ∷ earlier))
          → IsLatest (cond b (after_hit gives key old) (after_miss gives true key old)) (key ∷ earlier)
      by true s = (h.0, ap (λ l. key ∷ l) (keys-remove (is_key key) old.entries ∙ ap (remove_first (is_key key)) h.1) ∙ s)
      by false s = (
        h.0,
        keys-take (is_key key) old.room ((key, given gives key) ∷ old.entries)
            ∙ ap (λ n. take n (key ∷ keys_of old.entries)) h.0
            ∙ ap (λ l. take room (key ∷ l)) h.1 ∙ s,
      )

  latest-call : (key : Option CallKey) (old : Remembered F) (earlier : List CallKey) → IsLatest old earlier → IsLatest (after_key gives true key old) (with_known key earlier)
  latest-call None old earlier h = h
  latest-call (Some key) old earlier h = latest-key key old earlier h (is_some (lookup (is_key key) old.entries)) refl

  pub latest-calls : (calls : List Call) (old : Remembered F) (earlier : List CallKey) → All (λ (c : Call). c.keeps ≡ true) calls → IsLatest old earlier
      → IsLatest (after_calls gives calls old) (keys_called calls earlier)
  latest-calls [] old earlier all h = h
  latest-calls (c ∷ calls) old earlier all h =
      let keeps : c.keeps ≡ true = All-head (λ (d : Call). d.keeps ≡ true) c calls all in
      latest-calls calls (after_call gives c.keeps c.number c.x c.y old) (with_known (known_by c.number c.x c.y) earlier)
      (All-tail (λ (d : Call). d.keeps ≡ true) c calls all)
      (subst (λ b. IsLatest (after_call gives b c.number c.x c.y old) (with_known (known_by c.number c.x c.y) earlier)) (sym keeps)
      (latest-call (known_by c.number c.x c.y) old earlier h))
