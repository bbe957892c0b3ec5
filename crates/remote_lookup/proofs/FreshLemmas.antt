-- Which keys are fresh, and how many.
use Rattle.std.proofs.Common.{◌≡◌, ◌⊎◌, inl, inr, ℕ, zero, suc, ◌+◌, ◌<◌, ◌≤◌, Bool, true, false, cond, List, [], ◌∷◌, take, drop, length, map, Option, Some, None, refl, ap, sym, ◌∙◌, subst, arith}
use Rattle.std.specs.Prelude.{◌&&◌, ◌||◌, ◌==◌, ℤ, not, nat_lt, filter, All, Contains, slice_get}
use Rattle.std.specs.List.{find, range_with_len}
use Rattle.std.specs.Option.{option_map_or}
use Rattle.std.specs.Ordering.{int_eq, is_eq, ordering_reverse}
use Rattle.std.specs.declared.cmp.Ordering.TheVariants.{Less}
use Rattle.std.proofs.lemmas.Bool.{cases_lt, false≢true, false_from_ne_true, eq-eqb, lt-ltb, ltb-true}
use Rattle.std.proofs.lemmas.List.{length-map, take-append-drop}
use Rattle.std.proofs.lemmas.List.Elements.{All-nil, All-cons, All-contains, filter_passes}
use Rattle.std.proofs.lemmas.List.Kept.{AllPairs-filter}
use Rattle.bag_meaning.proofs.PairLemmas.{AllPairs-head, AllPairs-tail, same_rising_lists}
use Rattle.bag_meaning.proofs.SpanLemmas.{both}
use Rattle.eddy_meaning.proofs.MatchLemmas.{All-at, Contains-here, Contains-there, Contains-nil, Contains-cons_cases, Contains-filter}
use Rattle.remote_lookup.specs.Asked.{AreFresh}
use Rattle.remote_lookup.specs.Filled.{keys_at}
use Rattle.remote_lookup.specs.Rounds.{key_order, AreOrdered, crowded, lists_key}
use Rattle.remote_lookup.specs.Working.{crowded_with, keys_at_remote}
use Rattle.remote_lookup.specs.declared.remote.RemoteKey.{RemoteKey}
use Rattle.remote_lookup.specs.declared.rounds.Tally.{Tally}
use Rattle.remote_lookup.proofs.GrowthLemmas.{take_next}
use Rattle.remote_lookup.proofs.JoinLemmas.{count_append}
use Rattle.remote_lookup.proofs.RoundLemmas.{key_order_total, never_both, held_is_in, is_in_held}
use Rattle.remote_lookup.proofs.SetLemmas.{ties}

abbrev Rises : RemoteKey → RemoteKey → Type 0
Rises a b = key_order a b ≡ Less

-- two sets of the same keys are one list
pub same_sets : (a b : List RemoteKey) → AreOrdered a → AreOrdered b → ((remote : ℕ) (key : ℤ) → lists_key a remote key ≡ lists_key b remote key) → a ≡ b
same_sets a b up rise same =
    same_rising_lists Rises never_both a b up rise
    (λ z in'. is_in_held b z (sym (same z.remote z.key) ∙ held_is_in a z in'))
    (λ z in'. is_in_held a z (same z.remote z.key ∙ held_is_in b z in'))

filtered : (p : RemoteKey → Bool) (xs : List RemoteKey) (z : RemoteKey) → Contains (filter p xs) z → Contains xs z
filtered p [] z h = absurd (Contains-nil z h)
filtered p (x ∷ xs) z h = by (p x) h (filtered p xs z)
  where
    step : (x ≡ z) ⊎ Contains (filter p xs) z → (Contains (filter p xs) z → Contains xs z) → Contains (x ∷ xs) z
    step (inl e) again = subst (Contains (x ∷ xs)) e (Contains-here x xs)
    step (inr d) again = Contains-there z x xs (again d)

    by : (b : Bool) → Contains (cond b (x ∷ filter p xs) (filter p xs)) z → (Contains (filter p xs) z → Contains xs z) → Contains (x ∷ xs) z
    by true d again = step (Contains-cons_cases z x (filter p xs) d) again
    by false d again = Contains-there z x xs (again d)

-- what holds of each key that a list has holds of all its elements
pub all_held : (P : RemoteKey → Type 0) (xs : List RemoteKey) → ((z : RemoteKey) → lists_key xs z.remote z.key ≡ true → P z) → All P xs
all_held P [] f = All-nil P
all_held P (x ∷ xs) f = All-cons P x xs (f x (held_is_in (x ∷ xs) x (Contains-here x xs))) (all_held P xs (λ z h. f z (last ((x.remote == z.remote) && int_eq x.key z.key) h)))
  where
    last : (b : Bool) {c : Bool} → c ≡ true → (b || c) ≡ true
    last true e = refl
    last false e = e

no_longer : (b : Bool) → not b ≡ true → b ≡ false
no_longer true e = absurd (false≢true e)
no_longer false e = refl

rejoined : (a b : Bool) → (b ≡ true → a ≡ true) → a ≡ (b || (a && not b))
rejoined true true h = refl
rejoined true false h = refl
rejoined false true h = absurd (false≢true (h refl))
rejoined false false h = refl

parted : (a b : Bool) → (b ≡ true → a ≡ true) → (a && not b) ≡ false → a ≡ b
parted true true h e = refl
parted true false h e = absurd (false≢true (sym e))
parted false true h e = h refl
parted false false h e = refl

module _ (known all fresh : List RemoteKey) (are : AreFresh known all fresh) where
  -- a fresh key is asked for, and isn't known
  pub fresh_new : (z : RemoteKey) → lists_key fresh z.remote z.key ≡ true → lists_key known z.remote z.key ≡ false
  fresh_new z h = no_longer (lists_key known z.remote z.key) (both (lists_key all z.remote z.key) (not (lists_key known z.remote z.key)) (sym (are.each z.remote z.key) ∙ h)).1

  pub fresh_asked : (z : RemoteKey) → lists_key fresh z.remote z.key ≡ true → lists_key all z.remote z.key ≡ true
  fresh_asked z h = (both (lists_key all z.remote z.key) (not (lists_key known z.remote z.key)) (sym (are.each z.remote z.key) ∙ h)).0

  -- all that is asked for is known or fresh
  pub all_have : (remote : ℕ) (key : ℤ) → lists_key all remote key ≡ (lists_key known remote key || lists_key fresh remote key)
  all_have remote key =
      rejoined (lists_key all remote key) (lists_key known remote key) (are.within remote key)
      ∙ ap (λ (b : Bool). lists_key known remote key || b) (sym (are.each remote key))

  -- where none is fresh, all are known
  pub none_fresh : AreOrdered known → AreOrdered all → fresh ≡ [] → all ≡ known
  none_fresh up rise none =
      same_sets all known rise up
      (λ remote key. parted (lists_key all remote key) (lists_key known remote key) (are.within remote key) (sym (are.each remote key) ∙ ap (λ (l : List RemoteKey). lists_key l remote key) none))

  -- the fresh ones are those of all that aren't known
  pub news : AreOrdered all → AreOrdered fresh → fresh ≡ filter (λ (k : RemoteKey). not (lists_key known k.remote k.key)) all
  news rise order = same_rising_lists Rises never_both fresh (filter new all) order (AllPairs-filter Rises new all rise) to from
    where
      new : RemoteKey → Bool
      new k = not (lists_key known k.remote k.key)

      to : (z : RemoteKey) → Contains fresh z → Contains (filter new all) z
      to z in' =
          let parts = both (lists_key all z.remote z.key) (not (lists_key known z.remote z.key)) (sym (are.each z.remote z.key) ∙ held_is_in fresh z in') in
          Contains-filter new all z parts.1 (is_in_held all z parts.0)

      joined : (a b : Bool) → a ≡ true → b ≡ true → (a && b) ≡ true
      joined a b e f = ap (λ (c : Bool). c && b) e ∙ f

      from : (z : RemoteKey) → Contains (filter new all) z → Contains fresh z
      from z in' =
          let passes : new z ≡ true = All-contains (λ (k : RemoteKey). new k ≡ true) (filter new all) z (filter_passes new all) in' in
          is_in_held fresh z (are.each z.remote z.key ∙ joined (lists_key all z.remote z.key) (not (lists_key known z.remote z.key)) (held_is_in all z (filtered new all z in')) passes)

-- a key of an ordered list isn't among those before it
turned : (a b : RemoteKey) → key_order a b ≡ Less → is_eq (key_order b a) ≡ false
turned a b less = ap is_eq (key_order_total.antisymm b a ∙ ap ordering_reverse less)

pub not_before : (keys : List RemoteKey) (i : ℕ) (k : RemoteKey) → AreOrdered keys → slice_get keys i ≡ Some k → lists_key (take i keys) k.remote k.key ≡ false
not_before [] i k h at = absurd cc
not_before (x ∷ xs) zero k h at = refl
not_before (x ∷ xs) (suc i) k h at =
    let less : key_order x k ≡ Less = All-at (λ (j : RemoteKey). key_order x j ≡ Less) xs i k (AllPairs-head Rises x xs h) at in
    let apart : ((x.remote == k.remote) && int_eq x.key k.key) ≡ false = sym (ties k x) ∙ turned x k less in
    ap (λ (b : Bool). b || lists_key (take i xs) k.remote k.key) apart ∙ not_before xs i k (AllPairs-tail Rises x xs h) at

-- and it is one more of its remote
pub count_before : (keys : List RemoteKey) (i : ℕ) (k : RemoteKey) → slice_get keys i ≡ Some k
    → length (keys_at (take i keys) k.remote) < length (filter (λ (j : RemoteKey). j.remote == k.remote) keys)
count_before keys i k at =
    let whole = ap (λ (l : List RemoteKey). length (keys_at l k.remote)) (sym (take-append-drop (i + 1) keys)) in
    let next = ap (λ (l : List RemoteKey). length (keys_at l k.remote)) (take_next keys i k at) in
    let mine : length (keys_at (k ∷ []) k.remote) ≡ 1 = ap (λ (b : Bool). length (map (λ (j : RemoteKey). j.key) (cond b (k ∷ []) []))) (eq-eqb k.remote k.remote refl) in
    let size = length-map (filter (λ (j : RemoteKey). j.remote == k.remote) keys) (λ (j : RemoteKey). j.key) in
    omega (arith, whole, next, mine, size, count_append (take (i + 1) keys) (drop (i + 1) keys) k.remote, count_append (take i keys) (k ∷ []) k.remote)

-- where no number of a range is found, each fails the test
pub find_none : (p : ℕ → Bool) (n a r : ℕ) → find p (range_with_len a n) ≡ None → a ≤ r → r < a + n → p r ≡ false
find_none p zero a r e low high = absurd (omega (arith, low, high))
find_none p (suc n) a r e low high = by (p a) refl e (find_none p n (a + 1) r)
  where
    some_none : {x : ℕ} → Some x ≡ None → ⊥
    some_none e = cc

    first : (a < r) ⊎ (a ≡ r) → p a ≡ false → find p (range_with_len (a + 1) n) ≡ None → (find p (range_with_len (a + 1) n) ≡ None → a + 1 ≤ r → r < (a + 1) + n → p r ≡ false) → p r ≡ false
    first (inl less) is none again = again none (omega (arith, less)) (omega (arith, high))
    first (inr same) is none again = ap p (sym same) ∙ is

    cases : (a < r) ⊎ (a ≡ r)
    cases = at (cases_lt a r)
      where
        at : (a < r) ⊎ (r ≤ a) → (a < r) ⊎ (a ≡ r)
        at (inl h) = inl h
        at (inr h) = inr (omega (arith, h, low))

    by : (b : Bool) → p a ≡ b → cond b (Some a) (find p (range_with_len (a + 1) n)) ≡ None
        → (find p (range_with_len (a + 1) n) ≡ None → a + 1 ≤ r → r < (a + 1) + n → p r ≡ false) → p r ≡ false
    by true is none again = absurd (some_none none)
    by false is none again = first cases is none again

-- what is found by two tests that agree
find_alike : (p q : ℕ → Bool) (n a : ℕ) → ((r : ℕ) → r < a + n → p r ≡ q r) → find p (range_with_len a n) ≡ find q (range_with_len a n)
find_alike p q zero a same = refl
find_alike p q (suc n) a same =
    let here : p a ≡ q a = same a (omega arith) in
    ap (λ (b : Bool). let o : Option ℕ = cond b (Some a) (find p (range_with_len (a + 1) n)) in o) here
    ∙ ap (λ (o : Option ℕ). cond (q a) (Some a) o) (find_alike p q n (a + 1) (λ r low. same r (omega (arith, low))))

pub found_low : (p : ℕ → Bool) (n a r : ℕ) → find p (range_with_len a n) ≡ Some r → r < a + n
found_low p zero a r e = absurd cc
found_low p (suc n) a r e = by (p a) e (found_low p n (a + 1) r)
  where
    some_one : {x y : ℕ} → Some x ≡ Some y → x ≡ y
    some_one e = cc

    by : (b : Bool) → cond b (Some a) (find p (range_with_len (a + 1) n)) ≡ Some r → (find p (range_with_len (a + 1) n) ≡ Some r → r < (a + 1) + n) → r < a + suc n
    by true e again = omega (arith, some_one e)
    by false e again = omega (arith, again e)

abbrev pub crowds : List Tally → List RemoteKey → ℕ → Bool
crowds tallies fresh r = nat_lt 10000 (keys_at_remote tallies r + length (filter (λ (k : RemoteKey). k.remote == r) fresh))

-- a remote that isn't crowded has room for all that are fresh
pub room_for : (tallies : List Tally) (fresh : List RemoteKey) (r : ℕ) (t : Tally) → crowded_with tallies fresh ≡ None → slice_get tallies r ≡ Some t → r < length tallies
    → t.keys + length (filter (λ (k : RemoteKey). k.remote == r) fresh) ≤ 10000
room_for tallies fresh r t none at low = by (cases_lt 10000 (t.keys + length (filter (λ (k : RemoteKey). k.remote == r) fresh)))
  where
    fails : crowds tallies fresh r ≡ false
    fails = find_none (crowds tallies fresh) (length tallies) 0 r none (omega arith) (omega (arith, low))

    told : keys_at_remote tallies r ≡ t.keys
    told = ap (λ (o : Option Tally). option_map_or (λ (x : Tally). x.keys) o 0) at

    by : (10000 < t.keys + length (filter (λ (k : RemoteKey). k.remote == r) fresh)) ⊎ (t.keys + length (filter (λ (k : RemoteKey). k.remote == r) fresh) ≤ 10000)
        → t.keys + length (filter (λ (k : RemoteKey). k.remote == r) fresh) ≤ 10000
    by (inl over) =
        absurd (false≢true (sym (ap (λ (n : ℕ). nat_lt 10000 (n + length (filter (λ (k : RemoteKey). k.remote == r) fresh))) (sym told) ∙ fails)
        ∙ lt-ltb 10000 (t.keys + length (filter (λ (k : RemoteKey). k.remote == r) fresh)) over))
    by (inr few) = few

-- the crowded remote by tallies is that by all keys that are asked for
pub crowded_by : (tallies : List Tally) (fresh next : List RemoteKey) (remotes : ℕ) → length tallies ≡ remotes
    → ((r : ℕ) → r < remotes → length (keys_at next r) ≡ keys_at_remote tallies r + length (filter (λ (k : RemoteKey). k.remote == r) fresh))
    → crowded remotes next ≡ crowded_with tallies fresh
crowded_by tallies fresh next remotes size counts =
    find_alike (λ (r : ℕ). nat_lt 10000 (length (keys_at next r))) (crowds tallies fresh) remotes 0 (λ r low. ap (nat_lt 10000) (counts r (omega (arith, low))))
    ∙ ap (λ (n : ℕ). find (crowds tallies fresh) (range_with_len 0 n)) (sym size)

behind : (m i : ℕ) → i < m → (n : ℕ) × ((i + 1) + n ≡ m)
behind zero i low = absurd (omega (arith, low))
behind (suc m) zero low = (m, omega arith)
behind (suc m) (suc i) low = let more = behind m i (omega (arith, low)) in (more.0, omega (arith, more.1))

-- the search for the crowded remote, from one on: its own test, and what the others say
module _ (tallies : List Tally) (fresh : List RemoteKey) where
  abbrev pub SaysFrom : ℕ → Type 0
  SaysFrom r = (n : ℕ) → r + n ≡ length tallies → find (crowds tallies fresh) (range_with_len r n) ≡ crowded_with tallies fresh

  pub says_first : SaysFrom 0
  says_first n e = let same : n ≡ length tallies = omega (arith, e) in ap (λ (k : ℕ). find (crowds tallies fresh) (range_with_len 0 k)) same

  own_test : (r : ℕ) (t : Tally) → slice_get tallies r ≡ Some t → crowds tallies fresh r ≡ nat_lt 10000 (t.keys + length (filter (λ (k : RemoteKey). k.remote == r) fresh))
  own_test r t at =
      ap (λ (o : Option Tally). nat_lt 10000 (option_map_or (λ (x : Tally). x.keys) o 0 + length (filter (λ (k : RemoteKey). k.remote == r) fresh))) at

  here : (r : ℕ) (b : Bool) → crowds tallies fresh r ≡ b → r < length tallies → SaysFrom r → (n : ℕ) → (r + 1) + n ≡ length tallies
      → (let o : Option ℕ = cond b (Some r) (find (crowds tallies fresh) (range_with_len (r + 1) n)) in o) ≡ crowded_with tallies fresh
  here r b is low says n e =
      ap (λ (c : Bool). let o : Option ℕ = cond c (Some r) (find (crowds tallies fresh) (range_with_len (r + 1) n)) in o) (sym is)
      ∙ says (suc n) (omega (arith, e))

  pub says_found : (r : ℕ) (t : Tally) → slice_get tallies r ≡ Some t → r < length tallies → SaysFrom r
      → 10000 < t.keys + length (filter (λ (k : RemoteKey). k.remote == r) fresh) → Some r ≡ crowded_with tallies fresh
  says_found r t at low says over = by (behind (length tallies) r low)
    where
      by : (n : ℕ) × ((r + 1) + n ≡ length tallies) → Some r ≡ crowded_with tallies fresh
      by more = here r true (own_test r t at ∙ lt-ltb 10000 (t.keys + length (filter (λ (k : RemoteKey). k.remote == r) fresh)) over) low says more.0 more.1

  pub says_later : (r : ℕ) (t : Tally) → slice_get tallies r ≡ Some t → r < length tallies → SaysFrom r
      → t.keys + length (filter (λ (k : RemoteKey). k.remote == r) fresh) ≤ 10000 → SaysFrom (r + 1)
  says_later r t at low says few n e =
      here r false (own_test r t at ∙ false_from_ne_true (nat_lt 10000 (t.keys + length (filter (λ (k : RemoteKey). k.remote == r) fresh)))
      (λ h. let over : 10000 < t.keys + length (filter (λ (k : RemoteKey). k.remote == r) fresh) = ltb-true 10000 (t.keys + length (filter (λ (k : RemoteKey). k.remote == r) fresh)) h in absurd (omega (arith, few, over))))
      low says n e

  pub says_none : (r : ℕ) → r ≡ length tallies → SaysFrom r → None ≡ crowded_with tallies fresh
  says_none r end says = says 0 (omega (arith, end))

pub filter_short : {X : Type 0} (p : X → Bool) (xs : List X) → length (filter p xs) ≤ length xs
filter_short p [] = omega arith
filter_short {X} p (x ∷ xs) = by (p x) (filter_short p xs)
  where
    by : (b : Bool) → length (filter p xs) ≤ length xs → length (cond b (x ∷ filter p xs) (filter p xs)) ≤ length (x ∷ xs)
    by true again = omega (arith, again)
    by false again = omega (arith, again)
