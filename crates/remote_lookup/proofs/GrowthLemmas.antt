-- How what is asked for grows: by nothing, by the same, and by one step after another.
use Rattle.std.proofs.Common.{◌≡◌, ◌↔◌, ◌⊎◌, inl, inr, ℕ, zero, suc, ◌+◌, ◌<◌, ◌≤◌, true, get_or, ◌∙◌, List, [], ◌∷◌, ◌++◌, take, length, Some, ap, sym, subst, arith}
use Rattle.std.specs.Prelude.{ℤ, Contains, slice_get}
use Rattle.std.proofs.lemmas.List.{take_all, take_more}
use Rattle.std.proofs.lemmas.List.Elements.{Contains-append_left, Contains-push, Contains-push_cases}
use Rattle.std.proofs.lemmas.Option.{slice_get-get_or}
use Rattle.eddy_meaning.proofs.MatchLemmas.{Contains-nil}
use Rattle.remote_lookup.specs.Asked.{Grows}
use Rattle.remote_lookup.specs.Rounds.{lists_key}
use Rattle.remote_lookup.specs.declared.asked.Asked.{Asked}

-- nothing new, since all of it was asked for
pub grows_not : {P : ℕ → ℤ → Type 0} (a : Asked) → ((remote : ℕ) (key : ℤ) → P remote key → lists_key a.all remote key ≡ true) → Grows P a a
grows_not {P} a there = record {
  all = λ remote key. (λ h. inl h, λ h. by remote key h);
  fresh = λ base h. h;
  ordered = λ h. h;
}
  where
    by : (remote : ℕ) (key : ℤ) → (lists_key a.all remote key ≡ true) ⊎ P remote key → lists_key a.all remote key ≡ true
    by remote key (inl h) = h
    by remote key (inr h) = there remote key h

pub grows_none : {P : ℕ → ℤ → Type 0} (a : Asked) → ((remote : ℕ) (key : ℤ) → P remote key → ⊥) → Grows P a a
grows_none a none = grows_not a (λ remote key h. absurd (none remote key h))

-- the same said otherwise
pub grows_as : {P Q : ℕ → ℤ → Type 0} (a b : Asked) → ((remote : ℕ) (key : ℤ) → P remote key ↔ Q remote key) → Grows P a b → Grows Q a b
grows_as {P} {Q} a b same grows = record {
  all = λ remote key. (λ h. to remote key ((grows.all remote key).0 h), λ h. (grows.all remote key).1 (from remote key h));
  fresh = grows.fresh;
  ordered = grows.ordered;
}
  where
    to : (remote : ℕ) (key : ℤ) → (lists_key a.all remote key ≡ true) ⊎ P remote key → (lists_key a.all remote key ≡ true) ⊎ Q remote key
    to remote key (inl h) = inl h
    to remote key (inr h) = inr ((same remote key).0 h)

    from : (remote : ℕ) (key : ℤ) → (lists_key a.all remote key ≡ true) ⊎ Q remote key → (lists_key a.all remote key ≡ true) ⊎ P remote key
    from remote key (inl h) = inl h
    from remote key (inr h) = inr ((same remote key).1 h)

-- one step after another
pub grows_then : {P Q R : ℕ → ℤ → Type 0} (a b c : Asked) → Grows P a b → Grows Q b c
    → ((remote : ℕ) (key : ℤ) → R remote key → P remote key ⊎ Q remote key) → ((remote : ℕ) (key : ℤ) → P remote key → R remote key)
    → ((remote : ℕ) (key : ℤ) → Q remote key → R remote key) → Grows R a c
grows_then {P} {Q} {R} a b c one two split left right = record {
  all = λ remote key. (λ h. to remote key ((two.all remote key).0 h), λ h. (two.all remote key).1 (from remote key h));
  fresh = λ base h. two.fresh base (one.fresh base h);
  ordered = λ h. two.ordered (one.ordered h);
}
  where
    first : (remote : ℕ) (key : ℤ) → (lists_key a.all remote key ≡ true) ⊎ P remote key → (lists_key a.all remote key ≡ true) ⊎ R remote key
    first remote key (inl h) = inl h
    first remote key (inr h) = inr (left remote key h)

    to : (remote : ℕ) (key : ℤ) → (lists_key b.all remote key ≡ true) ⊎ Q remote key → (lists_key a.all remote key ≡ true) ⊎ R remote key
    to remote key (inl h) = first remote key ((one.all remote key).0 h)
    to remote key (inr h) = inr (right remote key h)

    next : (remote : ℕ) (key : ℤ) → P remote key ⊎ Q remote key → (lists_key b.all remote key ≡ true) ⊎ Q remote key
    next remote key (inl h) = inl ((one.all remote key).1 (inr h))
    next remote key (inr h) = inr h

    from : (remote : ℕ) (key : ℤ) → (lists_key a.all remote key ≡ true) ⊎ R remote key → (lists_key b.all remote key ≡ true) ⊎ Q remote key
    from remote key (inl h) = inl ((one.all remote key).1 (inl h))
    from remote key (inr h) = next remote key (split remote key h)

-- one element more of a front
pub got_or : {X : Type 0} (xs : List X) (i : ℕ) (d x : X) → slice_get xs i ≡ Some x → get_or xs i d ≡ x
got_or [] i d x at = absurd cc
got_or (y ∷ ys) zero d x at = cc
got_or (y ∷ ys) (suc i) d x at = got_or ys i d x at

pub within : {X : Type 0} (xs : List X) (i : ℕ) (x : X) → slice_get xs i ≡ Some x → i < length xs
within [] i x at = absurd cc
within (y ∷ ys) zero x at = omega arith
within (y ∷ ys) (suc i) x at = omega (arith, within ys i x at)

pub take_next : {X : Type 0} (xs : List X) (i : ℕ) (x : X) → slice_get xs i ≡ Some x → take (i + 1) xs ≡ take i xs ++ x ∷ []
take_next {X} xs i x at = take_more xs i x (within xs i x at) ∙ ap (λ (y : X). take i xs ++ y ∷ []) (got_or xs i x x at)

-- by a list, element by element
module _ {X : Type 0} (Q : X → ℕ → ℤ → Type 0) where
  abbrev pub Over : List X → ℕ → ℤ → Type 0
  Over xs remote key = (x : X) × Contains xs x × Q x remote key

  pub over_none : (a : Asked) → Grows (Over []) a a
  over_none a = grows_none a (λ remote key h. Contains-nil h.0 h.1)

  pub over_more : (xs : List X) (i : ℕ) (x : X) (a b c : Asked) → slice_get xs i ≡ Some x
      → Grows (Over (take i xs)) a b → Grows (Q x) b c → Grows (Over (take (i + 1) xs)) a c
  over_more xs i x a b c at one two = grows_then a b c one two split left right
    where
      front : take (i + 1) xs ≡ take i xs ++ x ∷ []
      front = take_next xs i x at

      by : (remote : ℕ) (key : ℤ) (y : X) → Q y remote key → Contains (take i xs) y ⊎ (x ≡ y) → Over (take i xs) remote key ⊎ Q x remote key
      by remote key y q (inl old) = inl (y, old, q)
      by remote key y q (inr e) = inr (subst (λ (z : X). Q z remote key) (sym e) q)

      split : (remote : ℕ) (key : ℤ) → Over (take (i + 1) xs) remote key → Over (take i xs) remote key ⊎ Q x remote key
      split remote key h = by remote key h.0 h.2 (Contains-push_cases (take i xs) x h.0 (subst (λ (l : List X). Contains l h.0) front h.1))

      left : (remote : ℕ) (key : ℤ) → Over (take i xs) remote key → Over (take (i + 1) xs) remote key
      left remote key h =
          (h.0, subst (λ (l : List X). Contains l h.0) (sym front) (Contains-append_left (take i xs) (x ∷ []) h.0 h.1), h.2)

      right : (remote : ℕ) (key : ℤ) → Q x remote key → Over (take (i + 1) xs) remote key
      right remote key q = (x, subst (λ (l : List X). Contains l x) (sym front) (Contains-push (take i xs) x), q)

  -- the element as a loop over a copy of the list reads it
  pub over_got : (xs ys : List X) (i : ℕ) (d : X) (a b c : Asked) → ys ≡ xs → i < length ys
      → Grows (Over (take i xs)) a b → Grows (Q (get_or ys i d)) b c → Grows (Over (take (i + 1) xs)) a c
  over_got xs ys i d a b c same low one two =
      over_more xs i (get_or ys i d) a b c (subst (λ (l : List X). slice_get l i ≡ Some (get_or ys i d)) same (slice_get-get_or ys i d low)) one two

  pub over_all : (xs : List X) (i : ℕ) (a b : Asked) → length xs ≤ i → Grows (Over (take i xs)) a b → Grows (Over xs) a b
  over_all xs i a b all h = subst (λ (l : List X). Grows (Over l) a b) (take_all i xs all) h
