-- A name among others, name by name.
use Rattle.std.proofs.Common.{◌≡◌, ℕ, suc, ◌+◌, Bool, true, false, List, [], ◌∷◌, Option, Some, None, length, drop, cond, refl, sym, ap, ◌∙◌, arith}
use Rattle.std.specs.Prelude.{◌||◌, String, nat_lt, not, position, slice_get, is_some, string_bytes}
use Rattle.std.specs.List.{list_any, position_or_len}
use Rattle.std.proofs.lemmas.Bool.{false_from_ne_true, lt-ltb, ltb-true, ltb-false}
use Rattle.std.proofs.lemmas.List.{at_drop_more}
use Rattle.std.proofs.lemmas.Option.{slice_get_within, get_or_from_slice_get}
use Rattle.catalogue.specs.Names.{bytes_of}
use Rattle.catalogue.proofs.PlaceLemmas.{position-bytes}

module _ {X : Type 0} (p : X → Bool) where
  -- a test of what is left of a list, at a place
  pub any_at : (xs : List X) (i : ℕ) (x : X) → slice_get xs i ≡ Some x → list_any p (drop i xs) ≡ (p x || list_any p (drop (i + 1) xs))
  any_at xs i x e =
      at_drop_more (λ rest. list_any p rest) xs i x (slice_get_within xs i x e)
      ∙ ap (λ y. list_any p (y ∷ drop (i + 1) xs)) (get_or_from_slice_get xs i x x e)

  -- a place is found exactly where the test passes somewhere
  place_if : (n : ℕ) (b : Bool) → is_some (cond b (Some n) None) ≡ b
  place_if n true = refl
  place_if n false = refl

  lower_than : (a b : ℕ) → nat_lt (1 + a) (suc b) ≡ nat_lt a b
  lower_than a b = by (nat_lt a b) refl
    where
      by : (t : Bool) → nat_lt a b ≡ t → nat_lt (1 + a) (suc b) ≡ t
      by true e = let h = ltb-true a b e in lt-ltb (1 + a) (suc b) (omega (arith, h))
      by false e =
          let h = ltb-false a b e in
          false_from_ne_true (nat_lt (1 + a) (suc b)) (λ f. let g = ltb-true (1 + a) (suc b) f in omega (arith, g, h))

  within_if : (xs : List X) → nat_lt (position_or_len p xs) (length xs) ≡ list_any p xs
  within_if [] = refl
  within_if (x ∷ xs) = by (p x) (within_if xs)
    where
      by : (b : Bool) → nat_lt (position_or_len p xs) (length xs) ≡ list_any p xs
          → nat_lt (cond (not b) (1 + position_or_len p xs) 0) (length (x ∷ xs)) ≡ (b || list_any p xs)
      by true h = lt-ltb 0 (suc (length xs)) (omega arith)
      by false h = lower_than (position_or_len p xs) (length xs) ∙ h

  pub found_if : (xs : List X) → is_some (position p xs) ≡ list_any p xs
  found_if xs = place_if (position_or_len p xs) (nat_lt (position_or_len p xs) (length xs)) ∙ within_if xs

none_of : {X : Type 0} (o : Option X) → is_some o ≡ false → o ≡ None
none_of None e = refl
none_of (Some x) e = absurd cc

-- a name among the bytes of names, by the test of the names
pub there_if : {A : Type 0} (p : List ℕ → Bool) (names : List (String A))
    → is_some (position p (bytes_of names)) ≡ list_any (λ name. p (string_bytes name)) names
there_if p names = ap is_some (sym (position-bytes p names)) ∙ found_if (λ name. p (string_bytes name)) names

pub nowhere : {A : Type 0} (p : List ℕ → Bool) (names : List (String A))
    → list_any (λ name. p (string_bytes name)) names ≡ false → position p (bytes_of names) ≡ None
nowhere p names e = none_of (position p (bytes_of names)) (there_if p names ∙ e)
