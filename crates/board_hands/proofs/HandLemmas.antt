-- Items that became others, each at its place.
use Rattle.std.proofs.Common.{◌≡◌, ℕ, suc, ◌<◌, List, [], ◌∷◌, length, arith}
use Rattle.std.specs.Prelude.{⊤, All, slice_index_or}
use Rattle.std.proofs.lemmas.List.Elements.{All-head, All-tail}
use Rattle.board_hands.specs.Hands.{EachBecame}

-- of each item, what it was and what it is now, with one of these
abbrev pub EachWith : {T A : Type 0} → (T → T → A → Type 0) → List T → List T → List A → Type 0
EachWith Q [] [] [] = ⊤
EachWith Q (x ∷ xs) (y ∷ ys) (b ∷ bs) = Q x y b × EachWith Q xs ys bs
EachWith Q [] [] (b ∷ bs) = ⊥
EachWith Q [] (y ∷ ys) bs = ⊥
EachWith Q (x ∷ xs) [] bs = ⊥
EachWith Q (x ∷ xs) (y ∷ ys) [] = ⊥

module _ {T : Type 0} (P : T → T → Type 0) where
  -- by their places
  pub each_became : (xs ys : List T) → length ys ≡ length xs → ((i : ℕ) (d : T) → i < length xs → P (slice_index_or xs i d) (slice_index_or ys i d)) → EachBecame P xs ys
  each_became [] [] long h = tt
  each_became [] (y ∷ ys) long h = absurd (omega (arith, long))
  each_became (x ∷ xs) [] long h = absurd (omega (arith, long))
  each_became (x ∷ xs) (y ∷ ys) long h = (h 0 x (omega arith), each_became xs ys (omega (arith, long)) (λ i d low. h (suc i) d (omega (arith, low))))

  -- with what all items had before and have after
  pub became_with : (Q R : T → Type 0) (xs ys : List T) → EachBecame P xs ys → All Q xs → All R ys → EachBecame (λ x y. P x y × Q x × R y) xs ys
  became_with Q R [] [] h a b = tt
  became_with Q R [] (y ∷ ys) h a b = absurd h
  became_with Q R (x ∷ xs) [] h a b = absurd h
  became_with Q R (x ∷ xs) (y ∷ ys) h a b = ((h.0, All-head Q x xs a, All-head R y ys b), became_with Q R xs ys h.1 (All-tail Q x xs a) (All-tail R y ys b))

  -- where each has one, so have all, in their order
  pub all_with : {A : Type 0} (Q : T → T → A → Type 0) → ((x y : T) → P x y → (a : A) × Q x y a) → (xs ys : List T) → EachBecame P xs ys → (bs : List A) × EachWith Q xs ys bs
  all_with Q one [] [] h = ([], tt)
  all_with Q one [] (y ∷ ys) h = absurd h
  all_with Q one (x ∷ xs) [] h = absurd h
  all_with Q one (x ∷ xs) (y ∷ ys) h =
      let first = one x y h.0 in
      let rest = all_with Q one xs ys h.1 in
      (first.0 ∷ rest.0, (first.1, rest.1))
