-- The elements of a group.
use Rattle.std.proofs.Common.{◌≡◌, ℕ, zero, suc, ◌+◌, ◌<◌, Bool, true, false, cond, List, [], ◌∷◌, length, get_or, drop, map, filter, refl, ap, sym, ◌∙◌, arith}
use Rattle.std.specs.Prelude.{◌==◌, ℤ, pos, ◌+ℤ◌, if◌then◌else◌, All}
use Rattle.std.specs.List.{range_with_len}
use Rattle.std.proofs.lemmas.Int.{ints}
use Rattle.std.proofs.lemmas.Bool.{eq-eqb, ne_eqb}
use Rattle.group_sink.specs.Picked.{picked}
use Rattle.group_sink.specs.Sums.{sum_at}
use Rattle.group_sink.specs.Totals.{total_by}

module _ {X : Type 0} where
  -- one element more in front
  pub picked-more : (group : ℕ) (gs : List ℕ) (xs : List X) (k : ℕ) (d : X) → k < length gs → length gs ≡ length xs
      → picked group (drop k gs) (drop k xs)
      ≡ cond (get_or gs k 0 == group) (get_or xs k d ∷ picked group (drop (suc k) gs) (drop (suc k) xs)) (picked group (drop (suc k) gs) (drop (suc k) xs))
  picked-more group [] xs k d low same = absurd (omega arith)
  picked-more group (g ∷ gs) [] k d low same = absurd (omega (arith, same))
  picked-more group (g ∷ gs) (x ∷ xs) zero d low same = refl
  picked-more group (g ∷ gs) (x ∷ xs) (suc k) d low same = picked-more group gs xs k d (omega arith) (omega (arith, same))

  -- where elements are numbered, those with a number
  pub picked-numbered : (number : X → ℕ) (j : ℕ) (xs : List X) → picked j (map number xs) xs ≡ filter (λ x. number x == j) xs
  picked-numbered number j [] = refl
  picked-numbered number j (x ∷ xs) = ap (λ (l : List X). cond (number x == j) (x ∷ l) l) (picked-numbered number j xs)

  -- what is made of them
  pub picked-map : {Y : Type 0} (f : X → Y) (j : ℕ) (ns : List ℕ) (xs : List X) → map f (picked j ns xs) ≡ picked j ns (map f xs)
  picked-map f j [] xs = refl
  picked-map f j (n ∷ ns) [] = refl
  picked-map {Y} f j (n ∷ ns) (x ∷ xs) = by (n == j) ∙ ap (λ (l : List Y). cond (n == j) (f x ∷ l) l) (picked-map f j ns xs)
    where
      by : (b : Bool) → map f (cond b (x ∷ picked j ns xs) (picked j ns xs)) ≡ cond b (f x ∷ map f (picked j ns xs)) (map f (picked j ns xs))
      by true = refl
      by false = refl

  -- the sum of a group
  pub sum_at-picked : (u : X → ℤ) (j : ℕ) (ns : List ℕ) (xs : List X) → sum_at j ns (map u xs) ≡ total_by u (picked j ns xs)
  sum_at-picked u j [] xs = refl
  sum_at-picked u j (n ∷ ns) [] = refl
  sum_at-picked u j (n ∷ ns) (x ∷ xs) = ap (λ (z : ℤ). (if n == j then u x else pos 0) +ℤ z) (sum_at-picked u j ns xs) ∙ by (n == j)
    where
      by : (b : Bool) → (if b then u x else pos 0) +ℤ total_by u (picked j ns xs) ≡ total_by u (cond b (x ∷ picked j ns xs) (picked j ns xs))
      by true = refl
      by false = let same : (z : ℤ) → pos 0 +ℤ z ≡ z = λ z. omega (arith, ints) in same (total_by u (picked j ns xs))

  -- all of one group
  pub picked-zeros : (ns : List ℕ) (xs : List X) → length ns ≡ length xs → All (λ n. n ≡ 0) ns → picked 0 ns xs ≡ xs
  picked-zeros [] [] same h = refl
  picked-zeros [] (x ∷ xs) same h = absurd (omega (arith, same))
  picked-zeros (n ∷ ns) [] same h = absurd (omega (arith, same))
  picked-zeros (n ∷ ns) (x ∷ xs) same h =
      let first : n ≡ 0 = h zero 0 (omega arith) in
      ap (λ (b : Bool). cond b (x ∷ picked 0 ns xs) (picked 0 ns xs)) (eq-eqb n 0 first)
      ∙ ap (λ (l : List X). x ∷ l) (picked-zeros ns xs (omega (arith, same)) (λ k d low. h (suc k) d (omega arith)))

  -- none has a number that is lesser than all
  picked-below : (j a : ℕ) (xs : List X) → j < a → picked j (range_with_len a (length xs)) xs ≡ []
  picked-below j a [] less = refl
  picked-below j a (x ∷ xs) less =
      let no = ne_eqb a j (λ e. omega (arith, e, less)) in
      ap (λ (b : Bool). cond b (x ∷ picked j (range_with_len (a + 1) (length xs)) xs) (picked j (range_with_len (a + 1) (length xs)) xs)) no
      ∙ picked-below j (a + 1) xs (omega (arith, less))

  -- elements that are numbered one after another, each alone
  pub alone : (a : ℕ) (xs : List X) → map (λ x. x ∷ []) xs ≡ map (λ j. picked j (range_with_len a (length xs)) xs) (range_with_len a (length xs))
  alone a [] = refl
  alone a (x ∷ xs) =
      ap (λ (l : List X). l ∷ map (λ y. y ∷ []) xs) (sym here)
      ∙ ap (λ (r : List (List X)). picked a (range_with_len a (length (x ∷ xs))) (x ∷ xs) ∷ r)
      (alone (a + 1) xs ∙ later (a + 1) (length xs) (omega arith))
    where
      rest : ℕ → List X
      rest j = picked j (range_with_len (a + 1) (length xs)) xs

      here : picked a (range_with_len a (length (x ∷ xs))) (x ∷ xs) ≡ x ∷ []
      here =
          ap (λ (b : Bool). cond b (x ∷ rest a) (rest a)) (eq-eqb a a refl)
          ∙ ap (λ (l : List X). x ∷ l) (picked-below a (a + 1) xs (omega arith))

      later : (b n : ℕ) → a < b → map rest (range_with_len b n) ≡ map (λ j. picked j (range_with_len a (length (x ∷ xs))) (x ∷ xs)) (range_with_len b n)
      later b zero less = refl
      later b (suc n) less =
          let no = ne_eqb a b (λ e. omega (arith, e, less)) in
          ap (λ (l : List X). l ∷ map rest (range_with_len (b + 1) n)) (sym (ap (λ (t : Bool). cond t (x ∷ rest b) (rest b)) no))
          ∙ ap (λ (r : List (List X)). picked b (range_with_len a (length (x ∷ xs))) (x ∷ xs) ∷ r) (later (b + 1) n (omega (arith, less)))
