-- A list of entries with different rows below n has at most n entries.
use Rattle.std.proofs.Common.{◌≡◌, ◌≢◌, ℕ, zero, suc, ◌+◌, ◌<◌, ◌≤◌, List, [], ◌∷◌, ◌++◌, length, cond, eqb, sym, refl, ap, ◌∙◌, subst, arith, eq-eqb, ne_eqb, drop, take, get_or}
use mathlib.Core.Logic.{dite}
use native.Mathlib.Decide.{ℕ_discrete}
use Rattle.std.proofs.lemmas.Bool.Decides.{nat_tests}
use Rattle.turn_board.specs.Sums.{Each, once_below}
use Rattle.turn_board.specs.Views.{row_entered}

without : ℕ → List (ℕ × ℕ) → List (ℕ × ℕ)
without n [] = []
without n (e ∷ es) = cond (eqb e.0 n) (without n es) (e ∷ without n es)

length_without : (n : ℕ) (es : List (ℕ × ℕ)) → length es ≡ length (without n es) + row_entered n es
unfolding without
length_without n [] = refl
length_without n (e ∷ es) = let r = length_without n es in dite (ℕ_discrete e.0 n)
    (λ i. let b = eq-eqb e.0 n i in rw b (omega arith))
    (λ i. let b = ne_eqb e.0 n i in rw b (omega arith))

rest_without : (n r : ℕ) (es : List (ℕ × ℕ)) → r ≢ n → row_entered r (without n es) ≡ row_entered r es
unfolding without
rest_without n r [] h = refl
rest_without n r (e ∷ es) h = let q = rest_without n r es h in dite (ℕ_discrete e.0 n)
    (λ i. let b = eq-eqb e.0 n i in let c = ne_eqb e.0 r (λ j. h (sym j ∙ i)) in rw (b, c) (omega arith))
    (λ i. let b = ne_eqb e.0 n i in rw b (omega arith))

none_without : (n : ℕ) (es : List (ℕ × ℕ)) → row_entered n (without n es) ≡ 0
unfolding without
none_without n [] = refl
none_without n (e ∷ es) = let q = none_without n es in dite (ℕ_discrete e.0 n)
    (λ i. let b = eq-eqb e.0 n i in rw b q)
    (λ i. let b = ne_eqb e.0 n i in rw (b, b) (omega arith))

below_more : (r n : ℕ) → r ≢ n → once_below r (suc n) ≡ once_below r n
below_more r n h = grind (arith, nat_tests)

below_one : (r n : ℕ) → once_below r n ≤ 1
below_one r n = grind (arith, nat_tests)

not_below : (r : ℕ) → once_below r 0 ≡ 0
not_below r = grind (arith, nat_tests)

pub few_entries : (n : ℕ) (es : List (ℕ × ℕ)) → ((r : ℕ) → row_entered r es ≤ once_below r n) → length es ≤ n
few_entries zero [] h = omega arith
few_entries zero (e ∷ es) h = absurd (let a = h e.0 in let b = eq-eqb e.0 e.0 refl in let c = rw b at a in let d = not_below e.0 in omega arith)
few_entries (suc n) es h = let a = length_without n es in let one = h n in let b = below_one n (suc n) in
    let r = few_entries n (without n es) (λ r. dite (ℕ_discrete r n)
    (λ i. subst (λ k. row_entered k (without n es) ≤ once_below k n) (sym i) (let z = none_without n es in omega arith))
    (λ i. let z = rest_without n r es i in let y = below_more r n i in let x = h r in omega arith)) in
    omega arith

pub each_drop_nil : {X : Type 0} (P : X → Type 0) (n : ℕ) → Each P (drop n [])
each_drop_nil P zero = tt
each_drop_nil P (suc n) = tt

pub each_drop_snoc : {X : Type 0} (P : X → Type 0) (n : ℕ) (xs : List X) (x : X) → Each P (drop n xs) → P x → Each P (drop n (xs ++ x ∷ []))
each_drop_snoc P zero [] x e p = (p, tt)
each_drop_snoc P zero (y ∷ ys) x e p = (e.0, each_drop_snoc P zero ys x e.1 p)
each_drop_snoc P (suc n) [] x e p = each_drop_nil P n
each_drop_snoc P (suc n) (y ∷ ys) x e p = each_drop_snoc P n ys x e p

pub row_take_more : (row : ℕ) (es : List (ℕ × ℕ)) (i : ℕ) (e d : ℕ × ℕ) → i < length es → e ≡ get_or es i d → e.0 ≢ row → row_entered row (take i es) ≡ 0 → row_entered row (take (suc i) es) ≡ 0
row_take_more row [] i e d h is ne z = absurd (omega arith)
row_take_more row (x ∷ xs) zero e d h is ne z = let o = ne_eqb x.0 row (λ j. ne (ap (λ (y : ℕ × ℕ). y.0) is ∙ j)) in rw o refl
row_take_more row (x ∷ xs) (suc i) e d h is ne z = let r = row_take_more row xs i e d (omega arith) is ne (omega arith) in omega arith

pub row_take_all : (row : ℕ) (es : List (ℕ × ℕ)) (i : ℕ) → length es ≤ i → row_entered row (take i es) ≡ 0 → row_entered row es ≡ 0
row_take_all row [] i h z = refl
row_take_all row (x ∷ xs) zero h z = absurd (omega arith)
row_take_all row (x ∷ xs) (suc i) h z = let r = row_take_all row xs i (omega arith) (omega arith) in omega arith
