-- How many bytes of a class begin a text, and where a quoted one closes.
use Rattle.std.proofs.Common.{◌≡◌, ◌⊎◌, inl, inr, ◌+◌, ◌≤◌, ℕ, suc, Bool, true, false, cond, List, [], ◌∷◌, ◌++◌, Some, length, take, drop, refl, ap, sym, subst, ◌∙◌, arith, if◌then◌else◌}
use Rattle.std.specs.Prelude.{◌&&◌, ◌||◌, ◌==◌}
use Rattle.std.specs.List.{prefix_len, list_all}
use Rattle.std.proofs.lemmas.Bool.{and_parts, eqb-true, eq-eqb, ne_eqb}
use Rattle.sq_token.specs.Form.{Text, closing}
use Rattle.sq_token.specs.Longest.{doubled, BeginsNot}

-- ---- Booleans

pub not_both : (b : Bool) → b ≡ true → b ≡ false → ⊥
not_both true e f = absurd cc
not_both false e f = absurd cc

pub or_parts : (a b : Bool) → (a || b) ≡ true → (a ≡ true) ⊎ (b ≡ true)
or_parts true b e = inl refl
or_parts false b e = inr e

-- ---- how many bytes of a class begin a text

module _ (p : ℕ → Bool) where
  pub run_all : (z : List ℕ) → list_all p (take (prefix_len p z) z) ≡ true
  run_all [] = refl
  run_all (b ∷ z) = by (p b) refl (run_all z)
    where
      by : (t : Bool) → p b ≡ t → list_all p (take (prefix_len p z) z) ≡ true → list_all p (take (cond t (1 + prefix_len p z) 0) (b ∷ z)) ≡ true
      by true e h =
          let more : 1 + prefix_len p z ≡ suc (prefix_len p z) = omega arith in
          ap (λ (k : ℕ). list_all p (take k (b ∷ z))) more ∙ ap (λ (t : Bool). t && list_all p (take (prefix_len p z) z)) e ∙ h
      by false e h = refl

  abbrev pub Ends : List ℕ → Type 0
  Ends w = (w ≡ []) ⊎ ((b : ℕ) × ((r : List ℕ) × ((w ≡ b ∷ r) × (p b ≡ false))))

  pub run_ends : (z : List ℕ) → Ends (drop (prefix_len p z) z)
  run_ends [] = inl refl
  run_ends (b ∷ z) = by (p b) refl (run_ends z)
    where
      by : (t : Bool) → p b ≡ t → Ends (drop (prefix_len p z) z) → Ends (drop (cond t (1 + prefix_len p z) 0) (b ∷ z))
      by true e h =
          let more : suc (prefix_len p z) ≡ 1 + prefix_len p z = omega arith in
          subst (λ (k : ℕ). Ends (drop k (b ∷ z))) more h
      by false e h = inr (b, (z, (refl, e)))

  pub run_bound : (xs ys : List ℕ) → list_all p xs ≡ true → length xs ≤ prefix_len p (xs ++ ys)
  run_bound [] ys e = omega arith
  run_bound (x ∷ xs) ys e =
      let both = and_parts (p x) (list_all p xs) e in
      let rest = run_bound xs ys both.1 in
      subst (λ (t : Bool). suc (length xs) ≤ cond t (1 + prefix_len p (xs ++ ys)) 0) (sym both.0) (omega (arith, rest))

  pub run_some : (b : ℕ) (z : List ℕ) → p b ≡ true → 1 ≤ prefix_len p (b ∷ z)
  run_some b z e = subst (λ (t : Bool). 1 ≤ cond t (1 + prefix_len p z) 0) (sym e) (omega arith)

-- ---- quoted texts

pub doubled_long : (q : ℕ) (t : Text) → length t ≤ length (doubled q t)
doubled_long q [] = omega arith
doubled_long q (b ∷ t) = by (b == q) (doubled_long q t)
  where
    by : (s : Bool) → length t ≤ length (doubled q t)
        → suc (length t) ≤ length (if s then b ∷ b ∷ doubled q t else b ∷ doubled q t)
    by true h = omega (arith, h)
    by false h = omega (arith, h)

-- a text closes behind what stands before its last quote
abbrev pub Closes : ℕ → ℕ → Text → ℕ → Type 0
Closes q n z m =
    (t : Text) × ((rest : Text) × ((z ≡ doubled q t ++ (q ∷ rest)) × (BeginsNot q rest × (m ≡ (n + length (doubled q t)) + 1))))

pub some_is : (x y : ℕ) → Some x ≡ Some y → y ≡ x
some_is x y e = cc

-- a byte that is no quote
pub past : (q n b m : ℕ) (z : Text) → (b == q) ≡ false → Closes q (n + 1) z m → Closes q n (b ∷ z) m
past q n b m z e (t, (rest, (is, (ends, long)))) =
    let w : doubled q (b ∷ t) ≡ b ∷ doubled q t = ap (λ (s : Bool). if s then b ∷ b ∷ doubled q t else b ∷ doubled q t) e in
    let k = ap length w in
    (b ∷ t, (rest, (ap (λ (x : Text). b ∷ x) is ∙ ap (λ (x : Text). x ++ (q ∷ rest)) (sym w), (ends, omega (arith, long, k)))))

-- two quotes
pub two : (q n b c m : ℕ) (z : Text) → (b == q) ≡ true → (c == q) ≡ true → Closes q ((n + 1) + 1) z m → Closes q n (b ∷ c ∷ z) m
two q n b c m z e f (t, (rest, (is, (ends, long)))) =
    let first : b ≡ q = eqb-true b q e in
    let second : c ≡ q = eqb-true c q f in
    let w : doubled q (q ∷ t) ≡ q ∷ q ∷ doubled q t = ap (λ (s : Bool). if s then q ∷ q ∷ doubled q t else q ∷ doubled q t) (eq-eqb q q refl) in
    let k = ap length w in (
      q ∷ t,
      (
        rest,
        (
          ap (λ (x : ℕ). x ∷ c ∷ z) first ∙ ap (λ (x : ℕ). q ∷ x ∷ z) second ∙ ap (λ (x : Text). q ∷ q ∷ x) is
              ∙ ap (λ (x : Text). x ++ (q ∷ rest)) (sym w),
          (ends, omega (arith, long, k)),
        ),
      ),
    )

-- one quote, and no second one
pub last : (q n b m : ℕ) (z : Text) → (b == q) ≡ true → BeginsNot q z → m ≡ n + 1 → Closes q n (b ∷ z) m
last q n b m z e ends is = ([], (z, (ap (λ (x : ℕ). x ∷ z) (eqb-true b q e), (ends, omega (arith, is)))))

pub closes : (q n : ℕ) (z : Text) (m : ℕ) → closing q false n z ≡ Some m → Closes q n z m
closes q n [] m e = absurd cc
closes q n (b ∷ []) m e = by (b == q) refl e
  where
    by : (s : Bool) → (b == q) ≡ s → closing q s (n + 1) [] ≡ Some m → Closes q n (b ∷ []) m
    by true is f = last q n b m [] is tt (some_is (n + 1) m f)
    by false is f = absurd cc
closes q n (b ∷ c ∷ z) m e = by (b == q) refl e (closes q (n + 1) (c ∷ z) m) (closes q ((n + 1) + 1) z m)
  where
    by : (s : Bool) → (b == q) ≡ s → closing q s (n + 1) (c ∷ z) ≡ Some m
        → (closing q false (n + 1) (c ∷ z) ≡ Some m → Closes q (n + 1) (c ∷ z) m)
        → (closing q false ((n + 1) + 1) z ≡ Some m → Closes q ((n + 1) + 1) z m) → Closes q n (b ∷ c ∷ z) m
    by false is f one more = past q n b m (c ∷ z) is (one f)
    by true is f one more = second (c == q) refl f
      where
        second : (s : Bool) → (c == q) ≡ s → (if s then closing q false ((n + 1) + 1) z else Some (n + 1)) ≡ Some m → Closes q n (b ∷ c ∷ z) m
        second true has g = two q n b c m z is has (more g)
        second false has g = last q n b m (c ∷ z) is (λ h. not_both (c == q) (eq-eqb c q h) has) (some_is (n + 1) m g)

-- and where it closes is one place
pub closed_at : (q n : ℕ) (t rest : Text) → BeginsNot q rest
    → closing q false n (doubled q t ++ (q ∷ rest)) ≡ Some ((n + length (doubled q t)) + 1)
closed_at q n [] rest ends = ap (λ (s : Bool). closing q s (n + 1) rest) (eq-eqb q q refl) ∙ by rest ends
  where
    here : n + 1 ≡ (n + 0) + 1
    here = omega arith

    by : (z : Text) → BeginsNot q z → closing q true (n + 1) z ≡ Some ((n + 0) + 1)
    by [] h = ap (λ (k : ℕ). Some k) here
    by (c ∷ z) h =
        ap (λ (s : Bool). if s then closing q false ((n + 1) + 1) z else Some (n + 1)) (ne_eqb c q h) ∙ ap (λ (k : ℕ). Some k) here
closed_at q n (b ∷ t) rest ends = by (b == q) refl (closed_at q (n + 1) t rest ends) (closed_at q ((n + 1) + 1) t rest ends)
  where
    w : Text
    w = doubled q t ++ (q ∷ rest)

    by : (s : Bool) → (b == q) ≡ s → closing q false (n + 1) w ≡ Some (((n + 1) + length (doubled q t)) + 1)
        → closing q false ((n + 1) + 1) w ≡ Some ((((n + 1) + 1) + length (doubled q t)) + 1)
        → closing q false n ((if s then b ∷ b ∷ doubled q t else b ∷ doubled q t) ++ (q ∷ rest))
        ≡ Some ((n + length (if s then b ∷ b ∷ doubled q t else b ∷ doubled q t)) + 1)
    by false is one more =
        let count : ((n + 1) + length (doubled q t)) + 1 ≡ (n + suc (length (doubled q t))) + 1 = omega arith in
        ap (λ (s : Bool). closing q s (n + 1) w) is ∙ one ∙ ap (λ (k : ℕ). Some k) count
    by true is one more =
        let count : (((n + 1) + 1) + length (doubled q t)) + 1 ≡ (n + suc (suc (length (doubled q t)))) + 1 = omega arith in
        ap (λ (s : Bool). closing q s (n + 1) (b ∷ w)) is
        ∙ ap (λ (s : Bool). if s then closing q false ((n + 1) + 1) w else Some (n + 1)) is ∙ more ∙ ap (λ (k : ℕ). Some k) count
