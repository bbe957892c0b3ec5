-- The first fault of lists that stand one behind the other.
use Rattle.std.proofs.Common.{◌≡◌, ◌≢◌, ◌⊎◌, inl, inr, ℕ, Bool, true, false, ◌+◌, ◌<◌, ◌≤◌, List, [], ◌∷◌, ◌++◌, length, drop, get_or, Option, Some, None, refl, ap, sym, ◌∙◌, arith, nat_lt, if◌then◌else◌}
use Rattle.std.specs.Prelude.{◌&&◌, ◌||◌, ◌==◌}
use Rattle.std.specs.List.{flat_map}
use Rattle.std.proofs.lemmas.Bool.{ltb-true, ltb-false}
use Rattle.std.proofs.lemmas.Bool.Decides.{eqb_tells}
use Rattle.sq_bind.specs.Fault.{sooner, first_of, is_before, place_of, fault_number}
use Rattle.sq_bind.specs.declared.fault.BindFault.{BindFault}
use Rattle.sq_bind.proofs.Walk.{walk}

-- the order of places and numbers
before : ℕ → ℕ → ℕ → ℕ → Bool
before p n q m = nat_lt p q || ((p == q) && nat_lt n m)

-- it holds exactly of a lesser place, or of a lesser number at the same place
record Before (p n q m : ℕ) : Type 0 where
  is : before p n q m ≡ true
  by : (p < q) ⊎ ((p ≡ q) × (n < m))

record NotBefore (p n q m : ℕ) : Type 0 where
  is : before p n q m ≡ false
  by : (q < p) ⊎ ((q ≡ p) × (m ≤ n))

less_tells : (a b : ℕ) → ((nat_lt a b ≡ true) × (a < b)) ⊎ ((nat_lt a b ≡ false) × (b ≤ a))
less_tells a b = by (nat_lt a b) refl
  where
    by : (t : Bool) → nat_lt a b ≡ t → ((nat_lt a b ≡ true) × (a < b)) ⊎ ((nat_lt a b ≡ false) × (b ≤ a))
    by true e = inl (e, ltb-true a b e)
    by false e = inr (e, ltb-false a b e)

tells : (p n q m : ℕ) → Before p n q m ⊎ NotBefore p n q m
unfolding before
tells p n q m = by (less_tells p q) (eqb_tells p q) (less_tells n m)
  where
    by : ((nat_lt p q ≡ true) × (p < q)) ⊎ ((nat_lt p q ≡ false) × (q ≤ p))
        → (((p == q) ≡ true) × (p ≡ q)) ⊎ (((p == q) ≡ false) × (p ≢ q))
        → ((nat_lt n m ≡ true) × (n < m)) ⊎ ((nat_lt n m ≡ false) × (m ≤ n)) → Before p n q m ⊎ NotBefore p n q m
    by (inl a) b c = inl record { is = rw a.0 refl; by = inl a.1 }
    by (inr a) (inl b) (inl c) = inl record { is = rw (a.0, b.0, c.0) refl; by = inr (b.1, c.1) }
    by (inr a) (inl b) (inr c) = inr record { is = rw (a.0, b.0, c.0) refl; by = inr (sym b.1, c.1) }
    by (inr a) (inr b) c = inr record { is = rw (a.0, b.0) refl; by = inl (omega (arith, a.1, b.1)) }

chain : (p n q m r k : ℕ) → before q m p n ≡ true → before r k q m ≡ true → before r k p n ≡ true
chain p n q m r k = by (tells q m p n) (tells r k q m) (tells r k p n)
  where
    by : Before q m p n ⊎ NotBefore q m p n → Before r k q m ⊎ NotBefore r k q m → Before r k p n ⊎ NotBefore r k p n
        → before q m p n ≡ true → before r k q m ≡ true → before r k p n ≡ true
    by x y (inl z) g h = z.is
    by (inl x) (inl y) (inr z) g h = grind (arith, x.by, y.by, z.by)
    by (inr x) y (inr z) g h = grind (arith, x.is, g)
    by (inl x) (inr y) (inr z) g h = grind (arith, y.is, h)

stay : (p n q m r k : ℕ) → before q m p n ≡ false → before r k q m ≡ false → before r k p n ≡ false
stay p n q m r k = by (tells q m p n) (tells r k q m) (tells r k p n)
  where
    by : Before q m p n ⊎ NotBefore q m p n → Before r k q m ⊎ NotBefore r k q m → Before r k p n ⊎ NotBefore r k p n
        → before q m p n ≡ false → before r k q m ≡ false → before r k p n ≡ false
    by x y (inr z) g h = z.is
    by (inr x) (inr y) (inl z) g h = grind (arith, x.by, y.by, z.by)
    by (inl x) y (inl z) g h = grind (arith, x.is, g)
    by (inr x) (inl y) (inl z) g h = grind (arith, y.is, h)

abbrev pick : Bool → BindFault → BindFault → Option BindFault
pick b f g = if b then Some g else Some f

picked : (f g : BindFault) (b : Bool) → is_before g f ≡ b → sooner (Some f) (Some g) ≡ pick b f g
picked f g b e = ap (λ (b : Bool). pick b f g) e

-- of three faults, told by which of two comes first
three : (f g h : BindFault) (a b c : Bool) → is_before g f ≡ a → is_before h g ≡ b → is_before h f ≡ c
    → (is_before g f ≡ true → is_before h g ≡ true → is_before h f ≡ true) → (is_before g f ≡ false → is_before h g ≡ false → is_before h f ≡ false)
    → sooner (sooner (Some f) (Some g)) (Some h) ≡ sooner (Some f) (sooner (Some g) (Some h))
three f g h a b c x y z up down =
    ap (λ (o : Option BindFault). sooner o (Some h)) (picked f g a x) ∙ middle a b x y ∙ sym (ap (sooner (Some f)) (picked g h b y))
  where
    middle : (a b : Bool) → is_before g f ≡ a → is_before h g ≡ b → sooner (pick a f g) (Some h) ≡ sooner (Some f) (pick b g h)
    middle true true x y = picked g h true y ∙ sym (picked f h true (up x y))
    middle true false x y = picked g h false y ∙ sym (picked f g true x)
    middle false true x y = refl
    middle false false x y = picked f h false (down x y) ∙ sym (picked f g false x)

pub sooner_assoc : (x y z : Option BindFault) → sooner (sooner x y) z ≡ sooner x (sooner y z)
unfolding before
sooner_assoc None y z = refl
sooner_assoc (Some f) None z = refl
sooner_assoc (Some f) (Some g) None = by (is_before g f)
  where
    by : (b : Bool) → sooner (if b then Some g else Some f) None ≡ (if b then Some g else Some f)
    by true = refl
    by false = refl
sooner_assoc (Some f) (Some g) (Some h) =
    three f g h (is_before g f) (is_before h g) (is_before h f) refl refl refl
    (chain (place_of f) (fault_number f) (place_of g) (fault_number g) (place_of h) (fault_number h))
    (stay (place_of f) (fault_number f) (place_of g) (fault_number g) (place_of h) (fault_number h))

pub sooner_none : (x : Option BindFault) → sooner x None ≡ x
sooner_none None = refl
sooner_none (Some f) = refl

pub first_of-append : (xs ys : List BindFault) → first_of (xs ++ ys) ≡ sooner (first_of xs) (first_of ys)
first_of-append [] ys = refl
first_of-append (x ∷ xs) ys =
    ap (sooner (Some x)) (first_of-append xs ys) ∙ sym (sooner_assoc (Some x) (first_of xs) (first_of ys))

-- the next element's faults
pub next_fault : {A : Type 0} (faults : A → List BindFault) (xs : List A) (i : ℕ) (d : A) (sofar whole : Option BindFault) → i < length xs
    → sooner sofar (first_of (flat_map faults (drop i xs))) ≡ whole
    → sooner (sooner sofar (first_of (faults (get_or xs i d)))) (first_of (flat_map faults (drop (i + 1) xs))) ≡ whole
next_fault faults xs i d sofar whole =
    walk sooner sooner_assoc (λ k ys. first_of (flat_map faults ys)) (λ k x. first_of (faults x))
    (λ k x ys. first_of-append (faults x) (flat_map faults ys)) xs i d sofar whole

-- the first of two lists' faults, by the first of each
pub two_firsts : (xs ys : List BindFault) (x y : Option BindFault) → x ≡ first_of xs → y ≡ first_of ys → sooner x y ≡ first_of (xs ++ ys)
two_firsts xs ys x y e f = ap (λ (o : Option BindFault). sooner o y) e ∙ ap (sooner (first_of xs)) f ∙ sym (first_of-append xs ys)
