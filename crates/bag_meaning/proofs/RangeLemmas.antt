-- Ranges of numbers, and what a test keeps of them.
use Rattle.std.proofs.Common.{◌≡◌, ℕ, zero, suc, ◌+◌, ◌-◌, ◌<◌, ◌≤◌, Bool, true, false, cond, List, [], ◌∷◌, ◌++◌, refl, ap, sym, ◌∙◌, arith, subst}
use Rattle.std.specs.Prelude.{◌&&◌, ◌||◌, ◌==◌, nat_lt, nat_le, filter, All}
use Rattle.std.specs.List.{flat_map, range_with_len, list_any}
use Rattle.std.proofs.lemmas.Bool.{eq-eqb, ne_eqb, lt-ltb, le-ltb}
use Rattle.std.proofs.lemmas.Bool.Decides.{nat_tests}
use Rattle.std.proofs.lemmas.List.{append-nil}
use Rattle.std.proofs.lemmas.List.Concat.{flat_map-append}
use Rattle.std.proofs.lemmas.List.Elements.{filter-append}
use Rattle.std.proofs.lemmas.List.FromFn.{length-range_with_len, get_or-range_with_len}
use Rattle.bag_meaning.proofs.ListLemmas.{filter_none, filter_all}

-- a range in two parts
pub range_with_len-append : (a m n : ℕ) → range_with_len a (m + n) ≡ range_with_len a m ++ range_with_len (a + m) n
range_with_len-append a zero n =
    let same : zero + n ≡ n = omega arith in
    let start : a ≡ a + zero = omega arith in
    ap (range_with_len a) same ∙ ap (λ (k : ℕ). range_with_len k n) start
range_with_len-append a (suc m) n =
    let same : suc m + n ≡ suc (m + n) = omega arith in
    let start : (a + 1) + m ≡ a + suc m = omega arith in
    ap (range_with_len a) same
    ∙ ap (λ (r : List ℕ). a ∷ r) (range_with_len-append (a + 1) m n)
    ∙ ap (λ (k : ℕ). a ∷ (range_with_len (a + 1) m ++ range_with_len k n)) start

-- one more number
pub range_with_len-more : (n : ℕ) → range_with_len 0 (n + 1) ≡ range_with_len 0 n ++ n ∷ []
range_with_len-more n =
    let same : 0 + n ≡ n = omega arith in
    range_with_len-append 0 n 1 ∙ ap (λ (k : ℕ). range_with_len 0 n ++ k ∷ []) same

-- one part more of a concatenation over a range
pub flat_map-last : {Y : Type 0} (f : ℕ → List Y) (n : ℕ) → flat_map f (range_with_len 0 n) ++ f n ≡ flat_map f (range_with_len 0 (n + 1))
flat_map-last {Y} f n =
    sym (ap (flat_map f) (range_with_len-more n)
    ∙ flat_map-append f (range_with_len 0 n) (n ∷ [])
    ∙ ap (λ (r : List Y). flat_map f (range_with_len 0 n) ++ r) (append-nil (f n)))

-- what is true of each number of a range
pub All-range : (P : ℕ → Type 0) (a n : ℕ) → ((k : ℕ) → a ≤ k → k < a + n → P k) → All P (range_with_len a n)
All-range P a n h i d k =
    let within : i < n = omega (arith, length-range_with_len a n) in
    subst P (sym (get_or-range_with_len a n i d within)) (h (a + i) (omega arith) (omega arith))

-- the numbers below another
pub filter_below : (j n : ℕ) → j ≤ n → filter (λ y. nat_lt y j) (range_with_len 0 n) ≡ range_with_len 0 j
filter_below j n h =
    let test = λ (y : ℕ). nat_lt y j in
    let same : n ≡ j + (n - j) = omega arith in
    let low : filter test (range_with_len 0 j) ≡ range_with_len 0 j =
    filter_all test (range_with_len 0 j) (All-range (λ (y : ℕ). nat_lt y j ≡ true) 0 j (λ k a b. lt-ltb k j (omega arith))) in
    let high : filter test (range_with_len (0 + j) (n - j)) ≡ [] =
    filter_none test (range_with_len (0 + j) (n - j)) (All-range (λ (y : ℕ). nat_lt y j ≡ false) (0 + j) (n - j) (λ k a b. le-ltb k j (omega arith))) in
    ap (λ (m : ℕ). filter test (range_with_len 0 m)) same
    ∙ ap (filter test) (range_with_len-append 0 j (n - j))
    ∙ filter-append test (range_with_len 0 j) (range_with_len (0 + j) (n - j))
    ∙ ap (λ (r : List ℕ). filter test (range_with_len 0 j) ++ r) high ∙ append-nil (filter test (range_with_len 0 j)) ∙ low

-- the number that equals another
pub filter_equal : (j n : ℕ) → j < n → filter (λ y. y == j) (range_with_len 0 n) ≡ j ∷ []
filter_equal j n h =
    let test = λ (y : ℕ). y == j in
    let same : n ≡ (j + 1) + (n - (j + 1)) = omega arith in
    let low : filter test (range_with_len 0 j) ≡ [] =
    filter_none test (range_with_len 0 j) (All-range (λ (y : ℕ). (y == j) ≡ false) 0 j (λ k a b. ne_eqb k j (λ e. absurd (omega arith)))) in
    let here : filter test (j ∷ []) ≡ j ∷ [] = ap (λ (b : Bool). cond b (j ∷ []) []) (eq-eqb j j refl) in
    let high : filter test (range_with_len (0 + (j + 1)) (n - (j + 1))) ≡ [] =
    filter_none test (range_with_len (0 + (j + 1)) (n - (j + 1))) (All-range (λ (y : ℕ). (y == j) ≡ false) (0 + (j + 1)) (n - (j + 1)) (λ k a b. ne_eqb k j (λ e. absurd (omega arith)))) in
    ap (λ (m : ℕ). filter test (range_with_len 0 m)) same
    ∙ ap (filter test) (range_with_len-append 0 (j + 1) (n - (j + 1)))
    ∙ filter-append test (range_with_len 0 (j + 1)) (range_with_len (0 + (j + 1)) (n - (j + 1)))
    ∙ ap (λ (r : List ℕ). filter test (range_with_len 0 (j + 1)) ++ r) high ∙ append-nil (filter test (range_with_len 0 (j + 1)))
    ∙ ap (filter test) (range_with_len-more j) ∙ filter-append test (range_with_len 0 j) (j ∷ [])
    ∙ ap (λ (r : List ℕ). r ++ filter test (j ∷ [])) low ∙ here

-- whether a number is in a range
list_any-range_from : (x a n : ℕ) → list_any (λ r. r == x) (range_with_len a n) ≡ (nat_le a x && nat_lt x (a + n))
list_any-range_from x a zero = grind (arith, nat_tests)
list_any-range_from x a (suc n) =
    let rest = list_any-range_from x (a + 1) n in
    ap (λ (b : Bool). (a == x) || b) rest ∙ one a x n
  where
    one : (a x n : ℕ) → ((a == x) || (nat_le (a + 1) x && nat_lt x ((a + 1) + n))) ≡ (nat_le a x && nat_lt x (a + suc n))
    one a x n = grind (arith, nat_tests)

pub list_any-range : (x n : ℕ) → list_any (λ r. r == x) (range_with_len 0 n) ≡ nat_lt x n
list_any-range x n = list_any-range_from x 0 n ∙ one x n
  where
    one : (x n : ℕ) → (nat_le 0 x && nat_lt x (0 + n)) ≡ nat_lt x n
    one x n = grind (arith, nat_tests)
