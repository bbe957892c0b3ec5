-- A span holds exactly the aliases of its list.
use Rattle.std.proofs.Common.{◌≡◌, ◌↔◌, ◌⊎◌, inl, inr, ℕ, zero, suc, ◌+◌, ◌*◌, ◌/◌, ◌^◌, ◌<◌, ◌≤◌, Bool, true, false, ◌||◌, List, [], ◌∷◌, map, get_or, refl, ap, sym, ◌∙◌, arith, if◌then◌else◌}
use Rattle.std.specs.Prelude.{Contains, IsBitSet, ◌==◌}
use Rattle.std.specs.Int.{bit_at}
use Rattle.std.specs.List.{list_any, range_with_len}
use Rattle.std.proofs.lemmas.Bool.{false≢true, or_left, or_right, eq-eqb, eqb-true, cases_lt}
use Rattle.std.proofs.lemmas.Nat.{pow_pos}
use Rattle.std.proofs.lemmas.Nat.Bits.{and_pow, bit_at-suc, bit_at_lowest, bit_at-zero}
use Rattle.sq_bind.specs.Statement.{is_among, span_of}

-- ---- a word of bits, the lowest first

digit : Bool → ℕ
digit true = 1
digit false = 0

word : List Bool → ℕ
word [] = 0
word (b ∷ bs) = digit b + 2 * word bs

digit_low : (b : Bool) → digit b < 2
unfolding digit
digit_low true = omega arith
digit_low false = omega arith

bit_of_word : (bs : List Bool) (k : ℕ) → bit_at (word bs) k ≡ digit (get_or bs k false)
unfolding word digit
bit_of_word [] k = bit_at-zero k
bit_of_word (b ∷ bs) zero = bit_at_lowest (digit b + 2 * word bs) ∙ (let low = digit_low b in omega (arith, low))
bit_of_word (b ∷ bs) (suc k) =
    bit_at-suc (digit b + 2 * word bs) k
    ∙ ap (λ (n : ℕ). bit_at n k) (let low = digit_low b in let half : (digit b + 2 * word bs) / 2 ≡ word bs = omega (arith, low) in half)
    ∙ bit_of_word bs k

-- ---- membership

member : (xs : List ℕ) (a : ℕ) → is_among a xs ≡ true → Contains xs a
member [] a h = absurd (false≢true h)
member (x ∷ xs) a h = by (x == a) refl (member xs a)
  where
    behind : Contains xs a → Contains (x ∷ xs) a
    behind (k, low, is) = (suc k, omega (arith, low), is)

    by : (b : Bool) → (x == a) ≡ b → (is_among a xs ≡ true → Contains xs a) → Contains (x ∷ xs) a
    by true e rest = (0, omega arith, eqb-true x a e)
    by false e rest = behind (rest (sym (ap (λ (b : Bool). b || is_among a xs) e) ∙ h))

is_member : (xs : List ℕ) (a : ℕ) → Contains xs a → list_any (λ x. x == a) xs ≡ true
is_member [] a (k, low, is) = absurd (omega (arith, low))
is_member (x ∷ xs) a (zero, low, is) = or_left (x == a) (list_any (λ x. x == a) xs) (eq-eqb x a is)
is_member (x ∷ xs) a (suc k, low, is) = or_right (x == a) (list_any (λ x. x == a) xs) (is_member xs a (k, omega (arith, low), is))

-- ---- the twelve bits

bit_value : (b : Bool) (n : ℕ) → (if b then n else 0) ≡ n * digit b
unfolding digit
bit_value true n = omega arith
bit_value false n = omega arith

abbrev marks_of : List ℕ → List Bool
marks_of xs = map (λ (a : ℕ). list_any (λ x. x == a) xs) (range_with_len 0 12)

span_is_word : (xs : List ℕ) → span_of xs ≡ word (marks_of xs)
unfolding word
span_is_word xs =
    let d = λ (a : ℕ). digit (list_any (λ (x : ℕ). x == a) xs) in
    let v = λ (a : ℕ). bit_value (list_any (λ (x : ℕ). x == a) xs) (2 ^ a) in
    omega (arith, v 0, v 1, v 2, v 3, v 4, v 5, v 6, v 7, v 8, v 9, v 10, v 11)

marked_at : (xs : List ℕ) (a k n : ℕ) → k < n → get_or (map (λ (a : ℕ). list_any (λ x. x == a) xs) (range_with_len a n)) k false ≡ list_any (λ x. x == (a + k)) xs
marked_at xs a k zero low = absurd (omega (arith, low))
marked_at xs a zero (suc n) low = ap (λ (b : ℕ). list_any (λ x. x == b) xs) (omega arith)
marked_at xs a (suc k) (suc n) low =
    marked_at xs (a + 1) k n (omega (arith, low)) ∙ ap (λ (b : ℕ). list_any (λ x. x == b) xs) (omega arith)

marked_past : (xs : List ℕ) (a k n : ℕ) → n ≤ k → get_or (map (λ (a : ℕ). list_any (λ x. x == a) xs) (range_with_len a n)) k false ≡ false
marked_past xs a k zero past = refl
marked_past xs a zero (suc n) past = absurd (omega (arith, past))
marked_past xs a (suc k) (suc n) past = marked_past xs (a + 1) k n (omega (arith, past))

bit_in_span : (xs : List ℕ) (k : ℕ) → bit_at (span_of xs) k ≡ digit (get_or (marks_of xs) k false)
bit_in_span xs k = ap (λ (n : ℕ). bit_at n k) (span_is_word xs) ∙ bit_of_word (marks_of xs) k

pow_positive : (k : ℕ) → 1 * 2 ^ k ≡ 0 → ⊥
pow_positive k e = let h = pow_pos k in omega (arith, h, e)

pub span_holds : (xs : List ℕ) → ((a : ℕ) → Contains xs a → a < 12) → (a : ℕ) → (IsBitSet (span_of xs) a ↔ Contains xs a)
unfolding digit
span_holds xs low a = (to, from)
  where
    to : IsBitSet (span_of xs) a → Contains xs a
    to set' = by (cases_lt a 12) (get_or (marks_of xs) a false) refl
      where
        unset : digit (get_or (marks_of xs) a false) ≡ 0 → ⊥
        unset z = set' (and_pow (span_of xs) a ∙ ap (λ (n : ℕ). n * 2 ^ a) (bit_in_span xs a ∙ z) ∙ (omega arith))

        by : (a < 12) ⊎ (12 ≤ a) → (b : Bool) → get_or (marks_of xs) a false ≡ b → Contains xs a
        by (inl h) true e = member xs a (sym (marked_at xs 0 a 12 h ∙ ap (λ (n : ℕ). list_any (λ x. x == n) xs) (omega arith)) ∙ e)
        by (inr h) true e = absurd (false≢true (sym (marked_past xs 0 a 12 h) ∙ e))
        by h false e = absurd (unset (ap digit e))

    from : Contains xs a → IsBitSet (span_of xs) a
    from h unset =
        let marked : get_or (marks_of xs) a false ≡ true =
        marked_at xs 0 a 12 (low a h) ∙ ap (λ (n : ℕ). list_any (λ x. x == n) xs) (omega arith) ∙ is_member xs a h in
        let one : bit_at (span_of xs) a ≡ 1 = bit_in_span xs a ∙ ap digit marked in
        pow_positive a (sym (and_pow (span_of xs) a ∙ ap (λ (n : ℕ). n * 2 ^ a) one) ∙ unset)
