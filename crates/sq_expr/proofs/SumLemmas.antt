-- Sums of a condition stay within 128 bits.
use Rattle.std.proofs.Common.{◌≡◌, ℕ, ◌+◌, ◌*◌, ◌^◌, Option, Some, None, ◌<◌, ◌≤◌, ℤ, pos, negsuc, ◌+ℤ◌, ◌*ℤ◌, ◌≤ℤ◌, neg_ℤ, refl, ap, sym, ◌∙◌, arith, FitsSigned, w64, to_z, of_z, List, [], ◌∷◌, drop, length, get_or}
use Rattle.std.specs.Prelude.{unsigned_abs}
use Rattle.std.specs.Int.{w128}
use Rattle.std.proofs.lemmas.List.{drop_more}
use Rattle.std.proofs.Math.Nat.{mul-le-mul}
use Rattle.std.proofs.lemmas.Int.{ints, unsigned_abs-mul, to_z-of_z, fits_signed_mul}
use Rattle.sq_value.specs.declared.value.Value.{Value}
use Rattle.sq_expr.specs.Meaning.{plus, term_number, sum_number}
use Rattle.sq_expr.specs.declared.cond.ColumnOf.{ColumnOf}
use Rattle.sq_expr.specs.declared.cond.Term.{Term}

-- a number of this absolute value lies between its negative and it
pub within_abs : (z : ℤ) (m : ℕ) → unsigned_abs z ≤ m → (neg_ℤ (pos m) ≤ℤ z) × (z ≤ℤ pos m)
within_abs (pos n) m h = (omega (arith, ints), omega (arith, ints))
within_abs (negsuc n) m h = (omega (arith, ints), omega (arith, ints))

-- a number of this absolute value fits into 128 bits
pub number_fits : (z : ℤ) → unsigned_abs z ≤ 2 ^ 63 * 1000000 → FitsSigned w128 z
number_fits (pos n) h = omega (arith, ints)
number_fits (negsuc n) h = omega (arith, ints)

-- a factor of 31 bits times a number of millionths
pub product_within : (factor n : ℤ) → unsigned_abs factor ≤ 2147483647 → unsigned_abs n ≤ 2 ^ 63 * 1000000
    → (neg_ℤ (pos (2 ^ 114)) ≤ℤ (factor *ℤ n)) × ((factor *ℤ n) ≤ℤ pos (2 ^ 114))
product_within factor n f h =
    let e = unsigned_abs-mul factor n in
    let b = mul-le-mul f h in
    let c : unsigned_abs (factor *ℤ n) ≤ 2 ^ 114 = omega (arith, e, b) in
    within_abs (factor *ℤ n) (2 ^ 114) c

-- the product that the code computes, read as numbers
pub product_read : (f n a : ℤ) → FitsSigned w64 f → FitsSigned w128 n → a ≡ to_z w64 (of_z w64 f)
    → unsigned_abs f ≤ 2147483647 → unsigned_abs n ≤ 2 ^ 63 * 1000000
    → to_z w128 (of_z w128 (to_z w128 (of_z w128 a) *ℤ to_z w128 (of_z w128 n))) ≡ f *ℤ n
product_read f n a p q e m h =
    let x : a ≡ f = e ∙ to_z-of_z w64 f p in
    let fits : FitsSigned w128 (f *ℤ n) = fits_signed_mul w128 f n 2147483647 (2 ^ 63 * 1000000) m h (omega arith) in
    let s : to_z w128 (of_z w128 a) ≡ f = ap (λ z. to_z w128 (of_z w128 z)) x ∙ to_z-of_z w128 f (wider f p) in
    rw (s, to_z-of_z w128 n q) (to_z-of_z w128 (f *ℤ n) fits)
  where
    wider : (z : ℤ) → FitsSigned w64 z → FitsSigned w128 z
    wider z k = omega (arith, ints)

-- three numbers add up in any order
plus_assoc : (a b : ℤ) (v : Option ℤ) → plus (Some a) (plus (Some b) v) ≡ plus (Some (a +ℤ b)) v
plus_assoc a b (Some c) = let e : (a +ℤ (b +ℤ c)) ≡ ((a +ℤ b) +ℤ c) = omega (arith, ints) in ap (λ (n : ℤ). Some n) e
plus_assoc a b None = refl

zero_plus : (x y : Option ℤ) → plus (Some (pos 0)) (plus x y) ≡ plus x y
zero_plus (Some a) (Some b) = let e : (pos 0 +ℤ (a +ℤ b)) ≡ (a +ℤ b) = omega (arith, ints) in ap (λ (n : ℤ). Some n) e
zero_plus (Some a) None = refl
zero_plus None y = refl

module _ (at : ColumnOf → Value) where
  -- nothing is added yet
  pub sum_begins : (ts : List Term) → plus (Some (pos 0)) (sum_number at ts) ≡ sum_number at ts
  sum_begins [] = refl
  sum_begins (t ∷ ts) = zero_plus (term_number at t.factor t.column) (sum_number at ts)

  -- the next term is added
  pub sum_step : (ts : List Term) (i : ℕ) (d : Term) (s n z : ℤ) → i < length ts
      → Some n ≡ term_number at (get_or ts i d).factor (get_or ts i d).column → z ≡ s +ℤ n
      → plus (Some s) (sum_number at (drop i ts)) ≡ sum_number at ts → plus (Some z) (sum_number at (drop (i + 1) ts)) ≡ sum_number at ts
  sum_step ts i d s n z h is e so_far =
      let rest = sum_number at (drop (i + 1) ts) in
      let back = ap (sum_number at) (sym (drop_more ts i d h)) in
      ap (λ (y : ℤ). plus (Some y) rest) e ∙ sym (plus_assoc s n rest) ∙ ap (λ (v : Option ℤ). plus (Some s) (plus v rest)) is
      ∙ ap (plus (Some s)) back
      ∙ so_far
