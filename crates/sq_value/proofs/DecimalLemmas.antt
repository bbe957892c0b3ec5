-- Reading a decimal number: where its point stands, and what its digits write.
use Rattle.std.proofs.Common.{◌≡◌, ℕ, ◌+◌, ◌-◌, ◌*◌, ◌<◌, ◌≤◌, ◌^◌, Bool, true, false, List, [], ◌∷◌, ◌++◌, length, take, drop, get_or, Option, Some, None, refl, ap, sym, ◌∙◌, subst, append_assoc, arith, leb}
use Rattle.std.specs.Prelude.{◌==◌, SomeIff}
use Rattle.std.specs.Char.{is_ascii_digit, digit_value}
use Rattle.std.specs.Str.Parse.{digits_value, digits_value_after}
use Rattle.std.proofs.lemmas.Bool.{leb-true, eqb-true}
use Rattle.std.proofs.lemmas.Str.{digit_value_digit}
use Rattle.std.proofs.lemmas.List.{append-nil, drop_more, drop_all, take_more, take_all, length-drop}
use Rattle.sq_value.specs.Numeral.{all_digits}
use Rattle.sq_value.proofs.NumeralLemmas.{both}
use Rattle.sq_value.specs.Decimal.{before_point, behind_point}

unequal : (b : ℕ) → ¬ (b ≡ 46) → (b == 46) ≡ false
unequal b h = by (b == 46) refl
  where
    by : (t : Bool) → (b == 46) ≡ t → (b == 46) ≡ false
    by true e = absurd (h (eqb-true b 46 e))
    by false e = e

-- the point stands first, or something else does
pub before_point-here : (bs : List ℕ) → before_point (46 ∷ bs) ≡ []
unfolding before_point
before_point-here bs = refl

pub behind_point-here : (bs : List ℕ) → behind_point (46 ∷ bs) ≡ Some bs
unfolding behind_point
behind_point-here bs = refl

pub before_point-later : (b : ℕ) (bs : List ℕ) → (b == 46) ≡ false → before_point (b ∷ bs) ≡ b ∷ before_point bs
unfolding before_point
before_point-later b bs e = rw e refl

pub behind_point-later : (b : ℕ) (bs : List ℕ) → (b == 46) ≡ false → behind_point (b ∷ bs) ≡ behind_point bs
unfolding behind_point
behind_point-later b bs e = rw e refl

pub before_point-none : before_point [] ≡ []
unfolding before_point
before_point-none = refl

pub behind_point-none : behind_point [] ≡ None
unfolding behind_point
behind_point-none = refl

-- digits that follow others
pub digits_value_after-append : (n : ℕ) (xs ys : List ℕ)
    → digits_value_after 10 n (xs ++ ys) ≡ digits_value_after 10 (digits_value_after 10 n xs) ys
digits_value_after-append n [] ys = refl
digits_value_after-append n (x ∷ xs) ys = digits_value_after-append (n * 10 + digit_value x) xs ys

-- more digits make no number less
pub digits_value_after-ge : (n : ℕ) (xs : List ℕ) → n ≤ digits_value_after 10 n xs
digits_value_after-ge n [] = omega arith
digits_value_after-ge n (x ∷ xs) =
    let more : n * 10 + digit_value x ≤ digits_value_after 10 (n * 10 + digit_value x) xs = digits_value_after-ge (n * 10 + digit_value x) xs in
    omega (arith, more)

-- a digit's value is its distance from the digit 0
pub digit_value-is : (d : ℕ) → is_ascii_digit d ≡ true → digit_value d + 48 ≡ d
digit_value-is d e = digit_value_digit d (ends d e)
  where
    ends : (d : ℕ) → is_ascii_digit d ≡ true → (48 ≤ d) × (d ≤ 57)
    ends d e = let h = both (leb 48 d) (leb d 57) e in (leb-true 48 d h.0, leb-true d 57 h.1)

-- a number whose product or sum with more is too large is too large
pub value_with-none : (v d : ℕ) (r : ℕ) → ¬ (v * 10 < 2 ^ 64) → ¬ (v * 10 + d < 2 ^ 64)
value_with-none v d r h k = h (omega (arith, k))

-- one digit further
pub value_after-step : (n : ℕ) (ds : List ℕ) (i v next : ℕ) → i < length ds
    → digits_value_after 10 v (drop i ds) ≡ n → next ≡ v * 10 + digit_value (get_or ds i 0) → digits_value_after 10 next (drop (i + 1) ds) ≡ n
value_after-step n ds i v next h e is =
    ap (λ (m : ℕ). digits_value_after 10 m (drop (i + 1) ds)) is
    ∙ ap (digits_value_after 10 v) (sym (drop_more ds i 0 h)) ∙ e

-- where one digit more is too large, all are
pub value_after-large : (n : ℕ) (ds : List ℕ) (i v : ℕ) → i < length ds
    → digits_value_after 10 v (drop i ds) ≡ n → ¬ (v * 10 + digit_value (get_or ds i 0) < 2 ^ 64) → ¬ (n < 2 ^ 64)
value_after-large n ds i v h e large small =
    let next = v * 10 + digit_value (get_or ds i 0) in
    let same : digits_value_after 10 next (drop (i + 1) ds) ≡ n = value_after-step n ds i v next h e refl in
    let more : next ≤ digits_value_after 10 next (drop (i + 1) ds) = digits_value_after-ge next (drop (i + 1) ds) in
    large (omega (arith, same, more, small))

-- the digits that are left are digits
pub all_digits-drop : (ds : List ℕ) (i : ℕ) → i < length ds → all_digits (drop i ds) ≡ true
    → (is_ascii_digit (get_or ds i 0) ≡ true) × (all_digits (drop (i + 1) ds) ≡ true)
all_digits-drop ds i h e = both _ _ (ap all_digits (sym (drop_more ds i 0 h)) ∙ e)

-- the first byte that is left, in front of the rest
module _ (ds : List ℕ) (i : ℕ) (h : i < length ds) where
  led : drop i ds ≡ get_or ds i 0 ∷ drop (i + 1) ds
  led = drop_more ds i 0 h

  -- it is the point
  pub here-before : get_or ds i 0 ≡ 46 → before_point ds ≡ take i ds ++ before_point (drop i ds) → take i ds ≡ before_point ds
  here-before is so_far =
      let first : before_point (drop i ds) ≡ [] =
      ap before_point (led ∙ ap (λ (c : ℕ). c ∷ drop (i + 1) ds) is) ∙ before_point-here (drop (i + 1) ds) in
      sym (so_far ∙ ap (λ (xs : List ℕ). take i ds ++ xs) first ∙ append-nil (take i ds))

  pub here-behind : get_or ds i 0 ≡ 46 → behind_point ds ≡ behind_point (drop i ds)
      → Some (take (length ds - (i + 1)) (drop (i + 1) ds)) ≡ behind_point ds
  here-behind is so_far =
      let rest : take (length ds - (i + 1)) (drop (i + 1) ds) ≡ drop (i + 1) ds = take_all _ _ (omega (arith, length-drop (i + 1) ds)) in
      ap (λ (xs : List ℕ). Some xs) rest
      ∙ sym (so_far ∙ ap behind_point (led ∙ ap (λ (c : ℕ). c ∷ drop (i + 1) ds) is) ∙ behind_point-here (drop (i + 1) ds))

  -- it is something else
  pub later-before : ¬ (get_or ds i 0 ≡ 46) → before_point ds ≡ take i ds ++ before_point (drop i ds)
      → before_point ds ≡ take (i + 1) ds ++ before_point (drop (i + 1) ds)
  later-before other so_far =
      let byte = get_or ds i 0 in
      let rest = before_point (drop (i + 1) ds) in
      let next : before_point (drop i ds) ≡ byte ∷ rest =
      ap before_point led ∙ before_point-later byte (drop (i + 1) ds) (unequal byte other) in
      so_far ∙ ap (λ (xs : List ℕ). take i ds ++ xs) next ∙ sym (append_assoc (take i ds) (byte ∷ []) rest)
      ∙ ap (λ (xs : List ℕ). xs ++ rest) (sym (take_more ds i 0 h))

  pub later-behind : ¬ (get_or ds i 0 ≡ 46) → behind_point ds ≡ behind_point (drop i ds) → behind_point ds ≡ behind_point (drop (i + 1) ds)
  later-behind other so_far =
      so_far ∙ ap behind_point led ∙ behind_point-later (get_or ds i 0) (drop (i + 1) ds) (unequal (get_or ds i 0) other)

-- no point was found
pub end-before : (ds : List ℕ) (i : ℕ) → length ds ≤ i → before_point ds ≡ take i ds ++ before_point (drop i ds) → ds ≡ before_point ds
end-before ds i h so_far =
    let none : before_point (drop i ds) ≡ [] = ap before_point (drop_all i ds h) ∙ before_point-none in
    sym (so_far ∙ ap (λ (xs : List ℕ). take i ds ++ xs) none ∙ append-nil (take i ds) ∙ take_all i ds h)

pub end-behind : (ds : List ℕ) (i : ℕ) → length ds ≤ i → behind_point ds ≡ behind_point (drop i ds) → None ≡ behind_point ds
end-behind ds i h so_far = sym (so_far ∙ ap behind_point (drop_all i ds h) ∙ behind_point-none)

-- two lists of digits as one
pub all_digits_value-Some : (whole fraction : List ℕ) (n : ℕ) (r : Option ℕ) → n ≡ digits_value_after 10 0 whole
    → SomeIff r (digits_value_after 10 n fraction < 2 ^ 64) (digits_value_after 10 n fraction)
    → SomeIff r (digits_value 10 (whole ++ fraction) < 2 ^ 64) (digits_value 10 (whole ++ fraction))
all_digits_value-Some whole fraction n r e h =
    let same : digits_value_after 10 n fraction ≡ digits_value 10 (whole ++ fraction) =
    ap (λ (m : ℕ). digits_value_after 10 m fraction) e ∙ sym (digits_value_after-append 0 whole fraction) in
    subst (λ (m : ℕ). SomeIff r (m < 2 ^ 64) m) same h

pub all_digits_value-None : (whole fraction : List ℕ) → ¬ (digits_value_after 10 0 whole < 2 ^ 64)
    → ¬ (digits_value 10 (whole ++ fraction) < 2 ^ 64)
all_digits_value-None whole fraction h k =
    let same = digits_value_after-append 0 whole fraction in
    let more = digits_value_after-ge (digits_value_after 10 0 whole) fraction in
    h (omega (arith, same, more, k))
