-- Operands without a fault fit.
use Rattle.std.proofs.Common.{◌≡◌, ℕ, zero, suc, ◌≤◌, Bool, true, false, List, [], ◌∷◌, ◌++◌, length, map, Option, Some, None, Result, Ok, Err, ℤ, pos, refl, sym, subst, ◌∙◌, arith, if◌then◌else◌}
use Rattle.std.specs.Prelude.{All, slice_get, IfSome, unwrap_or, unsigned_abs, ⊤}
use Rattle.std.specs.List.{flat_map, list_any, AllByRecursion as Each}
use Rattle.std.specs.Option.{option_map}
use Rattle.std.proofs.lemmas.Bool.{false≢true, and_from}
use Rattle.std.proofs.lemmas.List.{length-map}
use Rattle.std.proofs.lemmas.List.Elements.{All-head, All-tail, All-nil, All-cons}
use Rattle.sq_value.specs.declared.value.ColType.{ColType}
use Rattle.sq_value.specs.declared.value.ColType.TheVariants as kind
use Rattle.sq_parse.specs.declared.tree.ColRef.{ColRef}
use Rattle.sq_parse.specs.declared.tree.RawTerm.{RawTerm}
use Rattle.sq_parse.specs.declared.tree.Operand.{Operand}
use Rattle.sq_parse.specs.declared.tree.Operand.TheVariants as o
use Rattle.sq_parse.specs.Tree.{column_place}
use Rattle.sq_expr.specs.Fits.{Class, Numbers, Texts, class_of, HasClass, FitsTerm, FitsSide}
use Rattle.sq_expr.specs.declared.cond.ColumnOf.{ColumnOf}
use Rattle.sq_expr.specs.declared.cond.Term.{Term}
use Rattle.sq_bind.specs.Visible.{Alias, meant}
use Rattle.sq_bind.specs.Operand.{alone, is_text, column_faults, number_faults, term_faults, ninth_faults, sum_faults, operand_faults, column_class, sum_class, unless_faulty, form_class, operand_class, is_class, are_mixed, compared_faults, found_column, minus, factor_of, term_of, sum_side, side_of}
use Rattle.sq_bind.specs.Sound.{IsUpTo, IsSmall, IsSoundTerm, IsSoundOperand}
use Rattle.sq_bind.specs.declared.visible.Resolved.{Resolved}
use Rattle.sq_bind.specs.declared.fault.BindFault.{BindFault}
use Rattle.sq_bind.specs.declared.fault.BindFault.TheVariants.{TypeMismatch}
use Rattle.sq_bind.proofs.HeldLemmas.{AliasHas, meant_has}

-- ---- empty lists

pub both_empty : {X : Type 0} (xs ys : List X) → xs ++ ys ≡ [] → (xs ≡ []) × (ys ≡ [])
both_empty [] ys e = (refl, e)
both_empty (x ∷ xs) ys e = absurd cc

pub each_empty : {X Y : Type 0} (f : X → List Y) (xs : List X) → flat_map f xs ≡ [] → Each (λ x. f x ≡ []) xs
each_empty f [] e = tt
each_empty f (x ∷ xs) e = let both = both_empty (f x) (flat_map f xs) e in (both.0, each_empty f xs both.1)

-- ---- numbers

minus_small : (limit : ℕ) (z : ℤ) → IsUpTo limit z → unsigned_abs (minus z) ≤ limit
minus_small limit z (n, (is, low)) = subst (λ (y : ℤ). unsigned_abs (minus y) ≤ limit) (sym is) (by n low)
  where
    by : (n : ℕ) → n ≤ limit → unsigned_abs (minus (pos n)) ≤ limit
    by zero low = omega arith
    by (suc n) low = low

plain_small : (limit : ℕ) (z : ℤ) → IsUpTo limit z → unsigned_abs z ≤ limit
plain_small limit z (n, (is, low)) = subst (λ (y : ℤ). unsigned_abs y ≤ limit) (sym is) low

factor_small : (limit : ℕ) (t : RawTerm) → 1 ≤ limit → IfSome t.number (IsUpTo limit) → unsigned_abs (factor_of t) ≤ limit
factor_small limit t some h = by t.negative t.number h
  where
    by : (b : Bool) (o : Option ℤ) → IfSome o (IsUpTo limit)
        → unsigned_abs (if b then minus (unwrap_or o (pos 1)) else unwrap_or o (pos 1)) ≤ limit
    by true None h = minus_small limit (pos 1) (1, (refl, some))
    by false None h = some
    by true (Some z) h = minus_small limit z h
    by false (Some z) h = plain_small limit z h

module _ (has : ColumnOf → ColType → Type 0) (aliases : List Alias) (held : Each (AliasHas has) aliases) where
  -- a column without a fault, and its type
  record Means (c : ColRef) : Type 0 where
    m : Resolved
    is : meant aliases c ≡ Ok m
    fits : has m.column m.kind

  means : (c : ColRef) → column_faults (meant aliases c) ≡ [] → Means c
  means c e = by (meant aliases c) refl e
    where
      by : (r : Result Resolved BindFault) → meant aliases c ≡ r → column_faults r ≡ [] → Means c
      by (Ok m) is e = record { m = m; is = is; fits = meant_has has aliases held c m is }
      by (Err f) is e = absurd cc

  number_class : (k : ColType) → is_text k ≡ false → class_of k ≡ Numbers
  number_class kind.Integer e = refl
  number_class kind.Text e = absurd (false≢true (sym e))
  number_class (kind.Decimal s) e = refl

  number_means : (at : ℕ) (c : ColRef) → number_faults at (meant aliases c) ≡ [] → HasClass has Numbers (found_column (meant aliases c))
  number_means at c e = by (meant aliases c) refl e
    where
      in_class : (m : Resolved) → meant aliases c ≡ Ok m → (b : Bool) → is_text m.kind ≡ b → (if b then TypeMismatch at ∷ [] else []) ≡ []
          → HasClass has Numbers m.column
      in_class m is true f e = absurd cc
      in_class m is false f e = (m.kind, (meant_has has aliases held c m is, number_class m.kind f))

      by : (r : Result Resolved BindFault) → meant aliases c ≡ r → number_faults at r ≡ [] → HasClass has Numbers (found_column r)
      by (Ok m) is e = in_class m is (is_text m.kind) refl e
      by (Err f) is e = absurd cc

  term_fits : (t : RawTerm) → IsSoundTerm t → term_faults aliases t.column ≡ [] → FitsTerm has (term_of aliases t).factor (term_of aliases t).column
  term_fits t sound e = by t.column sound e
    where
      by : (c : Option ColRef) → IfSome t.number (IsSmall c) → term_faults aliases c ≡ []
          → FitsTerm has (factor_of t) (option_map (λ c. found_column (meant aliases c)) c)
      by None sound e = factor_small 9223372036854775807 t (omega arith) sound
      by (Some c) sound e = (factor_small 2147483647 t (omega arith) sound, number_means (column_place c) c e)

  abbrev Fits : Term → Type 0
  Fits t = FitsTerm has t.factor t.column

  terms_fit : (ts : List RawTerm) → All IsSoundTerm ts → Each (λ (t : RawTerm). term_faults aliases t.column ≡ []) ts → All Fits (map (term_of aliases) ts)
  terms_fit [] sound e = All-nil Fits
  terms_fit (t ∷ ts) sound e =
      All-cons Fits (term_of aliases t) (map (term_of aliases) ts) (term_fits t (All-head IsSoundTerm t ts sound) e.0)
      (terms_fit ts (All-tail IsSoundTerm t ts sound) e.1)

  few_terms : (ts : List RawTerm) (n : ℕ) → ninth_faults (slice_get ts n) ≡ [] → length ts ≤ n
  few_terms [] n e = omega arith
  few_terms (t ∷ ts) zero e = absurd cc
  few_terms (t ∷ ts) (suc n) e = let rest = few_terms ts n e in omega (arith, rest)

  -- the class of an operand may be this one: NULL is of each
  abbrev pub MayBe : Class → Option Class → Type 0
  MayBe class None = ⊤
  MayBe class (Some c) = class ≡ c

  sum_fits : (at : ℕ) (ts : List RawTerm) (c : Option ColRef) → IsSoundOperand (o.Sum at ts) → sum_faults aliases ts c ≡ []
      → (class : Class) → MayBe class (sum_class aliases c) → FitsSide has class (sum_side aliases ts c)
  sum_fits at ts (Some c) sound e class may =
      let m = means c e in
      let is : class ≡ class_of m.m.kind = subst (λ r. MayBe class (column_class r)) m.is may in
      subst (λ r. HasClass has class (found_column r)) (sym m.is) (m.m.kind, (m.fits, sym is))
  sum_fits at ts None sound e class may =
      let both = both_empty (flat_map (λ (t : RawTerm). term_faults aliases t.column) ts) (ninth_faults (slice_get ts 8)) e in (
        may,
        (let some = sound.0 in let same = length-map ts (term_of aliases) in omega (arith, some, same)),
        (let few = few_terms ts 8 both.1 in let same = length-map ts (term_of aliases) in omega (arith, few, same)),
        terms_fit ts sound.1 (each_empty (λ (t : RawTerm). term_faults aliases t.column) ts both.0),
      )

  form_fits : (x : Operand) → IsSoundOperand x → operand_faults aliases x ≡ [] → (class : Class) → MayBe class (form_class aliases x)
      → FitsSide has class (side_of aliases x)
  unfolding operand_faults side_of
  form_fits (o.Null at) sound e class may = tt
  form_fits (o.Text at text) sound e class may = may
  form_fits (o.Sum at terms) sound e class may = sum_fits at terms (alone at terms) sound e class may

  -- an operand without a fault is a side of its class
  pub side_fits : (x : Operand) → IsSoundOperand x → operand_faults aliases x ≡ [] → (class : Class) → MayBe class (operand_class aliases x)
      → FitsSide has class (side_of aliases x)
  unfolding operand_class
  side_fits x sound e class may =
      form_fits x sound e class (subst (λ (faults : List BindFault). MayBe class (unless_faulty faults (form_class aliases x))) e may)

  -- some class that none of the operands breaks
  no_numbers : (cs : List (Option Class)) → list_any (is_class Numbers) cs ≡ false → Each (MayBe Texts) cs
  no_numbers [] e = tt
  no_numbers (None ∷ cs) e = (tt, no_numbers cs e)
  no_numbers (Some Numbers ∷ cs) e = absurd (false≢true (sym e))
  no_numbers (Some Texts ∷ cs) e = (refl, no_numbers cs e)

  no_texts : (cs : List (Option Class)) → list_any (is_class Texts) cs ≡ false → Each (MayBe Numbers) cs
  no_texts [] e = tt
  no_texts (None ∷ cs) e = (tt, no_texts cs e)
  no_texts (Some Numbers ∷ cs) e = (refl, no_texts cs e)
  no_texts (Some Texts ∷ cs) e = absurd (false≢true (sym e))

  pub one_class : (cs : List (Option Class)) → are_mixed cs ≡ false → (class : Class) × Each (MayBe class) cs
  one_class cs e = by (list_any (is_class Numbers) cs) refl (list_any (is_class Texts) cs) refl
    where
      by : (a : Bool) → list_any (is_class Numbers) cs ≡ a → (b : Bool) → list_any (is_class Texts) cs ≡ b → (class : Class) × Each (MayBe class) cs
      by false f b g = (Texts, no_numbers cs f)
      by true f false g = (Numbers, no_texts cs g)
      by true f true g = absurd (false≢true (sym e ∙ and_from (list_any (is_class Numbers) cs) (list_any (is_class Texts) cs) f g))

  -- operands that are compared without a fault
  pub compared_fits : (at : ℕ) (xs : List Operand) → compared_faults aliases at xs ≡ []
      → Each (λ x. operand_faults aliases x ≡ []) xs × ((class : Class) × Each (MayBe class) (map (operand_class aliases) xs))
  compared_fits at xs e =
      let both = both_empty (flat_map (operand_faults aliases) xs) (if are_mixed (map (operand_class aliases) xs) then TypeMismatch at ∷ [] else []) e in
      (each_empty (operand_faults aliases) xs both.0, one_class (map (operand_class aliases) xs) (unmixed (are_mixed (map (operand_class aliases) xs)) refl both.1))
    where
      unmixed : (b : Bool) → are_mixed (map (operand_class aliases) xs) ≡ b → (if b then TypeMismatch at ∷ [] else []) ≡ [] → are_mixed (map (operand_class aliases) xs) ≡ false
      unmixed false f e = f
      unmixed true f e = absurd cc
