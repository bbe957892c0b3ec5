-- Conditions without a fault fit, as a whole and split at their topmost ANDs.
use Rattle.std.proofs.Common.{◌≡◌, ℕ, Bool, true, false, List, [], ◌∷◌, ◌++◌, map, get_or, Option, Some, None, Result, Ok, Err, ℤ, refl, ap, sym, subst, ◌∙◌}
use Rattle.std.specs.Prelude.{All, IsSomeAnd}
use Rattle.std.specs.List.{flat_map, AllByRecursion as Each}
use Rattle.std.proofs.lemmas.Bool.{false≢true, eqb-true}
use Rattle.std.proofs.lemmas.List.Elements.{All-map, All-head, All-tail, All-nil, All-cons}
use Rattle.sq_value.specs.Relation.{HasKind}
use Rattle.sq_value.specs.declared.value.ColType.{ColType}
use Rattle.sq_value.specs.declared.value.Value.TheVariants as value
use Rattle.sq_value.specs.declared.value.ColType.TheVariants as kind
use Rattle.sq_value.specs.declared.value.Cmp.{Cmp}
use Rattle.sq_value.specs.declared.value.Cmp.TheVariants as cmp
use Rattle.sq_value.specs.declared.predicate.Kinds.{Kinds}
use Rattle.sq_parse.specs.declared.tree.Name.{Name}
use Rattle.sq_parse.specs.declared.tree.ColRef.{ColRef}
use Rattle.sq_parse.specs.declared.tree.RawTerm.{RawTerm}
use Rattle.sq_parse.specs.declared.tree.Operand.{Operand}
use Rattle.sq_parse.specs.declared.tree.Operand.TheVariants as o
use Rattle.sq_parse.specs.declared.tree.Tree.{Tree, Tree-F, map-Tree, ind-Tree, roll-Tree, out-roll-Tree, fold-roll-Tree, every_here-Tree, every_held-Tree}
use Rattle.sq_parse.specs.declared.tree.Tree.TheOpen as level
use Rattle.sq_parse.specs.Tree.{begin_of}
use Rattle.sq_expr.specs.Fits.{Class, Numbers, FitsSide, FitsArg, FitsHere}
use Rattle.sq_expr.specs.declared.cond.ColumnOf.{ColumnOf}
use Rattle.sq_expr.specs.declared.cond.Cond.{Cond, every-Cond}
use Rattle.sq_expr.specs.declared.cond.Cond.TheVariants as cond
use Rattle.sq_expr.proofs.FitLemmas as fit
use Rattle.sq_bind.specs.Visible.{Alias, meant}
use Rattle.sq_bind.specs.Operand.{alone, operand_faults, operand_class, column_faults, sum_faults, side_of, sum_arg, arg_of, found_column}
use Rattle.sq_bind.specs.Condition.{Calls, Split, negated_if, any_equal, at_least, at_most, equal_to, call_of, unsplit, between, split_at_level, split_of, is_kind, column_fits, sum_fits, arg_fits, mismatched, arg_faults, count_faults, typed_faults, call_faults, faults_of_call, faults_at_level, tree_faults}
use Rattle.sq_bind.specs.Sound.{IsSoundOperand, IsSoundHere, IsSoundTree}
use Rattle.sq_bind.specs.declared.conjunct.Placed.{Placed}
use Rattle.sq_bind.specs.declared.visible.Resolved.{Resolved}
use Rattle.sq_bind.specs.declared.fault.BindFault.{BindFault}
use Rattle.sq_bind.proofs.HeldLemmas.{AliasHas, meant_has, each_append}
use Rattle.sq_bind.proofs.OperandFits.{both_empty, each_empty, MayBe, side_fits, compared_fits}

-- ---- the parts of a sound tree are sound

abbrev bare : Tree-F ((z : Tree) × IsSoundTree z) → Tree-F Tree
bare = map-Tree ((z : Tree) × IsSoundTree z) Tree (λ e. e.0)

sound_not : (part : Tree) (y : Tree-F ((z : Tree) × IsSoundTree z)) → bare y ≡ level.Not part → IsSoundTree part
sound_not part (level.Compare at x how w) e = absurd cc
sound_not part (level.Between at n x w v) e = absurd cc
sound_not part (level.Within at n x xs) e = absurd cc
sound_not part (level.IsNull at n x) e = absurd cc
sound_not part (level.Call f xs) e = absurd cc
sound_not part (level.Not z) e = let same : z.0 ≡ part = cc in subst IsSoundTree same z.1
sound_not part (level.All zs) e = absurd cc
sound_not part (level.Any zs) e = absurd cc
sound_not part (level.Is z n t) e = absurd cc

sound_all : (parts : List Tree) (y : Tree-F ((z : Tree) × IsSoundTree z)) → bare y ≡ level.All parts → All IsSoundTree parts
sound_all parts (level.Compare at x how w) e = absurd cc
sound_all parts (level.Between at n x w v) e = absurd cc
sound_all parts (level.Within at n x xs) e = absurd cc
sound_all parts (level.IsNull at n x) e = absurd cc
sound_all parts (level.Call f xs) e = absurd cc
sound_all parts (level.Not z) e = absurd cc
sound_all parts (level.All zs) e =
    let same : map (λ (z : (z : Tree) × IsSoundTree z). z.0) zs ≡ parts = cc in
    subst (All IsSoundTree) same (All-map IsSoundTree (λ (z : (z : Tree) × IsSoundTree z). z.0) zs (λ k d h. (get_or zs k d).1))
sound_all parts (level.Any zs) e = absurd cc
sound_all parts (level.Is z n t) e = absurd cc

sound_any : (parts : List Tree) (y : Tree-F ((z : Tree) × IsSoundTree z)) → bare y ≡ level.Any parts → All IsSoundTree parts
sound_any parts (level.Compare at x how w) e = absurd cc
sound_any parts (level.Between at n x w v) e = absurd cc
sound_any parts (level.Within at n x xs) e = absurd cc
sound_any parts (level.IsNull at n x) e = absurd cc
sound_any parts (level.Call f xs) e = absurd cc
sound_any parts (level.Not z) e = absurd cc
sound_any parts (level.All zs) e = absurd cc
sound_any parts (level.Any zs) e =
    let same : map (λ (z : (z : Tree) × IsSoundTree z). z.0) zs ≡ parts = cc in
    subst (All IsSoundTree) same (All-map IsSoundTree (λ (z : (z : Tree) × IsSoundTree z). z.0) zs (λ k d h. (get_or zs k d).1))
sound_any parts (level.Is z n t) e = absurd cc

sound_is : (part : Tree) (n : Bool) (t : _) (y : Tree-F ((z : Tree) × IsSoundTree z)) → bare y ≡ level.Is part n t → IsSoundTree part
sound_is part n t (level.Compare at x how w) e = absurd cc
sound_is part n t (level.Between at m x w v) e = absurd cc
sound_is part n t (level.Within at m x xs) e = absurd cc
sound_is part n t (level.IsNull at m x) e = absurd cc
sound_is part n t (level.Call f xs) e = absurd cc
sound_is part n t (level.Not z) e = absurd cc
sound_is part n t (level.All zs) e = absurd cc
sound_is part n t (level.Any zs) e = absurd cc
sound_is part n t (level.Is z m u) e = let same : z.0 ≡ part = cc in subst IsSoundTree same z.1

-- ---- conditions

is_kind-true : (a b : ColType) → is_kind a b ≡ true → a ≡ b
is_kind-true kind.Integer kind.Integer e = refl
is_kind-true kind.Integer kind.Text e = absurd (false≢true e)
is_kind-true kind.Integer (kind.Decimal b) e = absurd (false≢true e)
is_kind-true kind.Text kind.Integer e = absurd (false≢true e)
is_kind-true kind.Text kind.Text e = refl
is_kind-true kind.Text (kind.Decimal b) e = absurd (false≢true e)
is_kind-true (kind.Decimal a) kind.Integer e = absurd (false≢true e)
is_kind-true (kind.Decimal a) kind.Text e = absurd (false≢true e)
is_kind-true (kind.Decimal a) (kind.Decimal b) e = ap kind.Decimal (eqb-true a b e)

module _ (calls : Calls) (has : ColumnOf → ColType → Type 0) (aliases : List Alias) (held : Each (AliasHas has) aliases) where
  abbrev pub FitsC : Cond → Type 0
  FitsC c = every-Cond (FitsHere calls.kinds has) c

  pub record Good (s : Split) : Type 0 where
    pub whole : FitsC s.whole
    pub conjuncts : Each (λ (p : Placed). FitsC p.cond) s.conjuncts

  good_one : (at : ℕ) (c : Cond) → FitsC c → Good (unsplit at c)
  good_one at c h = record { whole = h; conjuncts = (h, tt) }

  fits_not : (c : Cond) → FitsC c → FitsC (cond.Not c)
  fits_not c h = fit.made-Not (FitsHere calls.kinds has) c h tt

  fits_negated : (b : Bool) (c : Cond) → FitsC c → FitsC (negated_if b c)
  fits_negated true c h = fits_not c h
  fits_negated false c h = h

  fits_compare : (x : Operand) (how : Cmp) (y : Operand) (class : Class) → FitsSide has class (side_of aliases x) → FitsSide has class (side_of aliases y)
      → FitsC (cond.Compare (side_of aliases x) how (side_of aliases y))
  fits_compare x how y class h k = fit.made-Compare (FitsHere calls.kinds has) (side_of aliases x) how (side_of aliases y) (class, (h, k))

  abbrev side_fit : (x : Operand) → IsSoundOperand x → operand_faults aliases x ≡ [] → (class : Class) → MayBe has aliases held class (operand_class aliases x)
      → FitsSide has class (side_of aliases x)
  side_fit = side_fits has aliases held

  compare_good : (at : ℕ) (x : Operand) (how : Cmp) (y : Operand) → IsSoundOperand x → IsSoundOperand y → faults_at_level calls aliases (level.Compare at x how y) ≡ []
      → FitsC (cond.Compare (side_of aliases x) how (side_of aliases y))
  compare_good at x how y a b e =
      let h = compared_fits has aliases held at (x ∷ y ∷ []) e in
      fits_compare x how y h.1.0 (side_fit x a h.0.0 h.1.0 h.1.1.0) (side_fit y b h.0.1.0 h.1.0 h.1.1.1.0)

  both_fit : (c d : Cond) → FitsC c → FitsC d → FitsC (cond.All (c ∷ d ∷ []))
  both_fit c d h k =
      fit.made-All (FitsHere calls.kinds has) (c ∷ d ∷ []) (All-cons FitsC c (d ∷ []) h (All-cons FitsC d [] k (All-nil FitsC))) tt

  two_good : (at : ℕ) (n : Bool) (low high : Cond) → FitsC low → FitsC high → Good (between at n low high)
  two_good at true low high h k = record {
    whole = fits_not (cond.All (low ∷ high ∷ [])) (both_fit low high h k);
    conjuncts = (fits_not (cond.All (low ∷ high ∷ [])) (both_fit low high h k), tt);
  }
  two_good at false low high h k = record { whole = both_fit low high h k; conjuncts = (h, (k, tt)) }

  between_good : (at : ℕ) (n : Bool) (x y z : Operand) → IsSoundOperand x → IsSoundOperand y → IsSoundOperand z
      → faults_at_level calls aliases (level.Between at n x y z) ≡ [] → Good (between at n (at_least aliases x y) (at_most aliases x z))
  between_good at n x y z a b c e =
      let h = compared_fits has aliases held at (x ∷ y ∷ z ∷ []) e in
      two_good at n (at_least aliases x y) (at_most aliases x z)
      (fits_compare x cmp.Ge y h.1.0 (side_fit x a h.0.0 h.1.0 h.1.1.0) (side_fit y b h.0.1.0 h.1.0 h.1.1.1.0))
      (fits_compare x cmp.Le z h.1.0 (side_fit x a h.0.0 h.1.0 h.1.1.0) (side_fit z c h.0.1.1.0 h.1.0 h.1.1.1.1.0))

  equalities : (x : Operand) (xs : List Operand) (class : Class) → FitsSide has class (side_of aliases x) → All IsSoundOperand xs
      → Each (λ y. operand_faults aliases y ≡ []) xs → Each (MayBe has aliases held class) (map (operand_class aliases) xs) → All FitsC (map (equal_to aliases x) xs)
  equalities x [] class h sound e may = All-nil FitsC
  equalities x (y ∷ ys) class h sound e may =
      All-cons FitsC (equal_to aliases x y) (map (equal_to aliases x) ys)
      (fits_compare x cmp.Eq y class h (side_fit y (All-head IsSoundOperand y ys sound) e.0 class may.0))
      (equalities x ys class h (All-tail IsSoundOperand y ys sound) e.1 may.1)

  any_fits : (cs : List Cond) → All FitsC cs → FitsC (any_equal cs)
  any_fits [] h = fit.made-Any (FitsHere calls.kinds has) [] h tt
  any_fits (c ∷ []) h = All-head FitsC c [] h
  any_fits (c ∷ (d ∷ more)) h = fit.made-Any (FitsHere calls.kinds has) (c ∷ d ∷ more) h tt

  within_good : (at : ℕ) (n : Bool) (x : Operand) (xs : List Operand) → IsSoundOperand x → All IsSoundOperand xs
      → faults_at_level calls aliases (level.Within at n x xs) ≡ [] → FitsC (negated_if n (any_equal (map (equal_to aliases x) xs)))
  within_good at n x xs a b e =
      let h = compared_fits has aliases held at (x ∷ xs) e in
      fits_negated n (any_equal (map (equal_to aliases x) xs)) (any_fits (map (equal_to aliases x) xs)
      (equalities x xs h.1.0 (side_fit x a h.0.0 h.1.0 h.1.1.0) b h.0.1 h.1.1.1))

  some_class : (c : Option Class) → (class : Class) × MayBe has aliases held class c
  some_class None = (Numbers, tt)
  some_class (Some c) = (c, refl)

  null_good : (n : Bool) (x : Operand) → IsSoundOperand x → operand_faults aliases x ≡ [] → FitsC (negated_if n (cond.IsNull (side_of aliases x)))
  null_good n x a e =
      let c = some_class (operand_class aliases x) in
      fits_negated n (cond.IsNull (side_of aliases x)) (fit.made-IsNull (FitsHere calls.kinds has) (side_of aliases x) (c.0, side_fit x a e c.0 c.1))

  -- ---- calls

  column_arg : (k : ColType) (c : ColRef) → column_faults (meant aliases c) ≡ [] → column_fits k (meant aliases c) ≡ true → FitsArg has k (sum_arg aliases [] (Some c))
  column_arg k c e f = by (meant aliases c) refl e f
    where
      by : (r : Result Resolved BindFault) → meant aliases c ≡ r → column_faults r ≡ [] → column_fits k r ≡ true → FitsArg has k (sum_arg aliases [] (Some c))
      by (Ok m) is e f =
          let same = is_kind-true m.kind k f in
          subst (λ (k : ColType). FitsArg has k (sum_arg aliases [] (Some c))) same
          (subst (λ (r : Result Resolved BindFault). has (found_column r) m.kind) (sym is) (meant_has has aliases held c m is))
      by (Err g) is e f = absurd cc

  integer_arg : (k : ColType) (n : ℤ) → is_kind kind.Integer k ≡ true → HasKind k (value.Int n)
  integer_arg k n f = subst (λ (k : ColType). HasKind k (value.Int n)) (is_kind-true kind.Integer k f) tt

  sum_arg_fits : (k : ColType) (ts : List RawTerm) (c : Option ColRef) → sum_faults aliases ts c ≡ [] → sum_fits aliases k c ≡ true → FitsArg has k (sum_arg aliases ts c)
  sum_arg_fits k ts (Some c) e f = column_arg k c e f
  sum_arg_fits k ts None e f = integer_arg k _ f

  arg_good : (k : ColType) (x : Operand) → operand_faults aliases x ≡ [] → arg_fits aliases k x ≡ true → FitsArg has k (arg_of aliases x)
  unfolding operand_faults arg_of
  arg_good k (o.Null at) e f = tt
  arg_good k (o.Text at text) e f =
      subst (λ (k : ColType). FitsArg has k (arg_of aliases (o.Text at text))) (is_kind-true kind.Text k f) tt
  arg_good k (o.Sum at terms) e f = sum_arg_fits k terms (alone at terms) e f

  matched : (faults : List BindFault) (b : Bool) (at : ℕ) → faults ≡ [] → mismatched faults b at ≡ [] → b ≡ true
  matched [] true at e f = refl
  matched [] false at e f = absurd cc
  matched (g ∷ faults) b at e f = absurd cc

  arg_fit : (k : ColType) (x : Operand) → operand_faults aliases x ≡ [] → arg_faults aliases k x ≡ [] → FitsArg has k (arg_of aliases x)
  arg_fit k x e f = arg_good k x e (matched (operand_faults aliases x) (arg_fits aliases k x) (begin_of x) e f)

  call_good : (f : Name) (args : List Operand) → faults_of_call calls aliases f args ≡ [] → FitsC (call_of aliases (calls.number f.text) args)
  call_good f args e = numbered (calls.number f.text) args (both_empty (call_faults calls aliases f.at (calls.number f.text) args) _ e)
    where
      two : (number : ℕ) (k : Option Kinds) (x y : Operand) → calls.kinds number ≡ k → typed_faults aliases f.at k (x ∷ y ∷ []) ≡ []
          → operand_faults aliases x ≡ [] → operand_faults aliases y ≡ [] → FitsC (cond.Call number (arg_of aliases x) (arg_of aliases y))
      two number None x y is e a b = absurd cc
      two number (Some k) x y is e a b =
          let both = both_empty (arg_faults aliases k.first x) (arg_faults aliases k.second y) e in
          fit.made-Call (FitsHere calls.kinds has) number (arg_of aliases x) (arg_of aliases y)
          (subst (λ (q : Option Kinds). IsSomeAnd q (λ k. FitsArg has k.first (arg_of aliases x) × FitsArg has k.second (arg_of aliases y))) (sym is)
          (arg_fit k.first x a both.0, arg_fit k.second y b both.1))

      counted : (number : ℕ) (args : List Operand) → typed_faults aliases f.at (calls.kinds number) args ≡ [] → count_faults f.at args ≡ []
          → Each (λ x. operand_faults aliases x ≡ []) args → FitsC (call_of aliases (Some number) args)
      counted number [] e c h = absurd cc
      counted number (x ∷ []) e c h = absurd cc
      counted number (x ∷ (y ∷ [])) e c h = two number (calls.kinds number) x y refl e h.0 h.1.0
      counted number (x ∷ (y ∷ (z ∷ more))) e c h = absurd cc

      numbered : (o : Option ℕ) (args : List Operand) → (call_faults calls aliases f.at o args ≡ []) × ((count_faults f.at args ++ flat_map (operand_faults aliases) args) ≡ [])
          → FitsC (call_of aliases o args)
      numbered None args h = absurd (let e = h.0 in cc)
      numbered (Some number) args h =
          let both = both_empty (count_faults f.at args) (flat_map (operand_faults aliases) args) h.1 in
          counted number args h.0 both.0 (each_empty (operand_faults aliases) args both.1)

  -- ---- trees

  abbrev of : Tree → Split
  of = split_of calls aliases

  abbrev faults : Tree → List BindFault
  faults = tree_faults calls aliases

  abbrev Fine : Tree → Type 0
  Fine tree = IsSoundTree tree → faults tree ≡ [] → Good (of tree)

  abbrev part_seeing : Tree-F ((z : Tree) × Fine z) → Tree-F Tree
  part_seeing = map-Tree ((z : Tree) × Fine z) Tree (λ e. e.0)

  abbrev trees : List ((z : Tree) × Fine z) → List Tree
  trees zs = map (λ (e : (z : Tree) × Fine z). e.0) zs

  of-roll : (x : Tree-F Tree) → of (roll-Tree x) ≡ split_at_level calls aliases (map-Tree Tree Split of x)
  unfolding split_of
  of-roll x = fold-roll-Tree Split (split_at_level calls aliases) x

  faults-roll : (x : Tree-F Tree) → faults (roll-Tree x) ≡ faults_at_level calls aliases (map-Tree Tree (List BindFault) faults x)
  unfolding tree_faults
  faults-roll x = fold-roll-Tree (List BindFault) (faults_at_level calls aliases) x

  parts_good : (zs : List ((z : Tree) × Fine z)) → All IsSoundTree (trees zs) → flat_map (λ part. part) (map faults (trees zs)) ≡ []
      → All FitsC (map (λ (s : Split). s.whole) (map of (trees zs))) × Each (λ (p : Placed). FitsC p.cond) (flat_map (λ (s : Split). s.conjuncts) (map of (trees zs)))
  parts_good [] sound e = (All-nil FitsC, tt)
  parts_good (z ∷ zs) sound e =
      let both = both_empty (faults z.0) (flat_map (λ part. part) (map faults (trees zs))) e in
      let here = z.1 (All-head IsSoundTree z.0 (trees zs) sound) both.0 in
      let rest = parts_good zs (All-tail IsSoundTree z.0 (trees zs) sound) both.1 in (
        All-cons FitsC (of z.0).whole (map (λ (s : Split). s.whole) (map of (trees zs))) here.whole rest.0,
        each_append (λ (p : Placed). FitsC p.cond) (of z.0).conjuncts (flat_map (λ (s : Split). s.conjuncts) (map of (trees zs))) here.conjuncts rest.1,
      )

  level_good : (y : Tree-F ((z : Tree) × Fine z)) → Fine (roll-Tree (part_seeing y))
  level_good y sound e =
      let x = part_seeing y in
      let inner = every_held-Tree IsSoundHere (roll-Tree x) sound in
      subst Good (sym (of-roll x))
      (by y (subst IsSoundHere (out-roll-Tree x) (every_here-Tree IsSoundHere (roll-Tree x) sound)) inner.0 (inner.1 ∙ out-roll-Tree x) (sym (faults-roll x) ∙ e))
    where
      by : (y : Tree-F ((z : Tree) × Fine z)) → IsSoundHere (part_seeing y) → (w : Tree-F ((z : Tree) × IsSoundTree z)) → bare w ≡ part_seeing y
          → faults_at_level calls aliases (map-Tree Tree (List BindFault) faults (part_seeing y)) ≡ []
          → Good (split_at_level calls aliases (map-Tree Tree Split of (part_seeing y)))
      by (level.Compare at x how z) s w is e = good_one at _ (compare_good at x how z s.0 s.1 e)
      by (level.Between at n x y z) s w is e = between_good at n x y z s.0 s.1.0 s.1.1 e
      by (level.Within at n x xs) s w is e = good_one at _ (within_good at n x xs s.0 s.1 e)
      by (level.IsNull at n x) s w is e = good_one at _ (null_good n x s e)
      by (level.Call f xs) s w is e = good_one f.at _ (call_good f xs e)
      by (level.Not z) s w is e =
          let part = z.1 (sound_not z.0 w is) e in
          good_one (of z.0).at _ (fits_not (of z.0).whole part.whole)
      by (level.All zs) s w is e =
          let parts = parts_good zs (sound_all (trees zs) w is) e in
          record {
            whole = fit.made-All (FitsHere calls.kinds has) (map (λ (s : Split). s.whole) (map of (trees zs))) parts.0 tt;
            conjuncts = parts.1;
          }
      by (level.Any zs) s w is e =
          let parts = parts_good zs (sound_any (trees zs) w is) e in
          good_one _ _ (fit.made-Any (FitsHere calls.kinds has) (map (λ (s : Split). s.whole) (map of (trees zs))) parts.0 tt)
      by (level.Is z n t) s w is e =
          let part = z.1 (sound_is z.0 n t w is) e in
          good_one (of z.0).at _ (fits_negated n _ (fit.made-Is (FitsHere calls.kinds has) (of z.0).whole t part.whole tt))

  -- a sound tree without a fault
  pub tree_good : (tree : Tree) → IsSoundTree tree → faults tree ≡ [] → Good (of tree)
  tree_good = ind-Tree Fine (λ x y is. subst (λ (l : Tree-F Tree). Fine (roll-Tree l)) is (level_good y))
