-- What fits by one reading of columns fits by another that holds of at least the columns that occur.
use Rattle.std.proofs.Common.{◌≡◌, ℕ, zero, suc, ◌<◌, List, [], ◌∷◌, length, map, get_or, Option, Some, None, refl, ap, subst, arith}
use Rattle.std.specs.Prelude.{All, Contains, IsSomeAnd}
use Rattle.std.specs.List.{concat, flat_map}
use Rattle.std.proofs.lemmas.List.Elements.{All-head, All-tail, Contains-append_left, Contains-append_right}
use Rattle.sq_value.specs.declared.value.ColType.{ColType}
use Rattle.sq_value.specs.declared.predicate.Kinds.{Kinds}
use Rattle.sq_expr.specs.declared.cond.ColumnOf.{ColumnOf}
use Rattle.sq_expr.specs.declared.cond.Term.{Term}
use Rattle.sq_expr.specs.declared.cond.Side.{Side}
use Rattle.sq_expr.specs.declared.cond.Side.TheVariants as side
use Rattle.sq_expr.specs.declared.cond.Arg.{Arg}
use Rattle.sq_expr.specs.declared.cond.Arg.TheVariants as arg
use Rattle.sq_expr.specs.declared.cond.Cond.{Cond, Cond-F, map-Cond, fold-roll-Cond, ind-Cond, roll-Cond, out-roll-Cond, every-Cond, every_here-Cond, every_made-Cond}
use Rattle.sq_expr.specs.declared.cond.Cond.TheOpen as level
use Rattle.sq_expr.specs.declared.cond.Cond.TheVariants as variants
use Rattle.sq_expr.specs.Fits.{Class, Numbers, HasClass, FitsHere, FitsSide, FitsArg, FitsTerm, aliases_of, aliases_at_level, side_aliases, arg_aliases, term_aliases}
use Rattle.sq_expr.proofs.FitLemmas.{every-Not, every-All, every-Any, every-Is}

-- what is in the list of one element is in the list of all
Contains-flat_map : {X : Type 0} (f : X → List ℕ) (xs : List X) (j : ℕ) (d : X) (a : ℕ) → j < length xs → Contains (f (get_or xs j d)) a → Contains (flat_map f xs) a
Contains-flat_map f [] j d a h m = absurd (omega arith)
Contains-flat_map f (x ∷ xs) zero d a h m = Contains-append_left (f x) (flat_map f xs) a m
Contains-flat_map f (x ∷ xs) (suc j) d a h m = Contains-append_right (f x) (flat_map f xs) a (Contains-flat_map f xs j d a (omega arith) m)

one_alone : (a : ℕ) → Contains (a ∷ []) a
one_alone a = (0, omega arith, refl)

-- the aliases of one level of a condition
pub aliases-at_level : (x : Cond-F Cond) → aliases_of (roll-Cond x) ≡ aliases_at_level (map-Cond Cond (List ℕ) aliases_of x)
unfolding aliases_of
aliases-at_level x = fold-roll-Cond (List ℕ) aliases_at_level x

module _ (kinds : ℕ → Option Kinds) (has also : ColumnOf → ColType → Type 0) where
  -- where a column of these aliases is of a type by the first reading, it is by the second
  abbrev Holds : List ℕ → Type 0
  Holds aliases = (c : ColumnOf) (k : ColType) → Contains aliases c.alias → has c k → also c k

  class_also : (class : Class) (c : ColumnOf) → Holds (c.alias ∷ []) → HasClass has class c → HasClass also class c
  class_also class c p f = (f.0, (p c f.0 (one_alone c.alias) f.1.0, f.1.1))

  term_also : (t : Term) → Holds (term_aliases t.column) → FitsTerm has t.factor t.column → FitsTerm also t.factor t.column
  term_also t p f = by t.column p f
    where
      by : (o : Option ColumnOf) → Holds (term_aliases o) → FitsTerm has t.factor o → FitsTerm also t.factor o
      by None p f = f
      by (Some c) p f = (f.0, class_also Numbers c p f.1)

  side_also : (k : Class) (s : Side) → Holds (side_aliases s) → FitsSide has k s → FitsSide also k s
  side_also k side.Null p f = f
  side_also k (side.Text t) p f = f
  side_also k (side.Column c) p f = class_also k c p f
  side_also k (side.Sum terms) p f = (
    f.0,
    f.1,
    f.2,
    λ j d h. term_also (get_or terms j d)
        (λ c k m. p c k (Contains-flat_map (λ (t : Term). term_aliases t.column) terms j d c.alias h m)) (f.3 j d h),
  )

  arg_also : (k : ColType) (a : Arg) → Holds (arg_aliases a) → FitsArg has k a → FitsArg also k a
  arg_also k (arg.Literal v) p f = f
  arg_also k (arg.Column c) p f = p c k (one_alone c.alias) f

  -- one level
  here_also : (x : Cond-F Cond) → Holds (aliases_at_level (map-Cond Cond (List ℕ) aliases_of x)) → FitsHere kinds has x → FitsHere kinds also x
  here_also (level.Compare a how b) p f = (
    f.0,
    (
      side_also f.0 a (λ c k m. p c k (Contains-append_left (side_aliases a) (side_aliases b) c.alias m)) f.1.0,
      side_also f.0 b (λ c k m. p c k (Contains-append_right (side_aliases a) (side_aliases b) c.alias m)) f.1.1,
    ),
  )
  here_also (level.IsNull a) p f = (f.0, side_also f.0 a p f.1)
  here_also (level.Call number a b) p f = by (kinds number) f
    where
      by : (o : Option Kinds) → IsSomeAnd o (λ k. FitsArg has k.first a × FitsArg has k.second b) → IsSomeAnd o (λ k. FitsArg also k.first a × FitsArg also k.second b)
      by None f = f
      by (Some k) f = (
        arg_also k.first a (λ c j m. p c j (Contains-append_left (arg_aliases a) (arg_aliases b) c.alias m)) f.0,
        arg_also k.second b (λ c j m. p c j (Contains-append_right (arg_aliases a) (arg_aliases b) c.alias m)) f.1,
      )
  here_also (level.Not part) p f = f
  here_also (level.All parts) p f = f
  here_also (level.Any parts) p f = f
  here_also (level.Is part named) p f = f

  abbrev Before : Cond → Type 0
  Before = every-Cond (FitsHere kinds has)

  abbrev After : Cond → Type 0
  After = every-Cond (FitsHere kinds also)

  abbrev Goes : Cond → Type 0
  Goes c = Before c → Holds (aliases_of c) → After c

  abbrev part_of : Cond-F ((z : Cond) × Goes z) → Cond-F Cond
  part_of = map-Cond ((z : Cond) × Goes z) Cond (λ e. e.0)

  each_part : (zs : List ((z : Cond) × Goes z)) → All Before (map (λ e. e.0) zs) → Holds (concat (map aliases_of (map (λ e. e.0) zs)))
      → (ys : List ((z : Cond) × After z)) × (map (λ e. e.0) ys ≡ map (λ e. e.0) zs)
  each_part [] h p = ([], refl)
  each_part (z ∷ zs) h p =
      let rest = map (λ (e : (z : Cond) × Goes z). e.0) zs in
      let first = z.1 (All-head Before z.0 rest h) (λ c k m. p c k (Contains-append_left (aliases_of z.0) (concat (map aliases_of rest)) c.alias m)) in
      let others = each_part zs (All-tail Before z.0 rest h) (λ c k m. p c k (Contains-append_right (aliases_of z.0) (concat (map aliases_of rest)) c.alias m)) in
      ((z.0, first) ∷ others.0, ap (λ (cs : List Cond). z.0 ∷ cs) others.1)

  -- the topmost level, where each part goes
  goes_here : (y : Cond-F ((z : Cond) × Goes z)) → Goes (roll-Cond (part_of y))
  goes_here y h p =
      let x = part_of y in
      let top : FitsHere kinds has x = subst (FitsHere kinds has) (out-roll-Cond x) (every_here-Cond (FitsHere kinds has) (roll-Cond x) h) in
      let over : Holds (aliases_at_level (map-Cond Cond (List ℕ) aliases_of x)) = subst Holds (aliases-at_level x) p in
      by y h over (here_also x over top)
    where
      by : (y : Cond-F ((z : Cond) × Goes z)) → Before (roll-Cond (part_of y))
          → Holds (aliases_at_level (map-Cond Cond (List ℕ) aliases_of (part_of y))) → FitsHere kinds also (part_of y) → After (roll-Cond (part_of y))
      by (level.Compare a how b) h p f = every_made-Cond (FitsHere kinds also) (level.Compare a how b) (level.Compare a how b) refl f
      by (level.IsNull a) h p f = every_made-Cond (FitsHere kinds also) (level.IsNull a) (level.IsNull a) refl f
      by (level.Call n a b) h p f = every_made-Cond (FitsHere kinds also) (level.Call n a b) (level.Call n a b) refl f
      by (level.Not z) h p f =
          let part = z.1 (every-Not (FitsHere kinds has) _ z.0 (variants.rolls-Not z.0) h) p in
          every_made-Cond (FitsHere kinds also) (level.Not z.0) (level.Not (z.0, part)) refl f
      by (level.All zs) h p f =
          let parts = each_part zs (every-All (FitsHere kinds has) _ _ (variants.rolls-All (map (λ e. e.0) zs)) h) p in
          every_made-Cond (FitsHere kinds also) (level.All (map (λ e. e.0) zs)) (level.All parts.0) (ap level.All parts.1) f
      by (level.Any zs) h p f =
          let parts = each_part zs (every-Any (FitsHere kinds has) _ _ (variants.rolls-Any (map (λ e. e.0) zs)) h) p in
          every_made-Cond (FitsHere kinds also) (level.Any (map (λ e. e.0) zs)) (level.Any parts.0) (ap level.Any parts.1) f
      by (level.Is z named) h p f =
          let part = z.1 (every-Is (FitsHere kinds has) _ z.0 named (variants.rolls-Is z.0 named) h) p in
          every_made-Cond (FitsHere kinds also) (level.Is z.0 named) (level.Is (z.0, part) named) refl f

  -- a condition that fits by the first reading fits by the second
  pub every-also : (c : Cond) → every-Cond (FitsHere kinds has) c
      → ((col : ColumnOf) (k : ColType) → Contains (aliases_of c) col.alias → has col k → also col k) → every-Cond (FitsHere kinds also) c
  every-also = ind-Cond Goes (λ x y is. subst (λ (l : Cond-F Cond). Goes (roll-Cond l)) is (goes_here y))
