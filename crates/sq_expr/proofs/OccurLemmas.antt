-- An alias that occurs in a condition that fits has a column there.
use Rattle.std.proofs.Common.{◌≡◌, ⊎_elim, ℕ, zero, suc, ◌<◌, List, [], ◌∷◌, ◌++◌, length, map, Option, Some, None, ap, subst, ◌∙◌, arith}
use Rattle.std.specs.Prelude.{All, Contains, IsSomeAnd, slice_get, option_and_then}
use Rattle.std.specs.List.{concat, flat_map}
use Rattle.std.proofs.lemmas.List.Elements.{All-head, All-tail, Contains-append_cases}
use Rattle.std.proofs.lemmas.Option.{slice_get_within, option_and_then_some}
use Rattle.sq_value.specs.Relation.{Relation}
use Rattle.sq_value.specs.declared.value.ColType.{ColType}
use Rattle.sq_value.specs.declared.predicate.Kinds.{Kinds}
use Rattle.sq_expr.specs.declared.cond.ColumnOf.{ColumnOf}
use Rattle.sq_expr.specs.declared.cond.Term.{Term}
use Rattle.sq_expr.specs.declared.cond.Side.{Side}
use Rattle.sq_expr.specs.declared.cond.Side.TheVariants as side
use Rattle.sq_expr.specs.declared.cond.Arg.{Arg}
use Rattle.sq_expr.specs.declared.cond.Arg.TheVariants as arg
use Rattle.sq_expr.specs.declared.cond.Cond.{Cond, Cond-F, map-Cond, ind-Cond, roll-Cond, out-roll-Cond, every-Cond, every_here-Cond}
use Rattle.sq_expr.specs.declared.cond.Cond.TheOpen as level
use Rattle.sq_expr.specs.declared.cond.Cond.TheVariants as variants
use Rattle.sq_expr.specs.Fits.{Class, FitsCond, FitsHere, FitsSide, FitsArg, FitsTerm, kind_in, column_kind, aliases_of, aliases_at_level, side_aliases, arg_aliases, term_aliases}
use Rattle.sq_expr.proofs.FitLemmas.{every-Not, every-All, every-Any, every-Is}
use Rattle.sq_expr.proofs.WeakerLemmas.{aliases-at_level, every-also}

module _ (kinds : ℕ → Option Kinds) (has : ColumnOf → ColType → Type 0) where
  -- the alias has a column of some type
  pub record Occurs (alias : ℕ) : Type 0 where
    pub column : ColumnOf
    pub k : ColType
    pub of : column.alias ≡ alias
    pub fits : has column k

  only : (a b : ℕ) → Contains (a ∷ []) b → a ≡ b
  only a b (zero, h, e) = e
  only a b (suc k, h, e) = absurd (omega arith)

  term_occurs : (t : Term) (a : ℕ) → FitsTerm has t.factor t.column → Contains (term_aliases t.column) a → Occurs a
  term_occurs t a f m = by t.column f m
    where
      by : (o : Option ColumnOf) → FitsTerm has t.factor o → Contains (term_aliases o) a → Occurs a
      by None f m = absurd (omega (arith, m.1))
      by (Some c) f m = record { column = c; k = f.1.0; of = only c.alias a m; fits = f.1.1.0 }

  terms_occur : (ts : List Term) (a : ℕ) → All (λ (t : Term). FitsTerm has t.factor t.column) ts → Contains (flat_map (λ (t : Term). term_aliases t.column) ts) a → Occurs a
  terms_occur [] a f m = absurd (omega (arith, m.1))
  terms_occur (t ∷ ts) a f m =
      let fits = λ (t : Term). FitsTerm has t.factor t.column in
      ⊎_elim (λ here. term_occurs t a (All-head fits t ts f) here) (λ behind. terms_occur ts a (All-tail fits t ts f) behind)
      (Contains-append_cases (term_aliases t.column) (flat_map (λ (u : Term). term_aliases u.column) ts) a m)

  side_occurs : (k : Class) (s : Side) (a : ℕ) → FitsSide has k s → Contains (side_aliases s) a → Occurs a
  side_occurs k side.Null a f m = absurd (omega (arith, m.1))
  side_occurs k (side.Text t) a f m = absurd (omega (arith, m.1))
  side_occurs k (side.Column c) a f m = record { column = c; k = f.0; of = only c.alias a m; fits = f.1.0 }
  side_occurs k (side.Sum terms) a f m = terms_occur terms a f.3 m

  arg_occurs : (k : ColType) (x : Arg) (a : ℕ) → FitsArg has k x → Contains (arg_aliases x) a → Occurs a
  arg_occurs k (arg.Literal v) a f m = absurd (omega (arith, m.1))
  arg_occurs k (arg.Column c) a f m = record { column = c; k = k; of = only c.alias a m; fits = f }

  here_occurs : (n : ℕ) (x y : Arg) (a : ℕ) (o : Option Kinds) → IsSomeAnd o (λ k. FitsArg has k.first x × FitsArg has k.second y)
      → Contains (arg_aliases x ++ arg_aliases y) a → Occurs a
  here_occurs n x y a None f m = absurd f
  here_occurs n x y a (Some k) f m =
      ⊎_elim (λ here. arg_occurs k.first x a f.0 here) (λ there. arg_occurs k.second y a f.1 there)
      (Contains-append_cases (arg_aliases x) (arg_aliases y) a m)

  abbrev Fits : Cond → Type 0
  Fits = every-Cond (FitsHere kinds has)

  abbrev Has : Cond → Type 0
  Has c = Fits c → (a : ℕ) → Contains (aliases_of c) a → Occurs a

  abbrev part_of : Cond-F ((z : Cond) × Has z) → Cond-F Cond
  part_of = map-Cond ((z : Cond) × Has z) Cond (λ e. e.0)

  parts_occur : (zs : List ((z : Cond) × Has z)) → All Fits (map (λ e. e.0) zs) → (a : ℕ) → Contains (concat (map aliases_of (map (λ e. e.0) zs))) a → Occurs a
  parts_occur [] h a m = absurd (omega (arith, m.1))
  parts_occur (z ∷ zs) h a m =
      let rest = map (λ (e : (z : Cond) × Has z). e.0) zs in
      ⊎_elim (λ here. z.1 (All-head Fits z.0 rest h) a here) (λ behind. parts_occur zs (All-tail Fits z.0 rest h) a behind)
      (Contains-append_cases (aliases_of z.0) (concat (map aliases_of rest)) a m)

  level_occurs : (y : Cond-F ((z : Cond) × Has z)) → Has (roll-Cond (part_of y))
  level_occurs y h a m =
      let x = part_of y in
      let top : FitsHere kinds has x = subst (FitsHere kinds has) (out-roll-Cond x) (every_here-Cond (FitsHere kinds has) (roll-Cond x) h) in
      by y h top (subst (λ (l : List ℕ). Contains l a) (aliases-at_level x) m)
    where
      by : (y : Cond-F ((z : Cond) × Has z)) → Fits (roll-Cond (part_of y)) → FitsHere kinds has (part_of y)
          → Contains (aliases_at_level (map-Cond Cond (List ℕ) aliases_of (part_of y))) a → Occurs a
      by (level.Compare x how w) h f m =
          ⊎_elim (λ here. side_occurs f.0 x a f.1.0 here) (λ there. side_occurs f.0 w a f.1.1 there)
          (Contains-append_cases (side_aliases x) (side_aliases w) a m)
      by (level.IsNull x) h f m = side_occurs f.0 x a f.1 m
      by (level.Call n x w) h f m = here_occurs n x w a (kinds n) f m
      by (level.Not z) h f m = z.1 (every-Not (FitsHere kinds has) _ z.0 (variants.rolls-Not z.0) h) a m
      by (level.All zs) h f m = parts_occur zs (every-All (FitsHere kinds has) _ _ (variants.rolls-All (map (λ e. e.0) zs)) h) a m
      by (level.Any zs) h f m = parts_occur zs (every-Any (FitsHere kinds has) _ _ (variants.rolls-Any (map (λ e. e.0) zs)) h) a m
      by (level.Is z named) h f m = z.1 (every-Is (FitsHere kinds has) _ z.0 named (variants.rolls-Is z.0 named) h) a m

  pub every-occurs : (c : Cond) → every-Cond (FitsHere kinds has) c → (a : ℕ) → Contains (aliases_of c) a → Occurs a
  every-occurs = ind-Cond Has (λ x y is. subst (λ (l : Cond-F Cond). Has (roll-Cond l)) is (level_occurs y))

module _ (kinds : ℕ → Option Kinds) (tables : List Relation) (uses : List ℕ) (c : Cond) (fits : FitsCond kinds tables uses c) where
  -- an alias that occurs in a condition that fits is one of those that use a table
  pub alias-within : (a : ℕ) → Contains (aliases_of c) a → a < length uses
  alias-within a m =
      let o = every-occurs kinds (λ col k. kind_in tables uses col ≡ Some k) c fits a m in
      option_and_then_some (λ table. column_kind tables table o.column.column) (slice_get uses o.column.alias) o.k o.fits (λ table used of_table.
      subst (λ (n : ℕ). n < length uses) o.of (slice_get_within uses o.column.alias table used))

  -- a condition that fits does so where each of these aliases uses the same table
  pub FitsCond-uses : (more : List ℕ) → ((a table : ℕ) → slice_get uses a ≡ Some table → slice_get more a ≡ Some table) → FitsCond kinds tables more c
  FitsCond-uses more same =
      every-also kinds (λ col k. kind_in tables uses col ≡ Some k) (λ col k. kind_in tables more col ≡ Some k) c fits (λ col k m e.
      option_and_then_some (λ table. column_kind tables table col.column) (slice_get uses col.alias) k e (λ table used of_table.
      ap (λ (o : Option ℕ). option_and_then (λ table. column_kind tables table col.column) o) (same col.alias table used) ∙ of_table))
