-- The blocks of the tests fit their tables.
use Rattle.std.proofs.Common.{◌≡◌, ℕ, zero, suc, ◌/◌, ◌^◌, ◌<◌, ◌≤◌, inl, List, [], ◌∷◌, length, map, Some, refl, ap, sym, subst, ◌∙◌, arith}
use Rattle.std.specs.Prelude.{All, Contains, IsBitSet, IsSome, ◌↔◌, bit_and}
use Rattle.std.proofs.Math.Nat.{div-eq_of_lt}
use Rattle.std.proofs.Math.Pow.{pow_mono}
use Rattle.std.proofs.lemmas.Nat.{bit_set_by_shift}
use Rattle.std.proofs.lemmas.List.{length-map}
use Rattle.std.proofs.lemmas.List.Elements.{All-map, All-cons, All-nil}
use Rattle.sq_value.specs.declared.value.ColType.TheVariants as kind
use Rattle.sq_value.specs.declared.value.Cmp.TheVariants.{Lt}
use Rattle.sq_expr.specs.Fits.{Texts, IsFit, FitsAlias, FitsConjunct, FitsHere, kind_in}
use Rattle.sq_expr.specs.declared.cond.Side.TheVariants.{Column, Text}
use Rattle.sq_expr.specs.declared.block.AliasUse.{AliasUse}
use Rattle.sq_expr.specs.declared.block.OutCol.{OutCol}
use Rattle.sq_expr.specs.declared.block.OrderKey.{OrderKey}
use Rattle.sq_expr.specs.declared.block.Conjunct.{Conjunct}
use Rattle.sq_expr.proofs.FitLemmas.{aliases_of-Compare, aliases_of-IsNull, made-IsNull}
use Rattle.sq_expr.proofs.ColumnLemmas.{FitsCond-columns}
use Rattle.std.specs.Prelude.{codes}
use Rattle.worked_cases.specs.SampleBlocks.{sample_tables, no_kinds, scanned, sample_block, below, never, IsSample}

tables_scanned : (uses : List ℕ) → map (λ (u : AliasUse). u.table) (map scanned uses) ≡ uses
tables_scanned [] = refl
tables_scanned (u ∷ us) = ap (λ (r : List ℕ). u ∷ r) (tables_scanned us)

first_column : (uses : List ℕ) → 0 < length uses → All (λ table. table < 2) uses → IsSome (kind_in sample_tables uses record { alias = 0; column = 0 })
first_column [] h there = absurd (omega arith)
first_column (zero ∷ us) h there = refl
first_column (suc zero ∷ us) h there = refl
first_column (suc (suc u) ∷ us) h there =
    let low : suc (suc u) < 2 = there 0 0 (omega arith) in
    absurd (omega arith)

pub sample_fits : (uses : List ℕ) (conjuncts : List Conjunct) → IsSample uses conjuncts → IsFit no_kinds sample_tables (sample_block uses conjuncts)
sample_fits uses conjuncts s =
    let same = tables_scanned uses in
    let long = length-map uses scanned in
    record {
      some_alias = omega (arith, s.some, long);
      few_aliases = omega (arith, s.few, long);
      aliases = All-map (FitsAlias sample_tables) scanned uses (λ k d h. record { table = s.there k d h; reached = inl refl; look_up = tt });
      few_conjuncts = s.few_conjuncts;
      conjuncts = subst (λ (us : List ℕ). All (FitsConjunct no_kinds sample_tables us) conjuncts) (sym same) s.fit;
      some_output = omega arith;
      output = All-cons (λ (o : OutCol). IsSome (kind_in sample_tables (map (λ (u : AliasUse). u.table) (map scanned uses)) record { alias = o.alias; column = o.column })) _ []
          (subst (λ (us : List ℕ). IsSome (kind_in sample_tables us record { alias = 0; column = 0 })) (sym same) (first_column uses s.some s.there))
          (All-nil (λ (o : OutCol). IsSome (kind_in sample_tables (map (λ (u : AliasUse). u.table) (map scanned uses)) record { alias = o.alias; column = o.column })));
      order = All-nil (λ (k : OrderKey). IsSome (kind_in sample_tables (map (λ (u : AliasUse). u.table) (map scanned uses)) record { alias = k.alias; column = k.column }));
    }

-- the aliases 0 and 1 are those of the span 3
span_of_two : (a : ℕ) → (IsBitSet 3 a ↔ Contains (0 ∷ 1 ∷ []) a)
span_of_two zero = ((λ set. (0, omega arith, refl)), (λ m e. absurd cc))
span_of_two (suc zero) = ((λ set. (1, omega arith, refl)), (λ m e. absurd cc))
span_of_two (suc (suc k)) = ((λ set. absurd (no_bit ((bit_set_by_shift 3 (suc (suc k))).1 set))), (λ m. absurd (out_of m)))
  where
    high : 3 < 2 ^ suc (suc k)
    high = let four : 2 ^ 2 ≤ 2 ^ suc (suc k) = pow_mono {i = 2} {j = suc (suc k)} (omega arith) in omega arith

    no_bit : bit_and (3 / 2 ^ suc (suc k)) 1 ≡ 1 → ⊥
    no_bit e =
        let none : bit_and 0 1 ≡ 1 = sym (ap (λ (n : ℕ). bit_and n 1) (div-eq_of_lt high)) ∙ e in
        omega (arith, none)

    out_of : Contains (0 ∷ 1 ∷ []) (suc (suc k)) → ⊥
    out_of (zero, h, e) = absurd cc
    out_of (suc zero, h, e) = absurd cc
    out_of (suc (suc j), h, e) = absurd (omega arith)

span_of_none : (a : ℕ) → (IsBitSet 0 a ↔ Contains [] a)
span_of_none a = ((λ set. absurd (set refl)), (λ m. absurd (omega (arith, m.1))))

pub FitsConjunct-below : (more : List ℕ) → FitsConjunct no_kinds sample_tables (0 ∷ 0 ∷ more) below
FitsConjunct-below more = record {
  cond = FitsCond-columns no_kinds sample_tables (0 ∷ 0 ∷ more) record { alias = 0; column = 0 } Lt record { alias = 1; column = 0 } kind.Integer kind.Integer refl refl refl;
  span = λ a. subst (λ (l : List ℕ). (IsBitSet 3 a ↔ Contains l a)) (sym (aliases_of-Compare (Column record { alias = 0; column = 0 }) Lt (Column record { alias = 1; column = 0 }))) (span_of_two a);
}

pub FitsConjunct-never : (uses : List ℕ) → FitsConjunct no_kinds sample_tables uses never
FitsConjunct-never uses = record {
  cond = made-IsNull (FitsHere no_kinds (λ c k. kind_in sample_tables uses c ≡ Some k)) (Text (codes "a")) (Texts, refl);
  span = λ a. subst (λ (l : List ℕ). (IsBitSet 0 a ↔ Contains l a)) (sym (aliases_of-IsNull (Text (codes "a")))) (span_of_none a);
}

small : (uses : List ℕ) → All (λ table. table < 2) uses → (u : ℕ) → u < 2 → All (λ table. table < 2) (u ∷ uses)
small uses h u low = All-cons (λ table. table < 2) u uses low h

-- what the tests ask
pub pairs_are_a_sample : IsSample (0 ∷ 0 ∷ []) (below ∷ [])
pairs_are_a_sample = record {
  some = omega arith;
  few = omega arith;
  there = small (0 ∷ []) (small [] (All-nil (λ table. table < 2)) 0 (omega arith)) 0 (omega arith);
  few_conjuncts = omega arith;
  fit = All-cons (FitsConjunct no_kinds sample_tables (0 ∷ 0 ∷ [])) below [] (FitsConjunct-below []) (All-nil (FitsConjunct no_kinds sample_tables (0 ∷ 0 ∷ [])));
}

pub never_is_a_sample : IsSample (0 ∷ 0 ∷ []) (below ∷ never ∷ [])
never_is_a_sample = record {
  some = omega arith;
  few = omega arith;
  there = small (0 ∷ []) (small [] (All-nil (λ table. table < 2)) 0 (omega arith)) 0 (omega arith);
  few_conjuncts = omega arith;
  fit = All-cons (FitsConjunct no_kinds sample_tables (0 ∷ 0 ∷ [])) below (never ∷ []) (FitsConjunct-below []) (All-cons (FitsConjunct no_kinds sample_tables (0 ∷ 0 ∷ [])) never [] (FitsConjunct-never (0 ∷ 0 ∷ [])) (All-nil (FitsConjunct no_kinds sample_tables (0 ∷ 0 ∷ []))));
}

pub one_is_a_sample : IsSample (0 ∷ []) []
one_is_a_sample = record {
  some = omega arith;
  few = omega arith;
  there = small [] (All-nil (λ table. table < 2)) 0 (omega arith);
  few_conjuncts = omega arith;
  fit = All-nil (FitsConjunct no_kinds sample_tables (0 ∷ []));
}

pub empty_is_a_sample : IsSample (0 ∷ 1 ∷ []) []
empty_is_a_sample = record {
  some = omega arith;
  few = omega arith;
  there = small (1 ∷ []) (small [] (All-nil (λ table. table < 2)) 1 (omega arith)) 0 (omega arith);
  few_conjuncts = omega arith;
  fit = All-nil (FitsConjunct no_kinds sample_tables (0 ∷ 1 ∷ []));
}
