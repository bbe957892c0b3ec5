-- Numbering by keys, one key more.
use Rattle.std.proofs.Common.{◌≡◌, ℕ, Bool, true, false, cond, List, [], ◌∷◌, ◌++◌, length, Option, refl, ap, sym, ◌∙◌, subst}
use Rattle.std.specs.Prelude.{◌||◌, ◌&&◌, not, map, filter, replicate, All}
use Rattle.std.specs.List.{list_any, position_or_len, fold}
use Rattle.std.specs.Cmp.{IsEquivalence}
use Rattle.std.specs.Cmp.Lexicographic.{options_equiv}
use Rattle.std.specs.Cmp.Derive.{point_equiv}
use Rattle.std.proofs.lemmas.Bool.{false≢true}
use Rattle.std.proofs.lemmas.Cmp.{and_equiv, on_equiv, eq_by_cmp_equiv}
use Rattle.std.proofs.lemmas.List.Folds.{list_all-append}
use Rattle.std.proofs.lemmas.List.Elements.{All-cons, All-nil, All-weaker}
use Rattle.sq_value.specs.Rank.{Rank}
use Rattle.sq_value.proofs.OrderLemmas.{rank_cmp_total}
use Rattle.indexmap.specs.IndexSet.{insert_key, insert_all}
use Rattle.group_sink.specs.Cells.{is_same_rank}
use Rattle.group_sink.specs.Groups.{firsts}
use Rattle.group_sink.specs.Dense.{numbered}
use Rattle.group_sink.specs.Parts.{Pair, pairs, is_same_pair, has_same_ranks}
use Rattle.group_sink.proofs.KindLemmas.{firsts-seen}
use Rattle.group_sink.proofs.ViewLemmas.{numbered_agree, numbered_seen, one_number}

-- each element is of the kind of one of the firsts
module _ {X : Type 0} (same : X → X → Bool) (equal : IsEquivalence same) where
  any_left : (x y : X) (fs : List X) → same x y ≡ false → list_any (same y) fs ≡ true → list_any (same y) (filter (λ z. not (same x z)) fs) ≡ true
  any_left x y [] apart h = absurd (false≢true h)
  any_left x y (f ∷ fs) apart h = by (same x f) refl (same y f) refl h (any_left x y fs apart)
    where
      by : (a : Bool) → same x f ≡ a → (b : Bool) → same y f ≡ b → (b || list_any (same y) fs) ≡ true → (list_any (same y) fs ≡ true → list_any (same y) (filter (λ z. not (same x z)) fs) ≡ true)
          → list_any (same y) (cond (not a) (f ∷ filter (λ z. not (same x z)) fs) (filter (λ z. not (same x z)) fs)) ≡ true
      by true e true g h again =
          let kin : same x y ≡ true = equal.symm x y ∙ equal.congr y f x g ∙ equal.symm f x ∙ e in
          absurd (false≢true (sym apart ∙ kin))
      by true e false g h again = again h
      by false e true g h again = ap (λ (t : Bool). t || list_any (same y) (filter (λ z. not (same x z)) fs)) g
      by false e false g h again = ap (λ (t : Bool). t || list_any (same y) (filter (λ z. not (same x z)) fs)) g ∙ again h

  any_firsts : (xs : List X) → All (λ x. list_any (same x) (firsts same xs) ≡ true) xs
  any_firsts [] = All-nil (λ (x : X). list_any (same x) [] ≡ true)
  any_firsts (x ∷ xs) =
      All-cons (λ (y : X). list_any (same y) (firsts same (x ∷ xs)) ≡ true) x xs
      (ap (λ (t : Bool). t || list_any (same x) (filter (λ z. not (same x z)) (firsts same xs))) (equal.refl x))
      (All-weaker (λ (y : X). list_any (same y) (firsts same xs) ≡ true) (λ (y : X). list_any (same y) (firsts same (x ∷ xs)) ≡ true) (λ y h. here y (same x y) refl h) xs (any_firsts xs))
    where
      here : (y : X) (b : Bool) → same x y ≡ b → list_any (same y) (firsts same xs) ≡ true → list_any (same y) (x ∷ filter (λ z. not (same x z)) (firsts same xs)) ≡ true
      here y true e h = ap (λ (t : Bool). t || list_any (same y) (filter (λ z. not (same x z)) (firsts same xs))) (equal.symm y x ∙ e)
      here y false e h = ap (λ (t : Bool). t || list_any (same y) (filter (λ z. not (same x z)) (firsts same xs))) (equal.symm y x ∙ e) ∙ any_left x y (firsts same xs) e h

  pub seen_each : (xs : List X) → All (λ x. list_any (same x) (insert_all same [] xs) ≡ true) xs
  seen_each xs = subst (λ (fs : List X). All (λ x. list_any (same x) fs ≡ true) xs) (sym (firsts-seen same equal xs)) (any_firsts xs)

  -- numbering by groups and one rank more
  pub refine_step : (r : X → Option Rank) (xs : List X)
      → numbered is_same_pair (pairs (numbered same xs) (map r xs)) ≡ numbered (λ x y. same x y && is_same_rank (r x) (r y)) xs
  refine_step r xs =
      ap (numbered is_same_pair) (zipped xs) ∙ numbered_seen f is_same_pair xs
      ∙ numbered_agree (λ x y. is_same_pair (f x) (f y)) (λ x y. same x y && is_same_rank (r x) (r y)) (λ (x : X). list_any (same x) F ≡ true)
      (λ x y h k. ap (λ (b : Bool). b && is_same_rank (r x) (r y)) (one_number same equal F x y h k)) xs (seen_each xs)
    where
      F : List X
      F = insert_all same [] xs

      f : X → Pair
      f x = record { group = position_or_len (same x) (insert_all same [] xs); rank = r x }

      zipped : (ys : List X) → pairs (map (λ x. position_or_len (same x) (insert_all same [] xs)) ys) (map r ys)
          ≡ map (λ x. let p : Pair = record { group = position_or_len (same x) (insert_all same [] xs); rank = r x } in p) ys
      zipped [] = refl
      zipped (y ∷ ys) = ap (λ (l : List Pair). record { group = position_or_len (same y) (insert_all same [] xs); rank = r y } ∷ l) (zipped ys)

-- ranks are in an equivalence, and so are elements by their ranks
rank_equal : IsEquivalence is_same_rank
rank_equal = options_equiv (eq_by_cmp_equiv rank_cmp_total)

module _ {C X : Type 0} (rank : C → X → Option Rank) where
  pub ranks_equal : (keys : List C) → IsEquivalence (has_same_ranks rank keys)
  ranks_equal [] = point_equiv
  ranks_equal (c ∷ keys) = and_equiv (on_equiv (rank c) rank_equal) (ranks_equal keys)

  ranks_more : (keys : List C) (c : C) (x y : X)
      → (has_same_ranks rank keys x y && is_same_rank (rank c x) (rank c y)) ≡ has_same_ranks rank (keys ++ c ∷ []) x y
  ranks_more keys c x y =
      ap (λ (b : Bool). has_same_ranks rank keys x y && b) (and_true (is_same_rank (rank c x) (rank c y)))
      ∙ sym (list_all-append (λ d. is_same_rank (rank d x) (rank d y)) keys (c ∷ []))
    where
      and_true : (b : Bool) → b ≡ (b && true)
      and_true true = refl
      and_true false = refl

  -- numbering by one key more
  pub ranks_step : (keys : List C) (c : C) (xs : List X)
      → numbered is_same_pair (pairs (numbered (has_same_ranks rank keys) xs) (map (rank c) xs)) ≡ numbered (has_same_ranks rank (keys ++ c ∷ [])) xs
  ranks_step keys c xs =
      refine_step (has_same_ranks rank keys) (ranks_equal keys) (rank c) xs
      ∙ numbered_agree (λ x y. has_same_ranks rank keys x y && is_same_rank (rank c x) (rank c y)) (has_same_ranks rank (keys ++ c ∷ [])) (λ (x : X). Unit {0})
      (λ x y p q. ranks_more keys c x y) xs (λ k d low. tt)

  -- without keys all have the number 0
  pub ranks_none : (xs : List X) → replicate (length xs) 0 ≡ numbered (has_same_ranks rank []) xs
  ranks_none [] = refl
  ranks_none (x ∷ xs) =
      ap (λ (r : List ℕ). 0 ∷ r) (zeros x [] xs)
      ∙ ap (λ (ks : List X). map (λ (y : X). position_or_len (has_same_ranks rank [] y) ks) (x ∷ xs)) (sym (one_kind x [] xs))
    where
      one_kind : (k : X) (ks ys : List X) → fold (insert_key (has_same_ranks rank [])) (k ∷ ks) ys ≡ k ∷ ks
      one_kind k ks [] = refl
      one_kind k ks (y ∷ ys) = one_kind k ks ys

      zeros : (k : X) (ks ys : List X) → replicate (length ys) 0 ≡ map (λ (y : X). position_or_len (has_same_ranks rank [] y) (k ∷ ks)) ys
      zeros k ks [] = refl
      zeros k ks (y ∷ ys) = ap (λ (r : List ℕ). 0 ∷ r) (zeros k ks ys)
