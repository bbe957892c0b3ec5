-- The groups of members, by the numbers of their groups.
use Rattle.std.proofs.Common.{◌≡◌, ℕ, ◌<◌, Bool, true, List, [], ◌∷◌, length, map, ap, sym, ◌∙◌, arith, subst}
use Rattle.std.specs.Prelude.{◌==◌, filter, All}
use Rattle.std.specs.List.{list_any, position_or_len, range_with_len}
use Rattle.std.specs.Cmp.{IsEquivalence}
use Rattle.std.proofs.lemmas.List.{length-map}
use Rattle.std.proofs.lemmas.List.Elements.{All-map, All-weaker}
use Rattle.std.proofs.lemmas.List.FromFn.{length-range_with_len}
use Rattle.bag_meaning.proofs.ListLemmas.{map_agree}
use Rattle.bag_meaning.proofs.RangeLemmas.{All-range}
use Rattle.indexmap.specs.IndexSet.{insert_all}
use Rattle.group_sink.specs.Dense.{numbered}
use Rattle.group_sink.specs.Groups.{kinds}
use Rattle.group_sink.specs.Picked.{picked, AreGroups, kinds_from}
use Rattle.group_sink.proofs.DenseLemmas.{position-within}
use Rattle.group_sink.proofs.KindLemmas.{firsts-seen, kinds-numbered}
use Rattle.group_sink.proofs.KeyLists.{seen_each}
use Rattle.group_sink.proofs.FirstLemmas.{kinds_from-numbered}
use Rattle.group_sink.proofs.PickedLemmas.{picked-numbered, picked-zeros, alone}

module _ {X : Type 0} (same : X → X → Bool) (equal : IsEquivalence same) where
  -- groups by kind
  pub AreGroups-kinds : (xs : List X) → AreGroups (numbered same xs) (kinds_from 0 (numbered same xs)) xs (kinds same xs)
  AreGroups-kinds xs = record {
    long = length-map xs place;
    within = subst (λ (n : ℕ). All (λ (k : ℕ). k < n) (numbered same xs)) (sym count)
        (All-map (λ (k : ℕ). k < length F) place xs
        (All-weaker (λ (x : X). list_any (same x) F ≡ true) (λ (x : X). place x < length F) (λ x h. position-within (same x) F h) xs (seen_each same equal xs)));
    are =
        kinds-numbered same equal xs
        ∙ ap (λ (fs : List X). map (λ j. filter (λ x. position_or_len (same x) fs == j) xs) (range_with_len 0 (length fs))) (sym (firsts-seen same equal xs))
        ∙ map_agree (λ j. filter (λ x. place x == j) xs) (λ j. picked j (numbered same xs) xs) (λ j. sym (picked-numbered place j xs)) (range_with_len 0 (length F))
        ∙ ap (λ (n : ℕ). map (λ j. picked j (numbered same xs) xs) (range_with_len 0 n)) (sym count);
  }
    where
      F : List X
      F = insert_all same [] xs

      place : X → ℕ
      place x = position_or_len (same x) (insert_all same [] xs)

      count : kinds_from 0 (numbered same xs) ≡ length F
      count = kinds_from-numbered same equal xs ∙ ap (length {A = X}) (sym (firsts-seen same equal xs))

module _ {X : Type 0} where
  -- all in one group
  pub AreGroups-whole : (zeros : List ℕ) (xs : List X) → length zeros ≡ length xs → All (λ (n : ℕ). n ≡ 0) zeros → AreGroups zeros 1 xs (xs ∷ [])
  AreGroups-whole zeros xs same h = record {
    long = same;
    within = All-weaker (λ (n : ℕ). n ≡ 0) (λ (n : ℕ). n < 1) (λ n e. omega (arith, e)) zeros h;
    are = ap (λ (l : List X). l ∷ []) (sym (picked-zeros zeros xs same h));
  }

  -- each alone
  pub AreGroups-alone : (numbers : List ℕ) (n : ℕ) (xs : List X) → length xs ≡ n → numbers ≡ range_with_len 0 n → AreGroups numbers n xs (map (λ x. x ∷ []) xs)
  AreGroups-alone numbers n xs size e =
      subst (λ (ns : List ℕ). AreGroups ns n xs (map (λ x. x ∷ []) xs)) (sym e)
      (subst (λ (m : ℕ). AreGroups (range_with_len 0 m) m xs (map (λ x. x ∷ []) xs)) size record {
        long = length-range_with_len 0 (length xs);
        within = All-range (λ (j : ℕ). j < length xs) 0 (length xs) (λ k low high. omega (arith, high));
        are = alone 0 xs;
      })
