-- The key of a value: a value has it exactly where its rank is the key, and equal values have one key.
use Rattle.std.proofs.Common.{◌≡◌, true, false, Option, Some, None, refl, ap, sym, ◌∙◌}
use Rattle.std.specs.Option.{option_map_or}
use Rattle.std.specs.Ordering.{is_eq}
use Rattle.std.specs.declared.cmp.Ordering.{Ordering}
use Rattle.std.specs.declared.cmp.Ordering.TheVariants.{Less, Equal, Greater}
use Rattle.std.proofs.lemmas.Bool.{false≢true}
use Rattle.std.proofs.lemmas.Cmp.{tied_itself}
use Rattle.sq_value.specs.Rank.{Rank, rank_of, rank_cmp, rank_order, order_between}
use Rattle.sq_value.specs.Truth.{is_truth}
use Rattle.sq_value.specs.Comparison.{truth_of_order}
use Rattle.sq_value.specs.declared.value.Value.{Value}
use Rattle.sq_value.specs.declared.value.Truth.{Truth}
use Rattle.sq_value.specs.declared.value.Truth.TheVariants as truth
use Rattle.sq_value.specs.declared.value.Cmp.TheVariants.{Eq}
use Rattle.sq_value.proofs.OrderLemmas.{rank_cmp_total, rank_cmp-Equal, rank_equal}
use Rattle.eddy_meaning.specs.Keys.{has_key}

equal_from : (o : Ordering) → is_eq o ≡ true → o ≡ Equal
equal_from Less e = absurd (false≢true e)
equal_from Equal e = refl
equal_from Greater e = absurd (false≢true e)

-- a value has the key that is its rank
pub has_own_key : (key : Rank) (v : Value) → rank_of v ≡ Some key → has_key key v ≡ true
has_own_key key v e = ap (λ (o : Option Rank). option_map_or (λ rank. is_eq (rank_cmp key rank)) o false) e ∙ ap is_eq (tied_itself rank_cmp_total key)

-- and no other
pub key_is : (key : Rank) (v : Value) → has_key key v ≡ true → rank_of v ≡ Some key
key_is key v e = by (rank_of v) e
  where
    by : (o : Option Rank) → option_map_or (λ rank. is_eq (rank_cmp key rank)) o false ≡ true → o ≡ Some key
    by None e = absurd (false≢true e)
    by (Some rank) e = ap (λ (r : Rank). Some r) (sym (rank_cmp-Equal key rank (equal_from (rank_cmp key rank) e)))

true_from : (t : Truth) → is_truth t truth.True ≡ true → t ≡ truth.True
true_from truth.False e = absurd (false≢true e)
true_from truth.Unknown e = absurd (false≢true e)
true_from truth.True e = refl

-- an equality that is True has sides of one key, so neither is null
pub same_key : (x y : Option Rank) → is_truth (truth_of_order (order_between x y) Eq) truth.True ≡ true → (key : Rank) × (x ≡ Some key) × (y ≡ Some key)
same_key None y e = absurd (false≢true e)
same_key (Some a) None e = absurd (false≢true e)
same_key (Some a) (Some b) e = (a, refl, ap (λ (r : Rank). Some r) (sym ((rank_equal a b).1 (true_from (truth_of_order (rank_order a b) Eq) e))))
