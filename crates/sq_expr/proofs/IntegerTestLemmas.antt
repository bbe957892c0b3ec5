-- A comparison of a column with an integer says what the condition says.
use Rattle.std.proofs.Common.{◌≡◌, ℕ, List, Option, Some, None, ℤ, refl, ap, sym, subst, ◌∙◌}
use Rattle.std.specs.declared.cmp.Ordering.{Ordering}
use Rattle.std.specs.declared.cmp.Ordering.TheVariants.{Less, Equal, Greater}
use Rattle.std.specs.Ordering.{int_cmp, ordering_reverse}
use Rattle.std.proofs.lemmas.Cmp.{int_cmp_total}
use Rattle.sq_value.specs.Rank.{Rank, Number, Text, millionths, rank_of, order_between}
use Rattle.sq_value.specs.Relation.{Relation}
use Rattle.sq_value.specs.Comparison.{is_met, truth_of_order, two_valued}
use Rattle.sq_value.specs.declared.value.Cmp.{Cmp}
use Rattle.sq_value.specs.declared.value.Cmp.TheVariants.{Eq, Ne, Lt, Le, Gt, Ge}
use Rattle.sq_value.specs.declared.predicate.Kinds.{Kinds}
use Rattle.sq_expr.specs.declared.cond.ColumnOf.{ColumnOf}
use Rattle.sq_expr.specs.declared.cond.Side.{Side}
use Rattle.sq_expr.specs.declared.cond.Side.TheVariants.{Column}
use Rattle.sq_expr.specs.declared.cond.Cond.{Cond}
use Rattle.sq_expr.specs.declared.cond.Cond.TheOpen as level
use Rattle.sq_expr.specs.declared.cond.Cond.TheVariants as variants
use Rattle.sq_expr.specs.declared.integer_test.IntegerTest.{IntegerTest}
use Rattle.sq_expr.specs.Fits.{FitsSide, FitsHere}
use Rattle.sq_expr.specs.Meaning.{truth_of, side_rank}
use Rattle.sq_expr.specs.Reading.{IsInRange, IsSeen, IsReadyOver}
use Rattle.sq_expr.specs.IntegerTest.{exchanged, integer_rank, IsBeside, IsIntegerTest}
use Rattle.sq_expr.proofs.FitLemmas.{every-here}
use Rattle.sq_expr.proofs.MeaningLemmas.{truth_of-Compare}

-- an order turned round meets the comparison that is exchanged
met_exchanged : (how : Cmp) (o : Ordering) → is_met how (ordering_reverse o) ≡ is_met (exchanged how) o
met_exchanged Eq Less = refl
met_exchanged Eq Equal = refl
met_exchanged Eq Greater = refl
met_exchanged Ne Less = refl
met_exchanged Ne Equal = refl
met_exchanged Ne Greater = refl
met_exchanged Lt Less = refl
met_exchanged Lt Equal = refl
met_exchanged Lt Greater = refl
met_exchanged Le Less = refl
met_exchanged Le Equal = refl
met_exchanged Le Greater = refl
met_exchanged Gt Less = refl
met_exchanged Gt Equal = refl
met_exchanged Gt Greater = refl
met_exchanged Ge Less = refl
met_exchanged Ge Equal = refl
met_exchanged Ge Greater = refl

-- a number that stands first may stand second
number_second : (n : ℤ) (x : Option Rank) (how : Cmp)
    → truth_of_order (order_between (Some (Number n)) x) how ≡ truth_of_order (order_between x (Some (Number n))) (exchanged how)
number_second n None how = refl
number_second n (Some (Text t)) how = refl
number_second n (Some (Number m)) how =
    ap (λ (o : Ordering). two_valued (is_met how o)) (int_cmp_total.antisymm n m)
    ∙ ap two_valued (met_exchanged how (int_cmp m n))

-- the column of a comparison is read
module _ (c : Cond) (left : Side) (how : Cmp) (right : Side) (is : c ≡ variants.Compare left how right)
    (kinds : ℕ → Option Kinds) (tables : List Relation) (uses rows : List ℕ) (ready : IsReadyOver kinds tables uses rows c) where
  sides_fit : FitsHere kinds (IsSeen tables uses rows) (level.Compare left how right)
  sides_fit =
      every-here (FitsHere kinds (IsSeen tables uses rows)) c (variants.Compare left how right) (level.Compare left how right)
      (variants.outs-Compare left how right) is ready

  left_read : (column : ColumnOf) → left ≡ Column column → IsInRange tables uses rows column
  left_read column e =
      (subst (FitsSide (IsSeen tables uses rows) sides_fit.0) e sides_fit.1.0).1.0.range

  right_read : (column : ColumnOf) → right ≡ Column column → IsInRange tables uses rows column
  right_read column e =
      (subst (FitsSide (IsSeen tables uses rows) sides_fit.0) e sides_fit.1.1).1.0.range

-- the column stands first
pub column_first : (c : Cond) (left : Side) (how : Cmp) (right : Side) (t : IntegerTest) → c ≡ variants.Compare left how right
    → IsBeside left how right t → IsIntegerTest c t
column_first c left how right t is b = record {
  truth = λ gives at.
      ap (truth_of gives at) is ∙ truth_of-Compare gives at left how right
      ∙ ap (λ (x : Side). truth_of_order (order_between (side_rank at x) (side_rank at right)) how) b.column
      ∙ ap (λ (y : Option Rank). truth_of_order (order_between (rank_of (at t.column)) y) how) (b.number at)
      ∙ ap (truth_of_order (order_between (rank_of (at t.column)) (integer_rank t.number))) (sym b.cmp);
  reads = λ kinds tables uses rows ready. left_read c left how right is kinds tables uses rows ready t.column b.column;
}

-- the integer stands first
pub integer_first : (c : Cond) (left : Side) (how : Cmp) (right : Side) (t : IntegerTest) → c ≡ variants.Compare left how right
    → IsBeside right (exchanged how) left t → IsIntegerTest c t
integer_first c left how right t is b = record {
  truth = λ gives at.
      ap (truth_of gives at) is ∙ truth_of-Compare gives at left how right
      ∙ ap (λ (x : Side). truth_of_order (order_between (side_rank at left) (side_rank at x)) how) b.column
      ∙ ap (λ (y : Option Rank). truth_of_order (order_between y (rank_of (at t.column))) how) (b.number at)
      ∙ number_second (millionths t.number 0) (rank_of (at t.column)) how
      ∙ ap (truth_of_order (order_between (rank_of (at t.column)) (integer_rank t.number))) (sym b.cmp);
  reads = λ kinds tables uses rows ready. right_read c left how right is kinds tables uses rows ready t.column b.column;
}
