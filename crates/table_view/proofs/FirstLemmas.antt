-- The value of a column that comes first, row by row.
use Rattle.std.proofs.Common.{◌≡◌, ℕ, ◌+◌, ◌<◌, true, false, List, [], ◌∷◌, length, get_or, Option, Some, refl, ap, sym, subst, ◌∙◌, arith, below_more}
use Rattle.std.specs.Prelude.{IfSome, slice_get}
use Rattle.std.specs.declared.cmp.Ordering.{Ordering}
use Rattle.std.specs.declared.cmp.Ordering.TheVariants.{Less, Equal, Greater}
use Rattle.std.specs.Ordering.{is_gt, is_lt, ordering_reverse}
use Rattle.std.proofs.lemmas.Cmp.{upto, tied_itself}
use Rattle.std.proofs.lemmas.Option.{slice_get-get_or}
use Rattle.sq_value.specs.Comparison.{Comparable}
use Rattle.sq_value.specs.Order.{sorted_by}
use Rattle.sq_value.specs.Relation.{Relation, HasKind, cell}
use Rattle.sq_value.specs.declared.table.Column.{Column}
use Rattle.sq_value.specs.declared.value.SortWay.{SortWay}
use Rattle.sq_value.specs.declared.value.Value.{Value}
use Rattle.sq_value.proofs.OrderLemmas.{sorted_by_total}
use Rattle.sq_expr.specs.Fits.{class_of}
use Rattle.sq_expr.proofs.ReadLemmas.{Comparable-class}
use Rattle.table_view.specs.Columns.{IsForemost}

-- two values of one column may be compared
pub comparable_at : (columns : List Column) (column : ℕ) (v w : Value) → column < length columns
    → IfSome (slice_get columns column) (λ (k : Column). HasKind k.kind v) → IfSome (slice_get columns column) (λ (k : Column). HasKind k.kind w) → Comparable v w
comparable_at [] column v w low p q = absurd (omega (arith, low))
comparable_at (c ∷ cs) column v w low p q =
    let kind = (get_or (c ∷ cs) column c).kind in
    let is = slice_get-get_or (c ∷ cs) column c low in
    Comparable-class (class_of kind) kind kind v w refl refl
    (subst (λ (o : Option Column). IfSome o (λ (k : Column). HasKind k.kind v)) is p)
    (subst (λ (o : Option Column). IfSome o (λ (k : Column). HasKind k.kind w)) is q)

-- what comes before isn't behind
ahead : (o : Ordering) → is_lt o ≡ true → is_gt o ≡ false
ahead Less e = refl
ahead Equal e = absurd cc
ahead Greater e = absurd cc

-- nor is the other one, where the first doesn't come before it
behind : (o : Ordering) → is_lt o ≡ false → is_gt (ordering_reverse o) ≡ false
behind Less e = absurd cc
behind Equal e = refl
behind Greater e = refl

module _ (way : SortWay) (table : Relation) (column : ℕ) where
  itself : (v : Value) → is_gt (sorted_by way v v) ≡ false
  itself v = ap is_gt (tied_itself (sorted_by_total way) v)

  same_cell : (row : ℕ) (v w : Value) → cell table row column ≡ Some v → cell table row column ≡ Some w → v ≡ w
  same_cell row v w e f = some_inj v w (sym e ∙ f)
    where
      some_inj : (x y : Value) → Some x ≡ Some y → x ≡ y
      some_inj x y g = cc

  -- what a value has beside each of the first so many rows
  abbrev Ahead : Value → ℕ → Type 0
  Ahead v row = (other : Value) → cell table row column ≡ Some other → is_gt (sorted_by way v other) ≡ false

  ahead_at : (row : ℕ) (v w : Value) → cell table row column ≡ Some w → is_gt (sorted_by way v w) ≡ false → Ahead v row
  ahead_at row v w e h other f = ap (λ (x : Value). is_gt (sorted_by way v x)) (sym (same_cell row w other e f)) ∙ h

  -- the first row's value
  pub first_one : (v : Value) → cell table 0 column ≡ Some v → IsForemost way table column 1 v
  first_one v e = record {
    there = (0, omega arith, e);
    first = λ row other low f.
        below_more (Ahead v) 0 (λ k h. absurd (omega (arith, h))) (ahead_at 0 v v e (itself v)) row low other f;
  }

  -- a row more, whose value doesn't come before
  pub first_keeps : (rows : ℕ) (v w : Value) → IsForemost way table column rows v → cell table rows column ≡ Some w → is_lt (sorted_by way w v) ≡ false
      → IsForemost way table column (rows + 1) v
  first_keeps rows v w old e h =
      let back : is_gt (sorted_by way v w) ≡ false = ap is_gt ((sorted_by_total way).antisymm v w) ∙ behind (sorted_by way w v) h in
      record {
        there = (old.there.0, omega (arith, old.there.1), old.there.2);
        first = λ row other low f.
            below_more (Ahead v) rows (λ k l x g. old.first k x l g) (ahead_at rows v w e back) row low other f;
      }

  -- a row more, whose value comes before
  pub first_takes : (rows : ℕ) (v w : Value) → IsForemost way table column rows v → cell table rows column ≡ Some w → is_lt (sorted_by way w v) ≡ true
      → IsForemost way table column (rows + 1) w
  first_takes rows v w old e h = record {
    there = (rows, omega arith, e);
    first = λ row other low f.
        below_more (Ahead w) rows (λ k l x g. upto (sorted_by_total way) w v x (ahead (sorted_by way w v) h) (old.first k x l g))
        (ahead_at rows w w e (itself w)) row low other f;
  }
