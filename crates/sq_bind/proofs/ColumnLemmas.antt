-- Columns as a set: one more, and those of a list.
use Rattle.std.proofs.Common.{◌≡◌, ℕ, Bool, true, false, [], refl, ap, sym, ◌∙◌, cond, arith}
use Rattle.std.specs.Prelude.{◌&&◌, ◌||◌, ◌==◌, nat_lt}
use Rattle.std.specs.Ordering.{ordering_then, nat_cmp, is_eq}
use Rattle.std.specs.declared.cmp.Ordering.{Ordering}
use Rattle.std.specs.declared.cmp.Ordering.TheVariants.{Less, Equal, Greater}
use Rattle.std.specs.BTreeSet.{BTreeSet, Updates}
use Rattle.std.proofs.lemmas.Bool.{eq-eqb, ne_eqb, eqb-true, eqb-false, ltb-true}
use Rattle.sq_expr.specs.declared.cond.ColumnOf.{ColumnOf}
use Rattle.sq_bind.specs.Statement.{is_one_column}
use Rattle.sq_bind.specs.Columns.{pair_cmp, has}

number_is : (x y : ℕ) → is_eq (nat_cmp x y) ≡ (y == x)
number_is x y = by (nat_lt x y) refl
  where
    same : (b : Bool) → (x == y) ≡ b → is_eq (cond b Equal Greater) ≡ (y == x)
    same true e = sym (eq-eqb y x (sym (eqb-true x y e)))
    same false e = sym (ne_eqb y x (λ f. eqb-false x y e (sym f)))

    by : (b : Bool) → nat_lt x y ≡ b → is_eq (cond b Less (cond (x == y) Equal Greater)) ≡ (y == x)
    by true e = let h = ltb-true x y e in sym (ne_eqb y x (λ f. omega (arith, h, f)))
    by false e = same (x == y) refl

both_equal : (o p : Ordering) → is_eq (ordering_then o p) ≡ (is_eq o && is_eq p)
both_equal Less p = refl
both_equal Equal p = refl
both_equal Greater p = refl

pair_is : (k q : ColumnOf) → is_eq (pair_cmp (k.alias, k.column) (q.alias, q.column)) ≡ is_one_column q k
pair_is k q =
    both_equal (nat_cmp k.alias q.alias) (nat_cmp k.column q.column)
    ∙ ap (λ (b : Bool). b && is_eq (nat_cmp k.column q.column)) (number_is k.alias q.alias)
    ∙ ap (λ (b : Bool). (q.alias == k.alias) && b) (number_is k.column q.column)

or_last : (b o : Bool) → cond b true o ≡ (o || b)
or_last true true = refl
or_last true false = refl
or_last false true = refl
or_last false false = refl

-- a column more
pub has_more : (old new : BTreeSet (ℕ × ℕ)) (k : ColumnOf) → Updates pair_cmp old new (k.alias, k.column) true
    → (q : ColumnOf) → has new q ≡ (has old q || is_one_column q k)
unfolding has
has_more old new k u q =
    u.0 (q.alias, q.column) ∙ ap (λ (b : Bool). cond b true (has old q)) (pair_is k q) ∙ or_last (is_one_column q k) (has old q)

-- no columns
pub has_none : (places : BTreeSet (ℕ × ℕ)) → places.keys ≡ [] → (q : ColumnOf) → has places q ≡ false
unfolding has
has_none places e q = rw e refl

pub or_false : (b : Bool) → b ≡ (b || false)
or_false true = refl
or_false false = refl
