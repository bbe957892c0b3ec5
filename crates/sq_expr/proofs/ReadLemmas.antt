-- Values of types of one class may be compared, and arguments of their types be handed over.
use Rattle.std.proofs.Common.{◌≡◌, Option, Some, None, refl, sym, ◌∙◌}
use Rattle.std.specs.Prelude.{IfSome, IsSome, IsSomeAnd}
use Rattle.sq_value.specs.Rank.{Rank, Number, Text, rank_of, rank_order}
use Rattle.sq_value.specs.Relation.{HasKind}
use Rattle.sq_value.specs.Comparison.{Comparable}
use Rattle.sq_value.specs.declared.value.Value.{Value}
use Rattle.sq_value.specs.declared.value.Value.TheVariants as value
use Rattle.sq_value.specs.declared.value.ColType.{ColType}
use Rattle.sq_value.specs.declared.value.ColType.TheVariants as kind
use Rattle.sq_value.specs.declared.predicate.Kinds.{Kinds}
use Rattle.sq_expr.specs.declared.cond.ColumnOf.{ColumnOf}
use Rattle.sq_expr.specs.declared.cond.Arg.{Arg}
use Rattle.sq_expr.specs.Fits.{Class, Numbers, Texts, class_of, HasClass, FitsArg}

-- the class of what a value is compared by
abbrev rank_class : Rank → Class
rank_class (Number n) = Numbers
rank_class (Text t) = Texts

-- a value of a type is compared by what is of the type's class
ranked : (k : ColType) (v : Value) → HasKind k v → IfSome (rank_of v) (λ r. rank_class r ≡ class_of k)
ranked k value.Null h = tt
ranked kind.Integer (value.Int n) h = refl
ranked kind.Integer (value.Text t) h = absurd h
ranked kind.Integer (value.Decimal d) h = absurd h
ranked kind.Text (value.Int n) h = absurd h
ranked kind.Text (value.Text t) h = refl
ranked kind.Text (value.Decimal d) h = absurd h
ranked (kind.Decimal s) (value.Int n) h = absurd h
ranked (kind.Decimal s) (value.Text t) h = absurd h
ranked (kind.Decimal s) (value.Decimal d) h = refl

-- two ranks of one class stand in an order
together : (a b : Rank) → rank_class a ≡ rank_class b → IsSome (rank_order a b)
together (Number a) (Number b) e = refl
together (Number a) (Text t) e = absurd cc
together (Text s) (Number b) e = absurd cc
together (Text s) (Text t) e = refl

-- two values whose types are of one class
pub Comparable-class : (c : Class) (j k : ColType) (v w : Value) → class_of j ≡ c → class_of k ≡ c → HasKind j v → HasKind k w → Comparable v w
Comparable-class c j k v w e f p q = by (rank_of v) (rank_of w) (ranked j v p) (ranked k w q)
  where
    by : (x y : Option Rank) → IfSome x (λ r. rank_class r ≡ class_of j) → IfSome y (λ r. rank_class r ≡ class_of k)
        → IfSome x (λ a. IfSome y (λ b. IsSome (rank_order a b)))
    by None y p q = tt
    by (Some a) None p q = tt
    by (Some a) (Some b) p q = together a b (p ∙ e ∙ sym (q ∙ f))

-- the same of two columns' values, where a reading of the columns tells their types
pub Comparable-columns : (has : ColumnOf → ColType → Type 0) (c : Class) (x y : ColumnOf) (v w : Value) → HasClass has c x → HasClass has c y
    → ((k : ColType) → has x k → HasKind k v) → ((k : ColType) → has y k → HasKind k w) → Comparable v w
Comparable-columns has c x y v w h k p q =
    Comparable-class c h.0 k.0 v w h.1.1 k.1.1 (p h.0 h.1.0) (q k.0 k.1.0)

-- the arguments of a call are of its types
module _ (has : ColumnOf → ColType → Type 0) (x y : Arg) where
  abbrev Fit : Kinds → Type 0
  Fit k = FitsArg has k.first x × FitsArg has k.second y

  pub first_fits : (o : Option Kinds) → IsSomeAnd o Fit → (k : ColType) × FitsArg has k x
  first_fits None h = absurd h
  first_fits (Some k) h = (k.first, h.0)

  pub second_fits : (o : Option Kinds) → IsSomeAnd o Fit → (k : ColType) × FitsArg has k y
  second_fits None h = absurd h
  second_fits (Some k) h = (k.second, h.1)

  pub kinds_fit : (o : Option Kinds) (v w : Value) → IsSomeAnd o Fit
      → ((k : ColType) → FitsArg has k x → HasKind k v) → ((k : ColType) → FitsArg has k y → HasKind k w)
      → IfSome o (λ k. HasKind k.first v × HasKind k.second w)
  kinds_fit None v w h p q = absurd h
  kinds_fit (Some k) v w h p q = (p k.first h.0, q k.second h.1)
