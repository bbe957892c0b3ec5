-- A comparison of two columns.
use Rattle.std.proofs.Common.{◌≡◌, ℕ, zero, suc, List, [], ◌∷◌, Option, Some, refl, subst, arith}
use Rattle.std.specs.Prelude.{Contains, IsBitSet}
use Rattle.sq_value.specs.Relation.{Relation}
use Rattle.sq_value.specs.declared.value.ColType.{ColType}
use Rattle.sq_value.specs.declared.value.Cmp.{Cmp}
use Rattle.sq_value.specs.declared.predicate.Kinds.{Kinds}
use Rattle.sq_expr.specs.declared.cond.ColumnOf.{ColumnOf}
use Rattle.sq_expr.specs.declared.cond.Side.TheVariants.{Column}
use Rattle.sq_expr.specs.declared.cond.Cond.TheVariants.{Compare}
use Rattle.sq_expr.specs.Fits.{FitsCond, FitsHere, Covers, HasRow, kind_in, class_of}
use Rattle.sq_expr.proofs.FitLemmas.{made-Compare, aliases_of-Compare}

-- it fits where both are of types of one class
pub FitsCond-columns : (kinds : ℕ → Option Kinds) (tables : List Relation) (uses : List ℕ) (x : ColumnOf) (how : Cmp) (y : ColumnOf) (j k : ColType)
    → class_of j ≡ class_of k → kind_in tables uses x ≡ Some j → kind_in tables uses y ≡ Some k
    → FitsCond kinds tables uses (Compare (Column x) how (Column y))
FitsCond-columns kinds tables uses x how y j k same e f =
    made-Compare (FitsHere kinds (λ c kind. kind_in tables uses c ≡ Some kind)) (Column x) how (Column y)
    (class_of k, ((j, (e, same)), (k, (f, refl))))

either : (P : ℕ → Type 0) (a b n : ℕ) → P a → P b → Contains (a ∷ b ∷ []) n → P n
either P a b n p q (zero, h, e) = subst P e p
either P a b n p q (suc zero, h, e) = subst P e q
either P a b n p q (suc (suc k), h, e) = absurd (omega arith)

-- its aliases are those of the columns
pub Covers-columns : (tables : List Relation) (uses rows : List ℕ) (span : ℕ) (x : ColumnOf) (how : Cmp) (y : ColumnOf)
    → IsBitSet span x.alias → IsBitSet span y.alias → HasRow tables uses rows x.alias → HasRow tables uses rows y.alias
    → Covers tables uses rows span (Compare (Column x) how (Column y))
Covers-columns tables uses rows span x how y s t r u =
    let is = aliases_of-Compare (Column x) how (Column y) in
    record {
      within = λ a m. either (IsBitSet span) x.alias y.alias a s t (subst (λ (l : List ℕ). Contains l a) is m);
      chosen = λ a m. either (HasRow tables uses rows) x.alias y.alias a r u (subst (λ (l : List ℕ). Contains l a) is m);
    }
