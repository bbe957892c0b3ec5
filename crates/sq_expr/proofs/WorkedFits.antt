-- A small query that fits, and sides that don't: the definitions of Fits at values.
use Rattle.std.proofs.Common.{◌≡◌, ℕ, zero, suc, ◌*◌, ◌^◌, ◌<◌, List, [], ◌∷◌, Option, Some, None, true, get_or, refl, ap, sym, subst, inl, ◌∙◌, pos, arith}
use Rattle.std.specs.Prelude.{codes, Contains, IsSome, IsBitSet, ◌↔◌, bit_and}
use Rattle.std.specs.Int.{bit_at}
use Rattle.std.proofs.lemmas.Nat.Bits.{and_pow, bit_at-suc, bit_at-zero}
use Rattle.std.proofs.lemmas.List.Elements.{All-nil, All-cons}
use Rattle.sq_value.specs.Relation.{Relation}
use Rattle.sq_value.specs.declared.value.ColType.{ColType}
use Rattle.sq_value.specs.declared.value.ColType.TheVariants.{Integer}
use Rattle.sq_value.specs.declared.value.Cmp.TheVariants.{Eq}
use Rattle.sq_value.specs.declared.predicate.Kinds.{Kinds}
use Rattle.sq_expr.specs.declared.block.AliasUse.{AliasUse}
use Rattle.sq_expr.specs.declared.block.Block.{Block}
use Rattle.sq_expr.specs.declared.block.OutCol.{OutCol}
use Rattle.sq_expr.specs.declared.cond.ColumnOf.{ColumnOf}
use Rattle.sq_expr.specs.declared.cond.Cond.{Cond}
use Rattle.sq_expr.specs.declared.cond.Cond.TheVariants.{Compare}
use Rattle.sq_expr.specs.declared.cond.Side.TheVariants.{Column, Sum}
use Rattle.sq_expr.specs.declared.cond.Term.{Term}
use Rattle.sq_expr.specs.Fits.{Class, Numbers, FitsAlias, FitsConjunct, FitsCond, FitsHere, FitsSide, FitsTerm, IsFit, kind_in, aliases_of}
use Rattle.sq_expr.proofs.FitLemmas.{made-Compare, aliases_of-Compare}

-- one table n of one INTEGER column x
abbrev pub numbers : List Relation
numbers = record { columns = record { name = codes "x"; kind = Integer } ∷ []; rows = [] } ∷ []

abbrev pub x : ColumnOf
x = record { alias = 0; column = 0 }

abbrev pub literal : Term
literal = record { factor = pos 1; column = None }

-- x = 1
abbrev pub is_one : Cond
is_one = Compare (Column x) Eq (Sum (literal ∷ []))

abbrev pub scanned : AliasUse
scanned = record { table = 0; access = record { scan = true; look_up = None } }

abbrev pub shown : OutCol
shown = record { alias = 0; column = 0; name = codes "x" }

-- SELECT x FROM n WHERE x = 1
abbrev pub ones : Block
ones = record {
  aliases = scanned ∷ [];
  conjuncts = record { cond = is_one; span = 1 } ∷ [];
  output = shown ∷ [];
  order = [];
}

abbrev pub no_kinds : ℕ → Option Kinds
no_kinds number = None

abbrev has : ColumnOf → ColType → Type 0
has c kind = kind_in numbers (0 ∷ []) c ≡ Some kind

is_one-fits : FitsCond no_kinds numbers (0 ∷ []) is_one
is_one-fits =
    made-Compare (FitsHere no_kinds has) (Column x) Eq (Sum (literal ∷ [])) (
      Numbers,
      (
        (Integer, (refl, refl)),
        (
          refl,
          omega arith,
          omega arith,
          All-cons (λ (t : Term). FitsTerm has t.factor t.column) literal [] (omega arith) (All-nil (λ (t : Term). FitsTerm has t.factor t.column)),
        ),
      ),
    )

-- bit 0 alone is set
no_bit : (a : ℕ) → bit_and 1 (2 ^ suc a) ≡ 0
no_bit a =
    let bit : bit_at 1 (suc a) ≡ 0 = bit_at-suc 1 a ∙ bit_at-zero a in
    and_pow 1 (suc a) ∙ ap (λ (n : ℕ). n * 2 ^ suc a) bit ∙ omega arith

-- 0 is the one alias of the list
alone : (k b : ℕ) → k < 1 → get_or (0 ∷ []) k b ≡ b → 0 < b → ⊥
alone zero b h e p = omega arith
alone (suc k) b h e p = omega arith

is_one-span : (a : ℕ) → (IsBitSet 1 a ↔ Contains (aliases_of is_one) a)
is_one-span a = subst (λ (l : List ℕ). IsBitSet 1 a ↔ Contains l a) (sym (aliases_of-Compare (Column x) Eq (Sum (literal ∷ [])))) (by a)
  where
    by : (a : ℕ) → (IsBitSet 1 a ↔ Contains (0 ∷ []) a)
    by zero = (λ h. (0, omega arith, refl), λ m e. absurd cc)
    by (suc a) = (λ h. absurd (h (no_bit a)), λ m. absurd (alone m.0 (suc a) m.1 m.2 (omega arith)))

abbrev InRange : OutCol → Type 0
InRange o = IsSome (kind_in numbers (0 ∷ []) record { alias = o.alias; column = o.column })

pub ones-fit : IsFit no_kinds numbers ones
ones-fit = record {
  some_alias = omega arith;
  few_aliases = omega arith;
  aliases = All-cons (FitsAlias numbers) scanned [] (record { table = omega arith; reached = inl refl; look_up = tt }) (All-nil (FitsAlias numbers));
  few_conjuncts = omega arith;
  conjuncts = All-cons (FitsConjunct no_kinds numbers (0 ∷ [])) _ [] (record { cond = is_one-fits; span = is_one-span }) (All-nil (FitsConjunct no_kinds numbers (0 ∷ [])));
  some_output = omega arith;
  output = All-cons InRange shown [] refl (All-nil InRange);
  order = λ k d h. absurd (omega arith);
}

-- a sum of no terms or of nine is of no class
pub none-unfit : (class : Class) → FitsSide has class (Sum []) → ⊥
none-unfit class f = omega (arith, f.1)

pub nine-unfit : (class : Class) → FitsSide has class (Sum (literal ∷ literal ∷ literal ∷ literal ∷ literal ∷ literal ∷ literal ∷ literal ∷ literal ∷ [])) → ⊥
nine-unfit class f = omega (arith, f.2)
