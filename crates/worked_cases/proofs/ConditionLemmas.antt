-- The tests' conditions may be evaluated.
use Rattle.std.proofs.Common.{◌≡◌, ℕ, zero, suc, ◌<◌, List, ◌∷◌, length, replicate, Some, subst, arith}
use Rattle.std.specs.Prelude.{Contains, IsBitSet, slice_get}
use Rattle.sq_value.specs.Relation.{Relation}
use Rattle.sq_expr.specs.declared.cond.Cond.{Cond}
use Rattle.sq_expr.specs.Fits.{FitsCond, Covers, HasRow, kind_in, aliases_of}
use Rattle.worked_cases.specs.SampleConditions.{IsSample, IsSampleColumn, sample_kinds}
use Rattle.sq_expr.proofs.WeakerLemmas.{every-also}
use Rattle.sq_expr.proofs.OccurLemmas.{every-occurs}

pub FitsCond-sample : (tables : List Relation) (c : Cond) → IsSample tables c → FitsCond sample_kinds tables (replicate 12 0) c
FitsCond-sample tables c h = every-also sample_kinds (IsSampleColumn tables) (λ col k. kind_in tables (replicate 12 0) col ≡ Some k) c h (λ col k m e. e.1)

pub Covers-sample : (tables : List Relation) (t : Relation) (c : Cond) → IsSample tables c → slice_get tables 0 ≡ Some t → 1 < length t.rows
    → Covers tables (replicate 12 0) (1 ∷ replicate 11 0) 3 c
Covers-sample tables t c h is long = record { within = λ a m. bit a (below a m); chosen = λ a m. row a (below a m) }
  where
    below : (a : ℕ) → Contains (aliases_of c) a → a < 2
    below a m = let o = every-occurs sample_kinds (IsSampleColumn tables) c h a m in subst (λ (n : ℕ). n < 2) o.of o.fits.0

    bit : (a : ℕ) → a < 2 → IsBitSet 3 a
    bit zero h = λ e. absurd cc
    bit (suc zero) h = λ e. absurd cc
    bit (suc (suc a)) h = absurd (omega arith)

    row : (a : ℕ) → a < 2 → HasRow tables (replicate 12 0) (1 ∷ replicate 11 0) a
    row zero h = record { table = t; is = is; row = long }
    row (suc zero) h = record { table = t; is = is; row = omega arith }
    row (suc (suc a)) h = absurd (omega arith)
