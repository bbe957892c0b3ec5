use Rattle.std.proofs.Common.{◌≡◌, ℕ, zero, suc, ◌≤◌, ◌^◌, ℤ, pos, arith}
use Rattle.std.specs.Prelude.{◌*ℤ◌}
use Rattle.std.proofs.lemmas.Int.{ints}
use Rattle.sq_value.specs.Rank.{millionths}
use Rattle.sq_value.proofs.decimal.number_law.Goals as goal

exact : (units : ℤ) (scale : ℕ) → scale ≤ 6 → millionths units scale *ℤ pos (10 ^ scale) ≡ units *ℤ pos 1000000
exact u zero h = omega (arith, ints)
exact u (suc zero) h = omega (arith, ints)
exact u (suc (suc zero)) h = omega (arith, ints)
exact u (suc (suc (suc zero))) h = omega (arith, ints)
exact u (suc (suc (suc (suc zero)))) h = omega (arith, ints)
exact u (suc (suc (suc (suc (suc zero))))) h = omega (arith, ints)
exact u (suc (suc (suc (suc (suc (suc zero)))))) h = omega (arith, ints)
exact u (suc (suc (suc (suc (suc (suc (suc n))))))) h = absurd (omega arith)

pub returns : goal.returns
returns c = exact
