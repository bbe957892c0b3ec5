use Rattle.std.proofs.Common.{ℤ, subst, sym, pos, neg_ℤ, ◌≤ℤ◌, ◌^◌}
use Rattle.sq_expr.proofs.SumLemmas.{product_within, product_read}
use Rattle.sq_expr.proofs.sum.product.Goals as goal

pub returns-clause-low : goal.returns-clause-low
returns-clause-low c =
    let e = product_read c.args.factor c.args.number _ c.ranges.factor c.ranges.number c.from.ensures c.requires.factor c.requires.number in
    subst (λ (z : ℤ). neg_ℤ (pos (2 ^ 114)) ≤ℤ z) (sym e) (product_within c.args.factor c.args.number c.requires.factor c.requires.number).0

pub returns-clause-high : goal.returns-clause-high
returns-clause-high c =
    let e = product_read c.args.factor c.args.number _ c.ranges.factor c.ranges.number c.from.ensures c.requires.factor c.requires.number in
    subst (λ (z : ℤ). z ≤ℤ pos (2 ^ 114)) (sym e) (product_within c.args.factor c.args.number c.requires.factor c.requires.number).1
