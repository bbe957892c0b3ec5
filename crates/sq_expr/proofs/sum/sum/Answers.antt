use Rattle.std.proofs.Common.{◌≡◌, ◌+ℤ◌, arith, to_z, of_z}
use Rattle.std.specs.Int.{w128}
use Rattle.std.proofs.lemmas.Int.{ints}
use Rattle.sq_expr.specs.Meaning.{value_in}
use Rattle.sq_expr.proofs.SumLemmas.{sum_begins, sum_step}
use Rattle.sq_expr.proofs.sum.sum.Goals as goal

pub loop-term-init : goal.loop-term-init
loop-term-init c =
    record { rest = sum_begins (value_in c.args.rows.now.tables.now c.args.rows.now.uses c.args.rows.now.rows) c.args.terms.now; low = omega arith; high = omega arith }

pub loop-term-preserved : goal.loop-term-preserved
loop-term-preserved c =
    let before = to_z w128 c.loop-term.sum-bits in
    let low = c.in_ok-sum.ensures.low in
    let high = c.in_ok-sum.ensures.high in
    let e : to_z w128 (of_z w128 (before +ℤ to_z w128 (of_z w128 c.in_ok-sum.field-0))) ≡ before +ℤ c.in_ok-sum.field-0 = omega (arith, ints) in
    record {
      rest = sum_step (value_in c.args.rows.now.tables.now c.args.rows.now.uses c.args.rows.now.rows) c.args.terms.now c.loop-term.term-index _ before
          c.in_ok-sum.field-0 _ c.loop-term-test.true c.in_ok-sum.ensures.value e c.loop-term.invariant.rest;
      low = omega (arith, ints);
      high = omega (arith, ints);
    }
