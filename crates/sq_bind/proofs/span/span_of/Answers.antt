use Rattle.std.proofs.Common.{arith}
use Rattle.sq_expr.specs.Fits.{aliases_of}
use Rattle.sq_bind.proofs.OccursLemmas.{one_more_bit, twice}
use Rattle.sq_bind.proofs.span.span_of.Goals as goal

pub loop-alias-preserved : goal.loop-alias-preserved
loop-alias-preserved c =
    let more = one_more_bit (aliases_of c.args.cond.now) c.loop-alias.alias in
    let double = twice c.loop-alias.alias in
    record {
      so_far = (let sofar = c.loop-alias.invariant.so_far in let bit = c.bit_of-span.ensures.bit in omega (arith, more, sofar, bit));
      small = (let low = c.loop-alias.invariant.small in let bit = c.bit_of-span.ensures.small in omega (arith, low, bit, double));
    }
