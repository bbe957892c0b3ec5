use Rattle.std.proofs.Common.{◌≡◌, ◌<◌, ◌^◌, map, sum}
use Rattle.std.specs.List.{range_with_len}
use Rattle.sq_expr.specs.Fits.{aliases_of}
use Rattle.sq_bind.specs.Statement.{bit_in}
use Rattle.sq_bind.proofs.span.span_of.Given as goal

abbrev pub invariant-loop-alias : goal.invariant-loop-alias
invariant-loop-alias l = record {
  so_far : l.span ≡ sum (map (bit_in (aliases_of l.cond)) (range_with_len 0 l.alias));
  small : l.span < 2 ^ l.alias;
}
