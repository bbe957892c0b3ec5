use Rattle.std.proofs.Common.{◌≡◌, ◌++◌, length, map}
use Rattle.std.specs.Vec.Iter.{into_iter_items, into_iter_len}
use Rattle.sq_bind.specs.Statement.{placed_conjunct}
use Rattle.sq_bind.proofs.span.conjuncts_of.Given as goal

abbrev pub invariant-loop-cond : goal.invariant-loop-cond
invariant-loop-cond l = record {
  so_far : (l.conjuncts ++ map placed_conjunct (into_iter_items l.cond-iterator)) ≡ map placed_conjunct (into_iter_items l.initial.cond-iterator);
  left : into_iter_len l.cond-iterator ≡ length (into_iter_items l.cond-iterator);
}
