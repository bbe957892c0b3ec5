use Rattle.std.proofs.Common.{◌≡◌, length}
use Rattle.sq_expr.specs.Prepared.{ArePrepared}
use Rattle.sq_expr.proofs.conjuncts.all_prepared.Given as goal

abbrev pub invariant-loop-conjunct : goal.invariant-loop-conjunct
invariant-loop-conjunct l = record {
  length' : length l.all.items ≡ l.conjunct-index;
  are : ArePrepared l.conjuncts l.all.items;
}
