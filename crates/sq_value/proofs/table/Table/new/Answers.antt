use Rattle.std.proofs.Common.{arith, refl}
use Rattle.sq_value.specs.Relation.{rows_of}
use Rattle.sq_value.proofs.table.Table.new.Goals as goal

pub invariant_of-result : goal.invariant_of-result
unfolding rows_of
invariant_of-result c = record {
  heading = c.requires;
  full = rw c.new.ensures.items (omega arith);
  each = λ k d h. absurd (omega arith);
}

pub returns : goal.returns
unfolding rows_of
returns c = refl
