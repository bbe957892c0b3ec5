use Rattle.std.proofs.Common.{◌≡◌, ◌*◌, ◌^◌, ◌≤ℤ◌, pos, neg_ℤ, Some, drop}
use Rattle.sq_expr.specs.Meaning.{value_in, sum_number, plus}
use Rattle.sq_expr.proofs.sum.sum.Given as goal

abbrev pub invariant-loop-term : goal.invariant-loop-term
invariant-loop-term l =
    let at = value_in l.rows.tables.now l.rows.uses l.rows.rows in
    record {
      rest : plus (Some l.sum) (sum_number at (drop l.term-index l.terms)) ≡ sum_number at l.terms;
      low : neg_ℤ (pos (2 ^ 114 * l.term-index)) ≤ℤ l.sum;
      high : l.sum ≤ℤ pos (2 ^ 114 * l.term-index);
    }
