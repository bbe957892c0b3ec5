use Rattle.std.proofs.Common.{◌≡◌, drop, length}
use Rattle.sq_value.specs.Columns.{are_same_columns}
use Rattle.sq_value.proofs.columns.are_same.Given as goal

abbrev pub invariant-loop-place : goal.invariant-loop-place
invariant-loop-place l = record {
  rest : are_same_columns (drop l.place l.left) (drop l.place l.right) ≡ are_same_columns l.left l.right;
  long : length l.left ≡ length l.right;
}
