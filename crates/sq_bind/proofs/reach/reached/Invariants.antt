use Rattle.std.proofs.Common.{◌≡◌, length, map}
use Rattle.sq_bind.specs.Reached.{rounds, is_scanned}
use Rattle.sq_bind.proofs.reach.reached.Given as goal

abbrev pub invariant-loop-round : goal.invariant-loop-round
invariant-loop-round l = record {
  length_kept : length l.marks.items ≡ length l.uses;
  so_far : l.marks.items ≡ rounds l.uses l.conjuncts l._round (map is_scanned l.uses);
}
