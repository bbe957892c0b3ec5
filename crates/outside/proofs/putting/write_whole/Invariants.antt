use Rattle.std.proofs.Common.{◌≡◌, ◌≤◌, ◌-◌, length, take}
use Rattle.std.specs.Io.KnownBytes.{Appends}
use Rattle.outside.proofs.putting.write_whole.Given as goal

abbrev pub invariant-loop-start : goal.invariant-loop-start
invariant-loop-start g l = record {
  inside : l.start ≤ length l.piece;
  taken : Appends (g.W.Write.contents l.initial.stream) (g.W.Write.contents l.stream) (take l.start l.piece);
  kept : l.faults ≡ l.initial.faults;
}

abbrev pub decreases-loop-start : goal.decreases-loop-start
decreases-loop-start g l = length l.piece - l.start
