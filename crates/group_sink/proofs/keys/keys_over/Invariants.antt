use Rattle.std.proofs.Common.{◌≡◌, map, take}
use Rattle.group_sink.specs.Parts.{rank_kept, rank_over}
use Rattle.group_sink.proofs.keys.keys_over.Given as goal

abbrev pub invariant-loop-member : goal.invariant-loop-member
invariant-loop-member l = map rank_kept l.keys.items ≡ map (rank_over l.block l.tables l.column) (take l.member-index l.members)
