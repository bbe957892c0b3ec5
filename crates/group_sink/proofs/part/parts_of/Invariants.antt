use Rattle.std.proofs.Common.{◌≡◌, take}
use Rattle.std.specs.Prelude.{map}
use Rattle.group_sink.specs.Parts.{seen_part, pairs, rank_kept}
use Rattle.group_sink.proofs.part.parts_of.Given as goal

abbrev pub invariant-loop-place : goal.invariant-loop-place
invariant-loop-place l = map seen_part l.parts.items ≡ pairs (take l.place l.numbers) (map rank_kept (take l.place l.keys))
