use Rattle.std.proofs.Common.{◌≡◌, map, take}
use Rattle.group_sink.specs.Picks.{seen}
use Rattle.group_sink.specs.Parts.{value_over}
use Rattle.group_sink.proofs.picks.values_in.Given as goal

abbrev pub invariant-loop-member : goal.invariant-loop-member
invariant-loop-member l = map seen l.values.items ≡ map (value_over l.block l.tables l.column) (take l.member-index l.members)
