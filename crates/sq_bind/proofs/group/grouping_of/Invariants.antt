use Rattle.std.proofs.Common.{◌≡◌, map, take}
use Rattle.std.specs.List.{flat_map}
use Rattle.sq_bind.specs.Statement.{grouping_by}
use Rattle.sq_bind.specs.Seen.{seen}
use Rattle.sq_bind.proofs.group.grouping_of.Given as goal

abbrev pub invariant-loop-column : goal.invariant-loop-column
invariant-loop-column l = l.keys.items ≡ flat_map (grouping_by (map seen l.aliases)) (take l.column-index l.groups)
