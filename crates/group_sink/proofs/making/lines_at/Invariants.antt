use Rattle.std.proofs.Common.{◌≡◌, map, take}
use Rattle.group_sink.specs.Columns.{cells_at}
use Rattle.group_sink.specs.declared.line.Line.{Line}
use Rattle.group_sink.proofs.making.lines_at.Given as goal

abbrev pub invariant-loop-group : goal.invariant-loop-group
invariant-loop-group l = map (λ (line : Line). line.cells) l.lines.items ≡ map (cells_at l.columns) (take l.group-index l.groups)
