use Rattle.std.proofs.Common.{◌≡◌, take}
use Rattle.csv.specs.Writing.{default_writer, row_body}
use Rattle.group_sink.specs.Texts.{heading_fields}
use Rattle.group_sink.proofs.writing.heading_line.Given as goal

abbrev pub invariant-loop-index : goal.invariant-loop-index
invariant-loop-index l = l.line.items ≡ row_body default_writer (take l.index (heading_fields l.shape.cells))
