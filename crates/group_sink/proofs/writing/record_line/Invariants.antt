use Rattle.std.proofs.Common.{◌≡◌, map, take}
use Rattle.csv.specs.Writing.{default_writer, row_body}
use Rattle.group_sink.specs.Lines.{out_text}
use Rattle.group_sink.proofs.writing.record_line.Given as goal

abbrev pub invariant-loop-index : goal.invariant-loop-index
invariant-loop-index l = l.line.items ≡ row_body default_writer (take l.index (map out_text l.shown.cells))
