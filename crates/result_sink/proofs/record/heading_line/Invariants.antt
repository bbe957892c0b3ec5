use Rattle.std.proofs.Common.{◌≡◌, take}
use Rattle.csv.specs.Writing.{default_writer, row_body}
use Rattle.bag_meaning.specs.Answer.{heading_fields}
use Rattle.result_sink.proofs.record.heading_line.Given as goal

abbrev pub invariant-loop-index : goal.invariant-loop-index
invariant-loop-index l = l.line.items ≡ row_body default_writer (take l.index (heading_fields l.block))
