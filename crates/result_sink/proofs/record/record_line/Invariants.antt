use Rattle.std.proofs.Common.{◌≡◌, take}
use Rattle.csv.specs.Writing.{default_writer, row_body}
use Rattle.bag_meaning.specs.Answer.{row_fields}
use Rattle.result_sink.specs.Ready.{rows_of_combo}
use Rattle.result_sink.proofs.record.record_line.Given as goal

abbrev pub invariant-loop-index : goal.invariant-loop-index
invariant-loop-index l = l.line.items ≡ row_body default_writer (take l.index (row_fields l.block l.tables (rows_of_combo l.block l.combo)))
