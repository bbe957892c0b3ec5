use Rattle.group_sink.specs.Texts.{line_text}
use Rattle.result_sink.proofs.WroteLemmas.{wrote_at}
use Rattle.group_sink.proofs.writing.put_records.Goals as goal

pub returns-in_err-put_record : goal.returns-in_err-put_record
returns-in_err-put_record g c = record {
  wrote = wrote_at line_text c.args.lines.now c.loop-shown.shown-index c.shown-item.result c.shown-item.result
      c.put_record.result c.from_residual.result c.in_err-put_record.field-0.0 c.in_err-put_record.was c.from_residual.ensures.1
      c.loop-shown-test.true c.shown-item.is c.loop-shown.invariant.kept c.loop-shown.invariant.added c.put_record.ensures.wrote;
}
