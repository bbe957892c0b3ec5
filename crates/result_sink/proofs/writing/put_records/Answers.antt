use Rattle.std.proofs.Common.{[], refl}
use Rattle.result_sink.specs.Ready.{record_text}
use Rattle.result_sink.proofs.WroteLemmas.{wrote_at}
use Rattle.result_sink.proofs.writing.put_records.Goals as goal

pub returns-in_err-put_record : goal.returns-in_err-put_record
returns-in_err-put_record g c = record {
  wrote = wrote_at (record_text c.args.block.now c.args.tables.now) c.args.combos.now c.loop-combo.combo-index record { rows = []; stamp = 0 } _
      c.put_record.result c.from_residual.result c.in_err-put_record.field-0.0 c.in_err-put_record.was c.from_residual.ensures.1
      c.loop-combo-test.true refl c.loop-combo.invariant.kept c.loop-combo.invariant.added c.put_record.ensures.wrote;
}
