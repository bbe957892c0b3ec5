use Rattle.bag_meaning.specs.Answer.{row_fields}
use Rattle.result_sink.specs.Ready.{rows_of_combo}
use Rattle.result_sink.specs.declared.fault.WriteFault.TheVariants as write
use Rattle.result_sink.proofs.TextLemmas.{row_text-some}
use Rattle.result_sink.proofs.WroteLemmas.{wrote_none}
use Rattle.result_sink.proofs.writing.put_record.Goals as goal

pub returns-in-Err : goal.returns-in-Err
returns-in-Err g c = record {
  wrote = wrote_none _ _ _ write.Memory
      (row_text-some (row_fields c.args.block.now c.args.tables.now (rows_of_combo c.args.block.now c.args.combo.now))) (λ e. cc);
}
