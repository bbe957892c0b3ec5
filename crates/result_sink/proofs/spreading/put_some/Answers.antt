use Rattle.result_sink.specs.declared.fault.WriteFault.TheVariants as write
use Rattle.result_sink.proofs.TextLemmas.{records-some}
use Rattle.result_sink.proofs.WroteLemmas.{wrote_none}
use Rattle.result_sink.proofs.spreading.put_some.Goals as goal

pub returns-in-Err : goal.returns-in-Err
returns-in-Err g c = record {
  wrote = wrote_none _ _ _ write.Memory (records-some c.args.block.now c.args.tables.now c.args.combos.now c.requires.some) (λ e. cc);
}
