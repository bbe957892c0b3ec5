use Rattle.bag_meaning.specs.Answer.{heading_fields}
use Rattle.result_sink.specs.declared.fault.WriteFault.TheVariants as write
use Rattle.result_sink.proofs.TextLemmas.{row_text-some}
use Rattle.result_sink.proofs.WroteLemmas.{wrote_none}
use Rattle.result_sink.proofs.writing.put_heading.Goals as goal

pub returns-in-Err : goal.returns-in-Err
returns-in-Err g c = record { wrote = wrote_none _ _ _ write.Memory (row_text-some (heading_fields c.args.block.now)) (λ e. cc) }
