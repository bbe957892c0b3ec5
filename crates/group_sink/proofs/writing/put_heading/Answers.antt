use Rattle.result_sink.specs.declared.fault.WriteFault.TheVariants as write
use Rattle.result_sink.proofs.TextLemmas.{row_text-some}
use Rattle.result_sink.proofs.WroteLemmas.{wrote_none}
use Rattle.group_sink.specs.Texts.{heading_fields}
use Rattle.group_sink.proofs.writing.put_heading.Goals as goal

pub returns-in-Err : goal.returns-in-Err
returns-in-Err g c = record { wrote = wrote_none _ _ _ write.Memory (row_text-some (heading_fields c.args.shape.now.cells)) (λ e. cc) }
