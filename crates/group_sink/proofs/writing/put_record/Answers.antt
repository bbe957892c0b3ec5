use Rattle.std.specs.Prelude.{map}
use Rattle.result_sink.specs.declared.fault.WriteFault.TheVariants as write
use Rattle.result_sink.proofs.TextLemmas.{row_text-some}
use Rattle.result_sink.proofs.WroteLemmas.{wrote_none}
use Rattle.group_sink.specs.Lines.{out_text}
use Rattle.group_sink.proofs.writing.put_record.Goals as goal

pub returns-in-Err : goal.returns-in-Err
returns-in-Err g c = record { wrote = wrote_none _ _ _ write.Memory (row_text-some (map out_text c.args.shown.now.cells)) (λ e. cc) }
