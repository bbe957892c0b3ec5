use Rattle.std.proofs.Common.{[], sym}
use Rattle.std.proofs.lemmas.List.{append-nil}
use Rattle.result_sink.specs.declared.fault.WriteFault.TheVariants as write
use Rattle.result_sink.proofs.TextLemmas.{records-some}
use Rattle.result_sink.proofs.WroteLemmas.{wrote_none}
use Rattle.result_sink.proofs.blocks.put_block.Goals as goal

pub returns-in_default-clause-wrote : goal.returns-in_default-clause-wrote
returns-in_default-clause-wrote g c = (
  c.args.combos.now,
  [],
  sym (append-nil c.args.combos.now),
  tt,
  wrote_none _ _ _ write.Memory (records-some c.args.block.now c.args.tables.now c.args.combos.now c.requires.some) (λ e. cc),
)
