use Rattle.std.proofs.Common.{sym}
use Rattle.result_sink.proofs.TextLemmas.{answer_text-combos}
use Rattle.result_sink.proofs.WroteLemmas.{wrote_behind, wrote_text, wrote_through}
use Rattle.result_sink.proofs.spreading.par_write_answer.Goals as goal

pub returns-in_err-put_heading : goal.returns-in_err-put_heading
returns-in_err-put_heading g c = record {
  wrote = wrote_text _ _ c.from_residual.result (sym (answer_text-combos c.args.block.now c.args.tables.now c.args.combos.now))
      (wrote_through _ _ c.put_heading.result c.from_residual.result c.in_err-put_heading.field-0.0 c.in_err-put_heading.was
      c.from_residual.ensures.1 c.put_heading.ensures.wrote);
}

pub returns : goal.returns
returns g c = record {
  wrote = wrote_text _ _ c.put_all.result (sym (answer_text-combos c.args.block.now c.args.tables.now c.args.combos.now))
      (wrote_behind _ _ c.put_all.result c.in_ok-put_heading.ensures.wrote c.put_all.ensures.wrote);
}
