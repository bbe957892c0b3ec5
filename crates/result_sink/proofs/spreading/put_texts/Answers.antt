use Rattle.result_sink.proofs.WroteLemmas.{wrote_at, wrote_text}
use Rattle.result_sink.proofs.spreading.put_texts.Goals as goal

pub returns-in_err-put_line-clause-wrote : goal.returns-in_err-put_line-clause-wrote
returns-in_err-put_line-clause-wrote g c =
    wrote_at (λ text. text.items) c.args.texts.now c.loop-text.text-index c.text-item.result c.text-item.result
    c.put_line.result c.from_residual.result c.in_err-put_line.field-0.0 c.in_err-put_line.was c.from_residual.ensures.1
    c.loop-text-test.true c.text-item.is c.loop-text.invariant.kept c.loop-text.invariant.added
    (wrote_text _ _ c.put_line.result c.as_slice.ensures.value c.put_line.ensures.wrote)
