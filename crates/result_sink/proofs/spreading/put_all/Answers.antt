use Rattle.std.proofs.Common.{◌∙◌, arith}
use Rattle.result_sink.specs.Ready.{record_text}
use Rattle.result_sink.proofs.TextLemmas.{AddsBefore-more}
use Rattle.result_sink.proofs.WroteLemmas.{wrote_before}
use Rattle.result_sink.proofs.spreading.put_all.Goals as goal

pub returns-in_err-put_some : goal.returns-in_err-put_some
returns-in_err-put_some g c = record {
  wrote = wrote_before (record_text c.args.block.now c.args.tables.now) c.args.combos.now _ _ _
      c.put_some.result c.from_residual.result c.in_err-put_some.field-0.0 c.in_err-put_some.was c.from_residual.ensures.1
      c.split_at.ensures.by_index.0 c.loop-rest.invariant.kept c.loop-rest.invariant.added c.put_some.ensures.wrote;
}

pub loop-rest-preserved : goal.loop-rest-preserved
loop-rest-preserved g c =
    let w = c.in_ok-put_some.ensures.wrote in record {
      kept = w.kept ∙ c.loop-rest.invariant.kept;
      counts = omega (arith, c.loop-rest.invariant.counts, w.counts);
      added = AddsBefore-more (record_text c.args.block.now c.args.tables.now) c.args.combos.now _ _ _ _ _ _
          c.split_at.ensures.by_index.0 c.loop-rest.invariant.added w.ok;
    }
