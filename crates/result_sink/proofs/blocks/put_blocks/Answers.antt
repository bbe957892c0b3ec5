use Rattle.std.proofs.Common.{List, ◌++◌, sym, ◌∙◌, ap, arith}
use Rattle.bag_meaning.specs.declared.combo.Combo.{Combo}
use Rattle.result_sink.specs.Ready.{record_text}
use Rattle.result_sink.proofs.TextLemmas.{AddsBefore-more}
use Rattle.result_sink.proofs.WroteLemmas.{wrote_before}
use Rattle.result_sink.proofs.blocks.put_blocks.Goals as goal

pub returns-in_err-rest : goal.returns-in_err-rest
returns-in_err-rest g c =
    let w = c.put_block.ensures.wrote in record {
      wrote = wrote_before (record_text c.args.block.now c.args.tables.now) c.args.combos.now c.loop-rest.rest.now w.0 w.1
          c.put_block.result c.from_residual.result c.in_err-rest.field-0.0 c.in_err-rest.was c.from_residual.ensures.1
          w.2 c.loop-rest.invariant.kept c.loop-rest.invariant.added w.4;
    }

pub loop-rest-preserved : goal.loop-rest-preserved
loop-rest-preserved g c =
    let w = c.in_ok-rest.ensures.wrote in record {
      kept = w.4.kept ∙ c.loop-rest.invariant.kept;
      counts = omega (arith, c.loop-rest.invariant.counts, w.4.counts);
      added = AddsBefore-more (record_text c.args.block.now c.args.tables.now) c.args.combos.now _ _ _ _ _ _
          (w.2 ∙ ap (λ (z : List Combo). w.0 ++ z) (sym w.3)) c.loop-rest.invariant.added w.4.ok;
    }
