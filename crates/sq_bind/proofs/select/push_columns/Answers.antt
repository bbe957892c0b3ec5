use Rattle.sq_bind.proofs.SelectLemmas.{all_cells}
use Rattle.sq_bind.proofs.select.push_columns.Goals as goal

pub returns : goal.returns
returns c =
    all_cells c.args.alias c.args.columns.now c.loop-index.index c.loop-index.cells.items _ c.loop-index-test.false c.loop-index.invariant
