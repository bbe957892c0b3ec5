use Rattle.sq_bind.proofs.VisibleLemmas.{no_column}
use Rattle.sq_bind.proofs.visible.found_among.Goals as goal

pub returns : goal.returns
returns c =
    no_column c.args.alias c.args.name.now c.args.columns.now c.loop-index.index c.loop-index.found _ c.loop-index-test.false c.loop-index.invariant
