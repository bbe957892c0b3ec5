use Rattle.sq_bind.proofs.ColumnLemmas.{has_none}
use Rattle.sq_bind.proofs.columns.shown_of.Goals as goal

pub loop-cell-init : goal.loop-cell-init
loop-cell-init c other = has_none c.new-places.result c.new-places.ensures.empty other
