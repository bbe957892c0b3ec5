use Rattle.sq_bind.proofs.ColumnLemmas.{has_none}
use Rattle.sq_bind.proofs.columns.places_of.Goals as goal

pub loop-column-init : goal.loop-column-init
loop-column-init c other = has_none c.new-places.result c.new-places.ensures.empty other
