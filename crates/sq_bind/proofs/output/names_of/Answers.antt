use Rattle.sq_bind.proofs.OrderLemmas.{no_cells}
use Rattle.sq_bind.proofs.output.names_of.Goals as goal

pub loop-index-init : goal.loop-index-init
loop-index-init c = no_cells c.new-names.result.entries c.new-names.ensures.empty
