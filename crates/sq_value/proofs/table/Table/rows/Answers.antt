use Rattle.std.proofs.Common.{sym}
use Rattle.sq_value.proofs.FlatLemmas.{length-rows_of}
use Rattle.sq_value.proofs.table.Table.rows.Goals as goal

pub returns-clause-count : goal.returns-clause-count
returns-clause-count c = rw (← c.self.view_is) (sym (length-rows_of _ _ _))

pub returns-clause-fits : goal.returns-clause-fits
returns-clause-fits c = rw (← c.self.view_is) c.self.invariant.each
