use Rattle.sq_bind.specs.Columns.{has}
use Rattle.sq_bind.proofs.columns.is_in.Goals as goal

pub returns : goal.returns
unfolding has
returns c = c.contains.ensures
