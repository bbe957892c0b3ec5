use Rattle.std.proofs.Common.{refl}
use Rattle.sq_parse.specs.Reader as read
use Rattle.sq_parse.proofs.select.key.Goals as goal

pub returns : goal.returns
unfolding read.key
returns c = rw (c.in_ok-column.ensures, c.falls-descending.ensures, c.in_ok-nulls_first.ensures, c.unwrap_or-nulls_first.ensures) refl
