use Rattle.sq_bind.proofs.ColumnLemmas.{has_more}
use Rattle.sq_bind.proofs.columns.put_column.Goals as goal

pub returns : goal.returns
returns c other = has_more c.args.places.now c.insert.new.self c.args.column c.in_ok-insert.ensures.updates other
