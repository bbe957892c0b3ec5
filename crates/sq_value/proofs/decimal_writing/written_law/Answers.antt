use Rattle.sq_value.proofs.ReadBackLemmas.{read_back}
use Rattle.sq_value.proofs.decimal_writing.written_law.Goals as goal

pub returns : goal.returns
returns c = read_back
