use Rattle.eddy_meaning.proofs.ModuleLemmas.{module_rows, seen_rows}
use Rattle.eddy_meaning.proofs.laws.module_laws.Goals as goal

pub returns : goal.returns
returns c = record { rows = module_rows; seen = seen_rows }
