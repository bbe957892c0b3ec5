use Rattle.index_source.proofs.LookupLemmas.{lookup_rows}
use Rattle.index_source.proofs.laws.lookup_law.Goals as goal

pub returns : goal.returns
returns c = lookup_rows
