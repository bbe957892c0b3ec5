use Rattle.shared_meaning.proofs.NumberLemmas.{rows_numbered, latest_numbered}
use Rattle.shared_meaning.proofs.UsedLemmas.{used_all}
use Rattle.shared_meaning.proofs.laws.number_laws.Goals as goal

pub returns : goal.returns
returns c = record { used = used_all; rows = rows_numbered; latest = latest_numbered }
