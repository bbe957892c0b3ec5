use Rattle.shared_meaning.proofs.CloseLemmas.{found_for}
use Rattle.shared_meaning.proofs.LatestLemmas.{found_latest}
use Rattle.shared_meaning.proofs.laws.found_laws.Goals as goal

pub returns : goal.returns
returns c = record { found = found_for; latest = found_latest }
