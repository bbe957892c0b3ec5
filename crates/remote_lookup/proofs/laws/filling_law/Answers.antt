use Rattle.remote_lookup.proofs.FillingLemmas.{filling}
use Rattle.remote_lookup.proofs.laws.filling_law.Goals as goal

pub returns : goal.returns
returns c = λ tables remotes rows keys differ. filling rows tables keys remotes differ
