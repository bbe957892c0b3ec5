use Rattle.whole_run.proofs.OneOutcome as law
use Rattle.whole_run.proofs.run.one_outcome.Goals as goal

pub returns : goal.returns
returns c = law.one_outcome
