use Rattle.run_plan.proofs.DoingLemmas.{stopped_memory}
use Rattle.run_plan.proofs.opening.open_remote.Goals as goal

pub returns-in-Err-clause-stopped : goal.returns-in-Err-clause-stopped
returns-in-Err-clause-stopped g c =
    let w = c.in_ok-heading.ensures.went in
    stopped_memory _ _ _ _ _ _ _ w w.agrees
