use Rattle.eddy_runs.proofs.AskableLemmas.{step_falls, run_bounded}
use Rattle.eddy_runs.proofs.laws.work_laws.Goals as goal

pub returns : goal.returns
returns c = record { falls = step_falls; ends = run_bounded }
