use Rattle.run_plan.proofs.BindingLemmas.{refuses_script}
use Rattle.run_plan.proofs.preparing.parse_script.Goals as goal

pub returns-in-Err-clause-refused : goal.returns-in-Err-clause-refused
returns-in-Err-clause-refused c = rw c.script_status.ensures (refuses_script c.args.text.now c.in-Err.fault c.in-Err.ensures.fault)
