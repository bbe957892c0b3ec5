use Rattle.run_plan.proofs.FilesLemmas.{refuses_bytes}
use Rattle.run_plan.proofs.loading.table_of.Goals as goal

pub returns-in-Err-clause-refused : goal.returns-in-Err-clause-refused
returns-in-Err-clause-refused c = rw c.table_status.ensures (refuses_bytes c.args.number c.args.bytes.now c.in-Err.fault c.in-Err.ensures.fault)
