use Rattle.std.proofs.Common.{sym, ◌∙◌}
use Rattle.run_plan.proofs.BindingLemmas.{refuses_statement}
use Rattle.run_plan.proofs.preparing.bind_one.Goals as goal

pub returns-in-Ok-clause-ok : goal.returns-in-Ok-clause-ok
returns-in-Ok-clause-ok g c = (sym c.is_shaped.ensures ∙ c.if-is_shaped.false, c.in-Ok.ensures.bound)

pub returns-in-Err-clause-refused : goal.returns-in-Err-clause-refused
returns-in-Err-clause-refused g c =
    rw c.bind_status.ensures (refuses_statement _ c.args.number c.args.statement.now c.in-Err.fault c.in-Err.ensures.fault)
