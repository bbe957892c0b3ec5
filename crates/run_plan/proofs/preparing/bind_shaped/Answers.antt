use Rattle.run_plan.proofs.BindingLemmas.{refuses_statement}
use Rattle.run_plan.proofs.preparing.bind_shaped.Goals as goal

pub returns-in-Ok-clause-ok : goal.returns-in-Ok-clause-ok
returns-in-Ok-clause-ok g c = (c.requires.shaped, c.in-Ok.ensures.bound)

pub returns-in-Ok-clause-runs : goal.returns-in-Ok-clause-runs
returns-in-Ok-clause-runs g c = record {
  fits = c.in-Ok.ensures.fits;
  reachable = c.in-Ok.ensures.reachable;
  shaped = record { unordered = c.in-Ok.ensures.unordered; fits = c.in-Ok.ensures.shape_fits };
}

pub returns-in-Err-clause-refused : goal.returns-in-Err-clause-refused
returns-in-Err-clause-refused g c =
    rw c.bind_status.ensures (refuses_statement _ c.args.number c.args.statement.now c.in-Err.fault c.in-Err.ensures.fault)
