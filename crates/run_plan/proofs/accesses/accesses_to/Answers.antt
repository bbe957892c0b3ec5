use Rattle.run_plan.specs.Accesses.{reach_to}
use Rattle.run_plan.proofs.AccessLemmas.{accesses_next}
use Rattle.run_plan.proofs.accesses.accesses_to.Goals as goal

pub loop-table-preserved : goal.loop-table-preserved
loop-table-preserved c =
    accesses_next (reach_to c.args.tables.now c.args.asked.now c.args.remotes.now) c.loop-table.table c.loop-table.accesses.items _ c.reach_to.result c.loop-table.invariant
    c.in_ok-push.ensures.items c.reach_to.ensures
