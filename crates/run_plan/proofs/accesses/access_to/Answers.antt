use Rattle.run_plan.proofs.AccessLemmas.{find_here, find_next, access_found}
use Rattle.run_plan.proofs.accesses.access_to.Goals as goal

pub returns-then-access-table : goal.returns-then-access-table
returns-then-access-table c =
    access_found c.args.tables.now c.args.asked.now c.args.table c.access-item.result c.column_asked.result
    (find_here c.args.table c.args.asked.now c.loop-access.access-index c.access-item.result c.loop-access-test.true c.access-item.is c.loop-access.invariant
    c.if-access-table.true)
    c.column_asked.ensures

pub loop-access-preserved : goal.loop-access-preserved
loop-access-preserved c =
    find_next c.args.table c.args.asked.now c.loop-access.access-index c.access-item.result c.loop-access-test.true c.access-item.is c.loop-access.invariant
    c.if-access-table.false
