use Rattle.std.proofs.Common.{sym, ◌∙◌, ap, arith}
use Rattle.std.specs.Prelude.{is_some}
use Rattle.run_plan.proofs.AccessLemmas.{lacking_here, lacking_end, have_next}
use Rattle.run_plan.proofs.accesses.first_lacking.Goals as goal

pub returns-in-None : goal.returns-in-None
returns-in-None c =
    lacking_here c.args.tables.now c.args.asked.now c.loop-index.index c.index-asked-index.result c.loop-index-test.true c.index-asked-index.is c.loop-index.invariant
    (ap is_some (sym c.column_asked.ensures ∙ c.in-None.is))

pub loop-index-preserved : goal.loop-index-preserved
loop-index-preserved c =
    have_next c.args.tables.now c.args.asked.now c.loop-index.index c.index-asked-index.result c.column_asked.result c.in-Some.field-0 c.loop-index-test.true
    c.index-asked-index.is c.loop-index.invariant c.column_asked.ensures c.in-Some.is

pub returns : goal.returns
returns c = sym (lacking_end c.args.tables.now c.args.asked.now c.loop-index.index (omega (arith, c.loop-index-test.false)) c.loop-index.invariant)
