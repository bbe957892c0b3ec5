use Rattle.std.proofs.Common.{sym, ap, ◌∙◌}
use Rattle.table_csv.specs.TableFile.{behind_order_marks}
use Rattle.table_csv.proofs.OrderMarkLemmas.{marked-rest, unmarked-rest, unmarked-strip}
use Rattle.table_csv.proofs.reading.behind_order_marks.Goals as goal

pub loop-behind-preserved : goal.loop-behind-preserved
loop-behind-preserved c =
    ap behind_order_marks c.in-Some.ensures.cases.1 ∙ marked-rest c.loop-behind.rest.now c.in-Some.ensures.cases.0 ∙ c.loop-behind.invariant

pub returns-clause-behind : goal.returns-clause-behind
returns-clause-behind c = sym (unmarked-rest c.loop-behind.rest.now c.in_default.ensures.cases) ∙ c.loop-behind.invariant

pub returns-clause-none : goal.returns-clause-none
returns-clause-none c = unmarked-strip c.loop-behind.rest.now c.in_default.ensures.cases
