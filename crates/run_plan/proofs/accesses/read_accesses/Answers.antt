use Rattle.std.proofs.Common.{sym, ◌∙◌, Ok, subst, List}
use Rattle.sq_expr.specs.declared.block.Access.{Access}
use Rattle.sq_bind.specs.Given.{AreAccesses}
use Rattle.run_plan.specs.Accesses.{accesses_read}
use Rattle.run_plan.specs.Open.{AreReached}
use Rattle.run_plan.specs.Steps.{ComesTo}
use Rattle.run_plan.proofs.AccessLemmas.{accesses_ok, accesses_refused, accesses_fit, accesses_reach, all_have}
use Rattle.run_plan.proofs.accesses.read_accesses.Goals as goal

pub returns-in-Some-clause-refused : goal.returns-in-Some-clause-refused
returns-in-Some-clause-refused c =
    accesses_refused c.args.tables.now c.args.asked.now c.args.remotes.now c.in-Some.access (sym c.first_lacking.ensures ∙ c.in-Some.is)

pub returns-in-Ok-clause-ok : goal.returns-in-Ok-clause-ok
returns-in-Ok-clause-ok c =
    subst (λ (xs : List Access). ComesTo (accesses_read c.args.tables.now c.args.asked.now c.args.remotes.now) (Ok xs)) (sym c.in-Ok.ensures)
    (accesses_ok c.args.tables.now c.args.asked.now c.args.remotes.now (sym c.first_lacking.ensures ∙ c.in-None.is))

pub returns-in-Ok-clause-fit : goal.returns-in-Ok-clause-fit
returns-in-Ok-clause-fit c =
    subst (AreAccesses c.args.tables.now) (sym c.in-Ok.ensures)
    (accesses_fit c.args.tables.now c.args.asked.now c.args.remotes.now
    (all_have c.args.tables.now 1 c.args.asked.now (sym c.first_lacking.ensures ∙ c.in-None.is)) c.requires.opened.each)

pub returns-in-Ok-clause-reached : goal.returns-in-Ok-clause-reached
returns-in-Ok-clause-reached c =
    subst (AreReached c.args.remotes.now) (sym c.in-Ok.ensures)
    (accesses_reach c.args.tables.now c.args.asked.now c.args.remotes.now c.requires.opened.each)
