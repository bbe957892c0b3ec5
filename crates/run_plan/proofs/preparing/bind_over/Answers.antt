use Rattle.std.proofs.Common.{List, sym, subst}
use Rattle.sq_bind.specs.Condition.{calling}
use Rattle.sq_bind.specs.Given.{over}
use Rattle.remote_lookup.specs.declared.remote.Remote.{Remote}
use Rattle.run_plan.specs.Open.{AreReached}
use Rattle.run_plan.proofs.ReachLemmas.{all_remotes}
use Rattle.run_plan.proofs.preparing.bind_over.Goals as goal

pub returns-clause-remotes : goal.returns-clause-remotes
returns-clause-remotes g c =
    let functions = c.args.functions.now in
    let accesses = c.as_slice-2.result.now in
    record {
      opened = c.requires.opened;
      reached = all_remotes c.args.remotes
          (over c.args.catalogue accesses (calling (g.P.Predicates.number_of functions) (g.P.Predicates.kinds_of functions))) 1
          c.args.script.now.statements c.in_ok-statements.statements
          (subst (λ (rs : List Remote). AreReached rs accesses) c.as_slice.ensures
          (subst (AreReached c.as_slice.result.now) (sym c.as_slice-2.ensures.value) c.in_ok-accesses.ensures.reached))
          c.in_ok-statements.ensures.ok;
    }
