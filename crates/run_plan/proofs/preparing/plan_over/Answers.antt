use Rattle.std.proofs.Common.{length, ap, arith}
use Rattle.command_line.specs.declared.command.AccessWord.{AccessWord}
use Rattle.run_plan.proofs.AccessLemmas.{few_accesses}
use Rattle.run_plan.proofs.preparing.plan_over.Goals as goal

pub bind_over-requires-clause-few : goal.bind_over-requires-clause-few
bind_over-requires-clause-few g c =
    omega (arith, few_accesses c.args.query.now c.requires.asked, ap (length {A = AccessWord}) c.as_slice.ensures)
