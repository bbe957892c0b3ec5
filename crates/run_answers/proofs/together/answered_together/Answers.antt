use Rattle.std.proofs.Common.{arith}
use Rattle.run_answers.proofs.together.answered_together.Goals as goal

pub run_shared-requires-clause-workers : goal.run_shared-requires-clause-workers
run_shared-requires-clause-workers g c κs within =
    let count = c.in_ok-policies.ensures in
    let some = c.requires.settings.some in
    let few = c.requires.settings.few in
    (omega (arith, count, some), omega (arith, count, few))
