use Rattle.std.proofs.Common.{arith}
use Rattle.route_policy.proofs.PressureLaws.{halved_more}
use Rattle.route_policy.proofs.pressure.halve.Goals as goal

pub loop-load-preserved : goal.loop-load-preserved
loop-load-preserved c = halved_more c.args.loads.now c.loop-load.loads c.loop-load.load-index (omega arith) c.loop-load.invariant
