use Rattle.std.proofs.Common.{◌≡◌, ◌++◌, take, drop}
use Rattle.route_policy.specs.Pressure.{halved}
use Rattle.route_policy.proofs.pressure.halve.Given as goal

abbrev pub invariant-loop-load : goal.invariant-loop-load
invariant-loop-load l = l.loads ≡ halved (take l.load-index l.initial.loads) ++ drop l.load-index l.initial.loads
