use Rattle.std.specs.List.{IsFirstBest}
use Rattle.route_policy.proofs.BestLaws.{is_lesser}
use Rattle.route_policy.proofs.class.first_candidate.Given as goal

abbrev pub invariant-loop-place : goal.invariant-loop-place
invariant-loop-place l = IsFirstBest is_lesser l.legal l.place l.best
