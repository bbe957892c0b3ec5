use Rattle.route_policy.proofs.BestLaws.{Leads}
use Rattle.route_policy.proofs.cheapest.cheapest.Given as goal

abbrev pub invariant-loop-place : goal.invariant-loop-place
invariant-loop-place g l =
    Leads (g.R.Ranks.class l.ranks) (g.R.Ranks.cost l.ranks) l.legal l.place l.best l.rank.class l.rank.cost
