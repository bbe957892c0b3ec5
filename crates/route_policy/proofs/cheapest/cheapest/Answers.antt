use Rattle.std.proofs.Common.{◌≡◌, length, arith, sym, ◌∙◌, subst}
use Rattle.std.specs.List.{IsFirstBest}
use Rattle.route_policy.proofs.BestLaws.{is_before, leads_first, leads_takes, leads_keeps, cheapest_is}
use Rattle.route_policy.proofs.cheapest.cheapest.Goals as goal
use Rattle.route_policy.proofs.cheapest.cheapest.Goals.{then-is_before, else-is_before}

pub loop-place-init : goal.loop-place-init
loop-place-init g c =
    leads_first (g.R.Ranks.class c.args.ranks.now) (g.R.Ranks.cost c.args.ranks.now) c.args.legal.now _ _
    c.rank-rank.ensures.class c.rank-rank.ensures.cost

pub loop-place-preserved : goal.loop-place-preserved
loop-place-preserved g c =
    elim c.if-is_before.branch [
      | then-is_before w ↦
          rw (w.best-is, w.rank-is)
          (leads_takes (g.R.Ranks.class c.args.ranks.now) (g.R.Ranks.cost c.args.ranks.now) c.args.legal.now c.loop-place.place
          c.loop-place.best _ _ _ _ c.loop-place.invariant (omega arith)
          c.rank-other.ensures.class c.rank-other.ensures.cost (sym c.is_before.ensures ∙ w.if-is_before.true))
      | else-is_before w ↦
          rw (w.best-is, w.rank-is)
          (leads_keeps (g.R.Ranks.class c.args.ranks.now) (g.R.Ranks.cost c.args.ranks.now) c.args.legal.now c.loop-place.place
          c.loop-place.best _ _ _ _ c.loop-place.invariant (omega arith)
          c.rank-other.ensures.class c.rank-other.ensures.cost (sym c.is_before.ensures ∙ w.if-is_before.false))
    ]

pub returns-clause-value : goal.returns-clause-value
returns-clause-value g c =
    let class = g.R.Ranks.class c.args.ranks.now in
    let cost = g.R.Ranks.cost c.args.ranks.now in
    let whole : c.loop-place.place ≡ length c.args.legal.now = omega arith in
    sym (cheapest_is class cost c.args.legal.now c.loop-place.best
    (subst (λ n. IsFirstBest (is_before class cost) c.args.legal.now n c.loop-place.best) whole c.loop-place.invariant.first))
