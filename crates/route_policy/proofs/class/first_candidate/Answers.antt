use Rattle.std.proofs.Common.{◌≡◌, length, arith, sym, subst}
use Rattle.std.specs.List.{IsFirstBest}
use Rattle.route_policy.proofs.BestLaws.{is_lesser, first_candidate_is}
use Rattle.route_policy.proofs.class.first_candidate.Goals as goal

pub returns-clause-value : goal.returns-clause-value
returns-clause-value c =
    let whole : c.loop-place.place ≡ length c.args.legal.now = omega arith in
    sym (first_candidate_is c.args.legal.now c.loop-place.best
    (subst (λ n. IsFirstBest is_lesser c.args.legal.now n c.loop-place.best) whole c.loop-place.invariant))
