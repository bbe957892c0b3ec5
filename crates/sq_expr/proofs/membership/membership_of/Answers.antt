use Rattle.std.proofs.Common.{false, ap, sym, ◌∙◌}
use Rattle.sq_expr.specs.declared.cond.Cond.TheVariants as variants
use Rattle.sq_expr.specs.Membership.{IsPreparedOf, IsDenied, IsMembership}
use Rattle.sq_expr.proofs.MembershipLemmas.{membership_any, membership_not, prepared_so}
use Rattle.sq_expr.proofs.membership.membership_of.Goals as goal

pub returns-in-Any : goal.returns-in-Any
returns-in-Any c =
    prepared_so (IsPreparedOf false c.as_slice.result.now) (IsMembership c.args.cond.now) c.prepared_of.result
    (λ m h. membership_any c.args.cond.now c.as_slice.result.now m (c.in-Any.is ∙ ap variants.Any (sym c.as_slice.ensures)) h.0 h.1 h.2)
    c.prepared_of.ensures

pub returns-in-Not : goal.returns-in-Not
returns-in-Not c =
    prepared_so (IsDenied c.get.result.now) (IsMembership c.args.cond.now) c.denied.result
    (λ m h. membership_not c.args.cond.now c.get.result.now h.0 m (c.in-Not.is ∙ ap variants.Not (sym c.get.ensures)) h.1 h.2.0 h.2.1 h.2.2)
    c.denied.ensures
