use Rattle.std.proofs.Common.{true, ap, sym, ◌∙◌}
use Rattle.sq_expr.specs.declared.cond.Cond.TheVariants as variants
use Rattle.sq_expr.specs.Membership.{IsPreparedOf, IsDenied}
use Rattle.sq_expr.proofs.MembershipLemmas.{prepared_so}
use Rattle.sq_expr.proofs.membership.denied.Goals as goal

pub returns-in-Any : goal.returns-in-Any
returns-in-Any c =
    prepared_so (IsPreparedOf true c.as_slice.result.now) (IsDenied c.args.part.now) c.prepared_of.result
    (λ m h. (c.as_slice.result.now, c.in-Any.is ∙ ap variants.Any (sym c.as_slice.ensures), h))
    c.prepared_of.ensures
