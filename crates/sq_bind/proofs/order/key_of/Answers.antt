use Rattle.std.proofs.Common.{Result, ap, sym, ◌∙◌}
use Rattle.sq_expr.specs.declared.shape.SortOn.{SortOn}
use Rattle.sq_bind.specs.Statement.{order_key, key_of}
use Rattle.sq_bind.specs.declared.fault.BindFault.{BindFault}
use Rattle.sq_bind.proofs.order.key_of.Goals as goal

pub returns-in-Ok : goal.returns-in-Ok
unfolding key_of
returns-in-Ok c cells held =
    ap (λ (r : Result SortOn BindFault). order_key r c.args.key.now) (sym c.in-Ok.is ∙ c.order_on.ensures cells held)

pub returns : goal.returns
unfolding key_of
returns c cells held =
    ap (λ (r : Result SortOn BindFault). order_key r c.args.key.now) (sym c.in-Err.is ∙ c.order_on.ensures cells held)
