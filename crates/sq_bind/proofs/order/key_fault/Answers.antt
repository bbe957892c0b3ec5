use Rattle.std.proofs.Common.{◌≡◌, ℕ, Result, map, ap, ◌∙◌}
use Rattle.sq_expr.specs.declared.shape.SortOn.{SortOn}
use Rattle.sq_parse.specs.Tree.{column_place}
use Rattle.sq_bind.specs.Fault.{first_of}
use Rattle.sq_bind.specs.Seen.{seen, sorting}
use Rattle.sq_bind.specs.Statement.{order_faults, order_on, key_faults}
use Rattle.sq_bind.specs.declared.fault.BindFault.{BindFault}
use Rattle.sq_bind.proofs.order.key_fault.Goals as goal

pub returns : goal.returns
unfolding key_faults
returns c =
    let by = sorting c.args.by in
    let column = c.args.key.now.column in
    let on : c.order_on-on.result ≡ order_on (map seen c.args.aliases.now) c.args.by.cells.now column =
    c.order_on-on.ensures c.args.by.cells.now c.requires in
    c.order_fault.ensures
    ∙ ap (λ (at : ℕ). first_of (order_faults by at c.order_on-on.result)) c.column_place.ensures
    ∙ ap (λ (r : Result SortOn BindFault). first_of (order_faults by (column_place column) r)) on
