use Rattle.std.proofs.Common.{Bool, List, map, ap, ◌∙◌}
use Rattle.sq_parse.specs.Shaped.{is_grouped}
use Rattle.sq_parse.specs.declared.tree.OrderItem.{OrderItem}
use Rattle.sq_parse.specs.declared.tree.Statement.{Statement}
use Rattle.sq_expr.specs.declared.cond.ColumnOf.{ColumnOf}
use Rattle.sq_expr.specs.declared.shape.Cell.{Cell}
use Rattle.sq_expr.specs.declared.shape.ShapeOrder.{ShapeOrder}
use Rattle.sq_expr.specs.declared.shape.Shape.{Shape}
use Rattle.sq_bind.specs.Seen.{seen}
use Rattle.sq_bind.specs.Statement.{grouping_of, cells_of, key_of, shape_in}
use Rattle.sq_bind.proofs.block.shape_of.Goals as goal

abbrev shape_with : Statement → Bool → List ColumnOf → List Cell → List ShapeOrder → Shape
shape_with s b ks cs os =
    record { grouped = b; keys = ks; cells = cs; order = os; distinct = s.distinct; limit = s.limit }

pub returns : goal.returns
unfolding shape_in
returns c =
    let s = c.args.statement.now in
    let aliases = map seen c.args.aliases.now in
    let shown = c.args.cells.items in
    let keys = c.from_vec.ensures ∙ c.requires.keys in
    let cells = c.from_vec-2.ensures ∙ c.requires.cells in
    let order = c.in_ok-order.ensures shown c.requires.names
    ∙ ap (λ (os : List OrderItem). map (key_of aliases shown) os) c.as_slice.ensures
    ∙ ap (λ (cs : List Cell). map (key_of aliases cs) s.order) c.requires.cells in
    ap (λ (b : Bool). shape_with s b c.from_vec.result c.from_vec-2.result c.in_ok-order.order) c.is_grouped.ensures
    ∙ ap (λ (ks : List ColumnOf). shape_with s (is_grouped s) ks c.from_vec-2.result c.in_ok-order.order) keys
    ∙ ap (λ (cs : List Cell). shape_with s (is_grouped s) (grouping_of aliases s.groups) cs c.in_ok-order.order) cells
    ∙ ap (λ (os : List ShapeOrder). shape_with s (is_grouped s) (grouping_of aliases s.groups) (cells_of aliases s.items) os) order
