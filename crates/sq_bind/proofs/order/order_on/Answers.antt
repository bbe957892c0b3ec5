use Rattle.std.proofs.Common.{Option, map, ap, sym, ◌∙◌}
use Rattle.sq_parse.specs.declared.tree.Name.{Name}
use Rattle.sq_bind.specs.Seen.{seen}
use Rattle.sq_bind.specs.Statement.{candidates, first_named, sorted_on, order_on}
use Rattle.sq_bind.proofs.order.order_on.Goals as goal

pub returns-in-Some : goal.returns-in-Some
unfolding order_on
returns-in-Some c cells held =
    let column = c.args.column.now in
    let place = first_named cells column.column.text in
    let by = λ (a : Option Name). sorted_on (map seen c.args.aliases.now) column place (candidates cells a column.column.text) in
    c.resolved_column.ensures place ∙ ap by (sym c.in-Some.is)

pub returns-in-None : goal.returns-in-None
unfolding order_on
returns-in-None c cells held =
    let column = c.args.column.now in
    let place = first_named cells column.column.text in
    let by = λ (a : Option Name). sorted_on (map seen c.args.aliases.now) column place (candidates cells a column.column.text) in
    c.named_column.ensures cells held ∙ ap by (sym c.in-None.is)
