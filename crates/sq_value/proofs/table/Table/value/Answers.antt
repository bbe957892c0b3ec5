use Rattle.std.proofs.Common.{◌≡◌, ◌<◌, length, arith}
use Rattle.sq_value.proofs.FlatLemmas.{length-rows_of, place-lt, IsValueAt, IsValueAt-flat}
use Rattle.sq_value.proofs.table.Table.value.Goals as goal

pub index-requires : goal.index-requires
index-requires c =
    let low : c.args.row < length c.args.self.now.rows = c.requires.row_in in
    let row = rw (← c.self.view_is, length-rows_of) at low in
    let left : c.args.column < length c.args.self.now.columns = c.requires.column_in in
    let column = rw (← c.self.view_is) at left in
    let within = place-lt (length c.self.inside.columns.items) c.self.inside.rows c.self.inside.values.items c.args.row c.args.column c.self.invariant.full row column in
    let wide : c.len-width.result ≡ length c.self.inside.columns.items = omega (arith, c.self.inside.columns.ok) in
    rw wide (omega (arith, within, c.self.inside.values.ok))

found : (c : goal.After-index) → IsValueAt c.self.inside.columns.items c.self.inside.rows c.self.inside.values.items c.args.row c.args.column c.index.result.now
found c =
    let low : c.args.row < length c.args.self.now.rows = c.requires.row_in in
    let row = rw (← c.self.view_is, length-rows_of) at low in
    let left : c.args.column < length c.args.self.now.columns = c.requires.column_in in
    let column = rw (← c.self.view_is) at left in
    let wide : c.len-width.result ≡ length c.self.inside.columns.items = omega (arith, c.self.inside.columns.ok) in
    IsValueAt-flat _ _ _ _ _ _ _ c.self.invariant.full c.self.invariant.each row column wide c.index.ensures

pub returns-clause-value : goal.returns-clause-value
returns-clause-value c = rw (← c.self.view_is) (found c).at

pub returns-clause-kind : goal.returns-clause-kind
returns-clause-kind c = rw (← c.self.view_is) (found c).kind
