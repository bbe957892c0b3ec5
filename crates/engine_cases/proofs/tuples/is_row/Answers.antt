use Rattle.std.proofs.Common.{◌<◌, length, arith}
use Rattle.std.proofs.lemmas.Bool.{ltb-true}
use Rattle.engine_cases.proofs.TupleLemmas.{in_table}
use Rattle.engine_cases.proofs.tuples.is_row.Goals as goal

pub returns : goal.returns
returns c e =
    let below : c.args.row < c.rows.result = ltb-true c.args.row c.rows.result e in
    let low : c.args.row < length c.get.result.now.rows = omega (arith, below, c.rows.ensures.count) in
    in_table c.args.block.now c.args.tables.now c.args.alias c.args.row c.use_of-item.result c.get.result.now c.use_of-item.ensures c.get.ensures low
