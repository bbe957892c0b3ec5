use Rattle.std.proofs.Common.{◌≡◌, codes}
use Rattle.demo_tables.specs.Demo.{pair_table, stock_row}
use Rattle.demo_tables.proofs.tables.stock.Given as goal

abbrev pub invariant-loop-row : goal.invariant-loop-row
invariant-loop-row l = l.table ≡ pair_table (codes "part") (codes "held") (stock_row l.count l.shift) l.row
