use Rattle.std.proofs.Common.{◌≡◌, codes}
use Rattle.demo_tables.specs.Demo.{pair_table, sale_row}
use Rattle.demo_tables.proofs.tables.sale.Given as goal

abbrev pub invariant-loop-row : goal.invariant-loop-row
invariant-loop-row l = l.table ≡ pair_table (codes "part") (codes "qty") (sale_row l.count l.shift) l.row
