use Rattle.std.proofs.Common.{◌≡◌, codes}
use Rattle.demo_tables.specs.Demo.{pair_table, part_row}
use Rattle.demo_tables.proofs.tables.part.Given as goal

abbrev pub invariant-loop-row : goal.invariant-loop-row
invariant-loop-row l = l.table ≡ pair_table (codes "id") (codes "kind") (part_row l.shift) l.row
