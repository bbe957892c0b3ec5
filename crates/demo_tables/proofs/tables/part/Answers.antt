use Rattle.std.proofs.Common.{codes, refl}
use Rattle.demo_tables.specs.Demo.{part_row}
use Rattle.demo_tables.proofs.PairLaws.{pairs_fit, pairs_room, pairs_more, number_fits}
use Rattle.demo_tables.proofs.tables.part.Goals as goal

pub push_pair-requires-clause-fits : goal.push_pair-requires-clause-fits
push_pair-requires-clause-fits c =
    pairs_fit (codes "id") (codes "kind") (part_row c.args.shift) c.loop-row.row c.loop-row.table _ _ c.loop-row.invariant (number_fits _ _ c.number.ensures) (number_fits _ _ c.number-in-loop-row.ensures)

pub push_pair-requires-clause-room : goal.push_pair-requires-clause-room
push_pair-requires-clause-room c =
    pairs_room (codes "id") (codes "kind") (part_row c.args.shift) c.loop-row.row c.args.count c.loop-row.table c.loop-row.invariant c.loop-row.auto.row-end c.requires.few

pub loop-row-preserved : goal.loop-row-preserved
loop-row-preserved c =
    pairs_more (codes "id") (codes "kind") (part_row c.args.shift) c.loop-row.row c.loop-row.table c.push_pair.new.table _ _ _ _ c.loop-row.invariant c.number.ensures c.number-in-loop-row.ensures refl
    c.in_ok-push_pair.ensures
