use Rattle.std.proofs.Common.{sym, subst}
use Rattle.eddy_meaning.specs.Faithful.{IsSound}
use Rattle.eddy_meaning.proofs.SoundLemmas.{IsSound-single}
use Rattle.engine_cases.proofs.tuples.arrived.Goals as goal

pub returns-then-is_row : goal.returns-then-is_row
returns-then-is_row c =
    let there = c.is_row.ensures c.if-is_row.true in
    subst (IsSound c.args.block.now c.args.tables.now) (sym c.single.ensures)
    (IsSound-single c.args.block.now c.args.tables.now c.args.alias c.args.row c.requires.fits.few_aliases there.0 there.1)
