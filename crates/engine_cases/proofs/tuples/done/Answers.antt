use Rattle.std.proofs.Common.{sym, subst}
use Rattle.eddy_meaning.specs.Faithful.{IsSound}
use Rattle.engine_cases.proofs.TupleLemmas.{mark_sound}
use Rattle.engine_cases.proofs.tuples.done.Goals as goal

pub returns-then-is_selectable : goal.returns-then-is_selectable
returns-then-is_selectable c =
    subst (IsSound c.args.block.now c.args.tables.now) (sym c.mark_done.ensures)
    (mark_sound c.args.block.now c.args.tables.now c.args.tuple.now c.args.conjunct c.requires.sound (c.is_selectable.ensures c.if-is_selectable.true))
