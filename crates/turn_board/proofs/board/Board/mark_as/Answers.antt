use Rattle.std.proofs.Common.{◌≡◌, ◌+◌, ◌≤◌, true, false, length, slice_index, [], ◌∷◌, Some, sym, subst}
use mathlib.Core.Option.{some}
use lib.ListN.{get_elem?}
use Rattle.turn_board.specs.declared.view.Hold.{Hold}
use Rattle.turn_board.specs.declared.lot.Lot.TheVariants.{OfModule}
use Rattle.turn_board.specs.Plays.{Sat, only, marked_by}
use Rattle.turn_board.specs.Views.{unended, debts}
use Rattle.turn_board.proofs.board.Board.mark_as.Goals as goal

-- the look changed nothing
pub write_marked-requires-clause-hold : goal.write_marked-requires-clause-hold
write_marked-requires-clause-hold g c =
    subst
    (λ (me : Sat g.row.K.Denot g.row.T.Denot). (h : Hold g.row.K.Denot) × (z : g.row.K.Denot) × (me ≡ (only me.0 ∷ [], (c.args.slot, OfModule z) ∷ []))
    × ((only me.0).hold ≡ Some h) × (h.noted ≡ true) × (h.marked ≡ false) × (h.slot ≡ c.args.slot)
    × (get_elem? (only me.0).saw c.args.slot ≡ some z) × (length (g.K.Kept.marks h.taken) ≤ length (g.K.Kept.marks z))
    × (unended (g.K.Kept.marks h.taken) ≤ slice_index (only me.0).owed c.args.slot + unended (g.K.Kept.marks z))
    × (debts (marked_by g.K.Kept.marks (only me.0) z (Some h)) ≤ 1)
    × (c.args.count ≡ length (g.K.Kept.marks z)))
    (sym (c.find_marked.ensures.other c.if-find_marked-count.true)) c.requires.hold
