use Rattle.std.proofs.Common.{◌≡◌, false, length, ◌++◌, [], ◌∷◌, Some, sym, subst}
use Rattle.turn_board.specs.declared.view.Hold.{Hold}
use Rattle.turn_board.specs.declared.lot.Lot.TheVariants.{OfModule}
use Rattle.turn_board.specs.Plays.{Sat, only}
use Rattle.turn_board.proofs.board.Board.note_as.Goals as goal

-- the look changed nothing
pub write_noted-requires-clause-hold : goal.write_noted-requires-clause-hold
write_noted-requires-clause-hold g c =
    subst
    (λ (me : Sat g.row.K.Denot g.row.T.Denot). (h : Hold g.row.K.Denot) × (z : g.row.K.Denot) × (me ≡ (only me.0 ∷ [], (c.args.slot, OfModule z) ∷ []))
    × ((only me.0).hold ≡ Some h) × (h.noted ≡ false) × (h.slot ≡ c.args.slot) × g.K.Kept.extends h.taken z
    × (g.K.Kept.history z ≡ g.K.Kept.history h.taken ++ h.since) × (c.args.count ≡ length (g.K.Kept.history z)))
    (sym (c.find_noted.ensures.other c.if-find_noted-count.true)) c.requires.hold
