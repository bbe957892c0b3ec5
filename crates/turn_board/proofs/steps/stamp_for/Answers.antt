use Rattle.std.proofs.Common.{◌++◌, sym, ap, ◌∙◌, ℕ}
use Rattle.turn_board.specs.Views.{row_entered}
use Rattle.turn_board.proofs.steps.stamp_for.Goals as goal

pub stamp_as-requires-clause-hold : goal.stamp_as-requires-clause-hold
stamp_as-requires-clause-hold g c = let h = c.requires.hold in (h.0, h.1, h.2, h.3, ap (λ (n : ℕ). row_entered n (g.K.Kept.history h.0.taken ++ h.0.since)) (sym c.requires.picked) ∙ h.4)
