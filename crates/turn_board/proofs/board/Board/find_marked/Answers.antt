use Rattle.std.proofs.Common.{ℕ, List, length, sym, ap, ◌∙◌, arith, ◌<◌, ◌+◌, ◌*◌}
use Rattle.turn_board.specs.declared.lot.Lot.{Lot}
use Rattle.turn_board.specs.Plays.{Sat}
use Rattle.turn_board.proofs.Turning.{finding_marked_one, value_or}
use Rattle.turn_board.proofs.board.Board.find_marked.Goals as goal

pub load-requires : goal.load-requires
load-requires g c = let key = c.args.self.now.table.shared.key in let id = c.args.self.now.table.shared.table_id in let h = c.requires.hold in (
  c.requires.board,
  (let h : 26 + 8 * c.args.slot < id.words = omega (arith, c.args.self.now.words, c.requires.slot) in h),
  finding_marked_one g.K.Kept.history g.K.Kept.extends g.K.Kept.marks g.T.Stamped.same_plan g.T.Stamped.stamp key id.slots c.args.token.now.id c.args.token.now.me h.0 c.args.slot h.1 h.2 h.3 h.4 h.5 h.6 (omega (arith, c.args.self.now.deep, c.requires.slot)) h.7 h.8 h.9 h.10,
)

pub returns-clause-marked : goal.returns-clause-marked
returns-clause-marked g c r z e = let h = c.requires.hold in
    (c.load.ensures.2 c.args.slot z e).0
    (r ∙ h.11 ∙ ap (λ (l : List (ℕ × Lot g.row.K.Denot g.row.T.Denot)). length (g.K.Kept.marks (value_or h.1 l))) (sym (ap (λ (u : Sat g.row.K.Denot g.row.T.Denot). u.1) h.2) ∙ e))

pub returns-clause-other : goal.returns-clause-other
returns-clause-other g c ne = let h = c.requires.hold in
    (c.load.ensures.2 c.args.slot h.1 (ap (λ (u : Sat g.row.K.Denot g.row.T.Denot). u.1) h.2)).1 (λ e. ne (e ∙ sym h.11))
