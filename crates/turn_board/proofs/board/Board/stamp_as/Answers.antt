use Rattle.std.proofs.Common.{arith, ◌<◌}
use Rattle.turn_board.proofs.Turning.{drawing_one}
use Rattle.turn_board.proofs.board.Board.stamp_as.Goals as goal

pub fetch_add-requires : goal.fetch_add-requires
fetch_add-requires g c = let key = c.args.self.now.table.shared.key in let id = c.args.self.now.table.shared.table_id in let h = c.requires.hold in (
  c.requires.board,
  (let h : 0 < id.words = omega (arith, c.args.self.now.words) in h),
  drawing_one g.K.Kept.history g.K.Kept.extends g.K.Kept.marks g.T.Stamped.same_plan g.T.Stamped.stamp key id.slots c.args.token.now.id c.args.token.now.me h.0 g.D.DrawFor.of_row c.requires.one h.1 h.2 (omega (arith, c.args.self.now.deep, h.3)) c.requires.row h.4,
)
