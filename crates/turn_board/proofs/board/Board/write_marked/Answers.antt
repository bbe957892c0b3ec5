use Rattle.std.proofs.Common.{arith, ◌<◌, ◌+◌, ◌*◌}
use Rattle.turn_board.proofs.Turning.{marking_one}
use Rattle.turn_board.proofs.board.Board.write_marked.Goals as goal

pub store-requires : goal.store-requires
store-requires g c = let key = c.args.self.now.table.shared.key in let id = c.args.self.now.table.shared.table_id in let h = c.requires.hold in (
  c.requires.board,
  (let h : 26 + 8 * c.args.slot < id.words = omega (arith, c.args.self.now.words, c.requires.slot) in h),
  marking_one g.K.Kept.history g.K.Kept.extends g.K.Kept.marks g.T.Stamped.same_plan g.T.Stamped.stamp key id.slots c.args.token.now.id c.args.token.now.me h.0 c.args.slot c.args.count h.1 h.2 h.3 h.4 h.5 h.6 (omega (arith, c.args.self.now.deep, c.requires.slot)) h.7 h.8 h.9 h.10 h.11,
)

pub returns-clause-marked : goal.returns-clause-marked
returns-clause-marked g c z e = c.store.ensures.2 c.args.slot z e
