use Rattle.std.proofs.Common.{arith, ◌<◌, ◌+◌, ◌*◌}
use Rattle.turn_board.proofs.Turning.{noting_one}
use Rattle.turn_board.proofs.board.Board.write_noted.Goals as goal

pub store-requires : goal.store-requires
store-requires g c = let key = c.args.self.now.table.shared.key in let id = c.args.self.now.table.shared.table_id in let h = c.requires.hold in (
  c.requires.board,
  (let h : 25 + 8 * c.args.slot < id.words = omega (arith, c.args.self.now.words, c.requires.slot) in h),
  noting_one g.K.Kept.history g.K.Kept.extends g.K.Kept.marks g.T.Stamped.same_plan g.T.Stamped.stamp key g.met.K.Kept.same g.met.K.Kept.further id.slots c.args.token.now.id c.args.token.now.me h.0 c.args.slot c.args.count h.1 h.2 h.3 h.4 h.5 (omega (arith, c.args.self.now.deep, c.requires.slot)) h.6 h.7 h.8,
)

pub returns-clause-noted : goal.returns-clause-noted
returns-clause-noted g c z e = c.store.ensures.2 c.args.slot z e
