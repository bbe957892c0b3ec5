use Rattle.std.proofs.Common.{arith, ◌<◌, ◌+◌, ◌*◌}
use Rattle.turn_board.proofs.Turning.{giving_one}
use Rattle.turn_board.proofs.board.Board.give_as.Goals as goal

pub store-requires : goal.store-requires
store-requires g c = let key = c.args.self.now.table.shared.key in let id = c.args.self.now.table.shared.table_id in let h = c.requires.hold in (
  c.requires.board,
  (let h : 24 + 8 * c.args.slot < id.words = omega (arith, c.args.self.now.words, c.requires.slot) in h),
  giving_one g.K.Kept.history g.K.Kept.extends g.K.Kept.marks g.T.Stamped.same_plan g.T.Stamped.stamp key id.slots c.args.token.now.id c.args.token.now.me h.0 c.args.slot (2 * (c.args.open_keys + 32 * c.args.bound)) h.1 h.2 h.3 h.4 h.5 h.6 (omega (arith, c.args.self.now.deep, c.requires.slot)) h.7 (λ i. 2 * (h.8 i + 32 * h.9 i)),
)
