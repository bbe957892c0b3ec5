use Rattle.std.proofs.Common.{arith, ◌+◌, ◌<◌}
use Rattle.turn_board.proofs.Keeping.{claims_one}
use Rattle.turn_board.proofs.board.Board.claim_as.Goals as goal

pub fetch_add-requires : goal.fetch_add-requires
fetch_add-requires g c = let key = c.args.self.now.table.shared.key in let id = c.args.self.now.table.shared.table_id in (
  c.requires.board,
  (let h : 8 + c.args.cursor < id.words = omega (arith, c.args.self.now.words, c.requires.few) in h),
  claims_one g.K.Kept.history g.K.Kept.extends g.K.Kept.marks g.T.Stamped.same_plan g.T.Stamped.stamp key id.slots c.args.token.now.id c.args.token.now.me c.args.cursor c.requires.one c.requires.cursor c.requires.fresh,
)
