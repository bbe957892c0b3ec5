use Rattle.std.proofs.Common.{arith, ◌<◌, ◌+◌, ◌*◌, sym, subst, ℕ}
use mathlib.Core.Option.{none}
use Rattle.atomic_table.specs.Table.{Allows, step}
use Rattle.turn_board.specs.Plays.{only, Sat}
use Rattle.turn_board.specs.PoolPlays.{Raises}
use Rattle.turn_board.specs.Rule.{marks_at, IsBoard}
use Rattle.turn_board.proofs.PoolKeeping.{raising}
use Rattle.turn_board.proofs.board.Board.raise_as.Goals as goal

pub store-requires : goal.store-requires
store-requires g c = let key = c.args.self.now.table.shared.key in let id = c.args.self.now.table.shared.table_id in let me = c.args.token.now.me in let m : ℕ = c.args.self.now.modules in let h = c.requires.hold in let v : ℕ = c.args.top in (
  c.requires.board,
  (let b : 26 + 8 * m < id.words = omega (arith, c.args.self.now.words) in b),
  subst (λ (x : ℕ × Sat g.row.K.Denot g.row.T.Denot). Allows (IsBoard g.K.Kept.history g.K.Kept.extends g.K.Kept.marks g.T.Stamped.same_plan g.T.Stamped.stamp key) id.slots c.args.token.now.id x.1 (marks_at x.0) (λ _. v) (λ _. Raises (step id.slots (marks_at x.0) v 0 none) x.1 v)) (λ i. (c.args.self.now.deep i, sym c.requires.one i))
      (raising g.K.Kept.history g.K.Kept.extends g.K.Kept.marks g.T.Stamped.same_plan g.T.Stamped.stamp key id.slots c.args.token.now.id (only me.0) me.1 h.0 v h.1 h.2 h.3),
)
