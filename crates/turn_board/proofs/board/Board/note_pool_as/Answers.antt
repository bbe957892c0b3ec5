use Rattle.std.proofs.Common.{arith, ◌<◌, ◌+◌, ◌*◌, sym, subst, ℕ}
use mathlib.Core.Option.{none}
use Rattle.atomic_table.specs.Table.{Allows, step}
use Rattle.turn_board.specs.Plays.{only, Sat}
use Rattle.turn_board.specs.PoolPlays.{NotesPool}
use Rattle.turn_board.specs.Rule.{entries_at, IsBoard}
use Rattle.turn_board.proofs.PoolKeeping.{noting_pool}
use Rattle.turn_board.proofs.board.Board.note_pool_as.Goals as goal

pub store-requires : goal.store-requires
store-requires g c = let key = c.args.self.now.table.shared.key in let id = c.args.self.now.table.shared.table_id in let me = c.args.token.now.me in let m : ℕ = c.args.self.now.modules in let h = c.requires.hold in let v : ℕ = c.args.count in (
  c.requires.board,
  (let b : 25 + 8 * m < id.words = omega (arith, c.args.self.now.words) in b),
  subst (λ (x : ℕ × Sat g.row.K.Denot g.row.T.Denot). Allows (IsBoard g.K.Kept.history g.K.Kept.extends g.K.Kept.marks g.T.Stamped.same_plan g.T.Stamped.stamp key) id.slots c.args.token.now.id x.1 (entries_at x.0) (λ _. v) (λ _. NotesPool (step id.slots (entries_at x.0) v 0 none) x.1 v)) (λ i. (c.args.self.now.deep i, sym h.2 i))
      (noting_pool g.K.Kept.history g.K.Kept.extends g.K.Kept.marks g.T.Stamped.same_plan g.T.Stamped.stamp key g.met.T.Stamped.same g.met.T.Stamped.further id.slots c.args.token.now.id (only me.0) h.0 m v h.1 h.3 h.4 h.5 h.6 h.7),
)

pub returns-clause-noted : goal.returns-clause-noted
returns-clause-noted g c z e = c.store.ensures.2 c.args.self.now.modules z e
