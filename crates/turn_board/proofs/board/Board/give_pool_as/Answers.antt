use Rattle.std.proofs.Common.{arith, ◌<◌, ◌+◌, ◌*◌, sym, subst, ℕ, [], ◌∷◌}
use mathlib.Core.Option.{none}
use Rattle.atomic_table.specs.Table.{Allows, step}
use Rattle.turn_board.specs.declared.lot.Lot.TheVariants.{OfPool}
use Rattle.turn_board.specs.Plays.{only, Sat}
use Rattle.turn_board.specs.PoolPlays.{GivesPool}
use Rattle.turn_board.specs.Rule.{turn_at, IsBoard}
use Rattle.turn_board.proofs.PoolKeeping.{giving_pool}
use Rattle.turn_board.proofs.board.Board.give_pool_as.Goals as goal

pub store-requires : goal.store-requires
store-requires g c = let key = c.args.self.now.table.shared.key in let id = c.args.self.now.table.shared.table_id in let me = c.args.token.now.me in let m : ℕ = c.args.self.now.modules in let h = c.requires.hold in (
  c.requires.board,
  (let b : 24 + 8 * m < id.words = omega (arith, c.args.self.now.words) in b),
  subst (λ (u : Sat g.row.K.Denot g.row.T.Denot). Allows (IsBoard g.K.Kept.history g.K.Kept.extends g.K.Kept.marks g.T.Stamped.same_plan g.T.Stamped.stamp key) id.slots c.args.token.now.id u (turn_at m) (λ _. 0) (λ _. GivesPool (step id.slots (turn_at m) 0 0 none) u 0)) (sym h.2)
      (subst (λ (j : ℕ). Allows (IsBoard g.K.Kept.history g.K.Kept.extends g.K.Kept.marks g.T.Stamped.same_plan g.T.Stamped.stamp key) id.slots c.args.token.now.id (only me.0 ∷ [], (j, OfPool h.1) ∷ []) (turn_at j) (λ _. 0) (λ _. GivesPool (step id.slots (turn_at j) 0 0 none) (only me.0 ∷ [], (j, OfPool h.1) ∷ []) 0)) c.args.self.now.deep
      (giving_pool g.K.Kept.history g.K.Kept.extends g.K.Kept.marks g.T.Stamped.same_plan g.T.Stamped.stamp key id.slots c.args.token.now.id (only me.0) h.0 h.1 h.3 h.4 h.5)),
)
