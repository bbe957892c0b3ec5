use Rattle.std.proofs.Common.{◌≡◌, ◌<◌, [], ◌∷◌, true, subst, ℕ, Some}
use Rattle.turn_board.specs.declared.lot.Lot.TheVariants.{OfPool}
use Rattle.turn_board.specs.declared.pool.Move.{Move}
use Rattle.turn_board.specs.Sums.{Each}
use Rattle.turn_board.specs.Pools.{PoolState, IsLaterPool}
use Rattle.turn_board.specs.Plays.{only, Sat}
use Rattle.turn_board.specs.PoolPlays.{took_pool}
use Rattle.turn_board.proofs.board.Board.take_pool_turn.Goals as goal

pub returns-then-take_pool_as-eq0-clause-took : goal.returns-then-take_pool_as-eq0-clause-took
returns-then-take_pool_as-eq0-clause-took g c = let t = c.take_pool_as.ensures.took c.if-take_pool_as-eq0.true in
    subst (λ (u : Sat g.row.K.Denot g.row.T.Denot). (y : PoolState g.row.T.Denot) × (top : ℕ) × (c.take_pool_as.new.token.me ≡ (took_pool (only u.0) top y ∷ [], (c.args.self.now.modules, OfPool y) ∷ [])) × ((x : PoolState g.row.T.Denot) → (only u.0).pool_saw ≡ Some x → IsLaterPool g.T.Stamped.same_plan x y) × Each (λ (v : Move g.row.T.Denot). v.put ≡ true → g.T.Stamped.stamp v.item < top) y.moves) c.loop.invariant.same t
