use Rattle.std.proofs.Common.{arith, ◌≡◌, ◌<◌, ◌+◌, ◌*◌, sym, ap, ◌∙◌, subst, ℕ, eqb, [], ◌∷◌, List}
use prog.Atomic.{either}
use mathlib.Core.Option.{none}
use Rattle.atomic_table.specs.Table.{Allows, step}
use Rattle.turn_board.specs.declared.lot.Lot.{Lot}
use Rattle.turn_board.specs.declared.lot.Lot.TheVariants.{OfPool}
use Rattle.turn_board.specs.Plays.{only, Sat}
use Rattle.turn_board.specs.PoolPlays.{took_pool, TakesPool}
use Rattle.turn_board.specs.Rule.{turn_at, IsBoard}
use Rattle.turn_board.proofs.PoolKeeping.{taking_pool}
use Rattle.turn_board.proofs.board.Board.take_pool_as.Goals as goal

pub compare_exchange-requires : goal.compare_exchange-requires
compare_exchange-requires g c = let key = c.args.self.now.table.shared.key in let id = c.args.self.now.table.shared.table_id in let me = c.args.token.now.me in let m : ℕ = c.args.self.now.modules in
    let one : me ≡ (only me.0 ∷ [], []) = c.requires.one ∙ ap (λ (l : List (ℕ × Lot g.row.K.Denot g.row.T.Denot)). let m : Sat g.row.K.Denot g.row.T.Denot = (only me.0 ∷ [], l) in m) c.requires.idle.0 in (
      c.requires.board,
      (let h : 24 + 8 * m < id.words = omega (arith, c.args.self.now.words) in h),
      subst (λ (u : Sat g.row.K.Denot g.row.T.Denot). Allows (IsBoard g.K.Kept.history g.K.Kept.extends g.K.Kept.marks g.T.Stamped.same_plan g.T.Stamped.stamp key) id.slots c.args.token.now.id u (turn_at m) (λ n. either (eqb n 0) 1 n) (TakesPool g.T.Stamped.same_plan g.T.Stamped.stamp (step id.slots (turn_at m) 0 1 none) u)) (sym one)
          (taking_pool g.K.Kept.history g.K.Kept.extends g.K.Kept.marks g.T.Stamped.same_plan g.T.Stamped.stamp key id.slots c.args.token.now.id (only me.0) m c.requires.idle.1 c.requires.sized (sym c.args.self.now.deep)),
    )

pub returns-clause-took : goal.returns-clause-took
returns-clause-took g c e = let t = c.compare_exchange.ensures.2.1 e in (t.0, t.1, t.2 ∙ ap (λ (j : ℕ). let r : Sat g.row.K.Denot g.row.T.Denot = (took_pool (only c.args.token.now.me.0) t.1 t.0 ∷ [], (j, OfPool t.0) ∷ []) in r) c.requires.sized, t.3, t.4)
