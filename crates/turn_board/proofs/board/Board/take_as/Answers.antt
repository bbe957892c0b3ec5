use Rattle.std.proofs.Common.{arith, ◌≡◌, ◌<◌, ◌+◌, ◌*◌, ◌%◌, ◌/◌, ap, ◌∙◌, subst, ℕ, eqb, [], ◌∷◌, List}
use prog.Atomic.{either}
use mathlib.Core.Option.{none}
use Rattle.atomic_table.specs.Table.{Allows, step}
use Rattle.turn_board.specs.declared.lot.Lot.{Lot}
use Rattle.turn_board.specs.Plays.{only, Sat, Takes}
use Rattle.turn_board.specs.Rule.{turn_at, IsBoard}
use Rattle.turn_board.proofs.Turning.{taking_one}
use Rattle.turn_board.proofs.board.Board.take_as.Goals as goal

pub compare_exchange-requires : goal.compare_exchange-requires
compare_exchange-requires g c = let key = c.args.self.now.table.shared.key in let id = c.args.self.now.table.shared.table_id in let me = c.args.token.now.me in
    let o : ℕ = c.args.found / 2 % 32 in let b : ℕ = c.args.found / 2 / 32 in let e : 2 * (o + 32 * b) ≡ c.args.found = omega (arith, c.requires.found) in let few : o < 32 = omega arith in
    let one : me ≡ (only me.0 ∷ [], []) = c.requires.one ∙ ap (λ (l : List (ℕ × Lot g.row.K.Denot g.row.T.Denot)). let m : Sat g.row.K.Denot g.row.T.Denot = (only me.0 ∷ [], l) in m) c.requires.idle.0 in (
      c.requires.board,
      (let h : 24 + 8 * c.args.slot < id.words = omega (arith, c.args.self.now.words, c.requires.slot) in h),
      subst (λ (n : ℕ). Allows (IsBoard g.K.Kept.history g.K.Kept.extends g.K.Kept.marks g.T.Stamped.same_plan g.T.Stamped.stamp key) id.slots c.args.token.now.id me (turn_at c.args.slot) (λ k. either (eqb k n) (n + 1) k) (Takes g.K.Kept.history g.K.Kept.extends (step id.slots (turn_at c.args.slot) n (n + 1) none) me)) e
          (taking_one g.K.Kept.history g.K.Kept.extends g.K.Kept.marks g.T.Stamped.same_plan g.T.Stamped.stamp key id.slots c.args.token.now.id me c.args.slot o b few one c.requires.idle.1 (omega (arith, c.args.self.now.deep, c.requires.slot))),
    )

pub returns-clause-took : goal.returns-clause-took
returns-clause-took g c e = let o : ℕ = c.args.found / 2 % 32 in let b : ℕ = c.args.found / 2 / 32 in let even : c.args.found ≡ 2 * (o + 32 * b) = omega (arith, c.requires.found) in let few : o < 32 = omega arith in
    let one : c.args.token.now.me ≡ c.args.token.now.me = (λ _. c.args.token.now.me) in
    c.compare_exchange.ensures.2.1 c.args.slot o b (λ _. 24 + 8 * c.args.slot) even few e
