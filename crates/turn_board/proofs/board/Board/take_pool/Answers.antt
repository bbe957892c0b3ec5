use Rattle.std.proofs.Common.{arith, ◌≡◌, ◌<◌, ◌≤◌, [], ◌∷◌, true, false, sym, refl, ap, ◌∙◌, subst, ℕ, List, Option, Some, length}
use Rattle.turn_board.specs.declared.view.SeatView.{SeatView}
use Rattle.turn_board.specs.declared.view.Hold.{Hold}
use Rattle.turn_board.specs.declared.view.PoolHold.{PoolHold}
use Rattle.turn_board.specs.declared.seat.Seat.{Seat}
use Rattle.turn_board.specs.declared.lot.Lot.{Lot}
use Rattle.turn_board.specs.declared.lot.Lot.TheVariants.{Out, OfPool}
use Rattle.turn_board.specs.declared.pool.Move.{Move}
use Rattle.turn_board.specs.Sums.{Each}
use Rattle.turn_board.specs.Pools.{PoolState, IsLaterPool}
use Rattle.turn_board.specs.Plays.{only, Sat}
use Rattle.turn_board.specs.PoolPlays.{took_pool, learnt, bound_by}
use Rattle.turn_board.specs.Tokens.{view_at}
use Rattle.turn_board.specs.Boards.{Completes, view}
use Rattle.turn_board.proofs.Rosters.{each_of}
use Rattle.turn_board.proofs.PoolKeeping.{pooled_or}
use Rattle.turn_board.proofs.Completions.{completes_less}
use Rattle.turn_board.proofs.Seats.{seat_as}
use Rattle.turn_board.proofs.board.Board.take_pool.Goals as goal

pub learn_as-seat-requires-clause-hold : goal.learn_as-seat-requires-clause-hold
learn_as-seat-requires-clause-hold g c = let t = c.take_pool_turn.ensures.took in let p : SeatView g.row.K.Denot g.row.T.Denot = view c.args.seat.now in let m : ℕ = c.args.self.now.modules in
    let h : PoolHold g.row.T.Denot = record { taken = t.0; top = t.1; noted = false } in
    let has : (view_at c.take_pool_turn.new.token).pooling ≡ Some h = ap (λ (u : Sat g.row.K.Denot g.row.T.Denot). (only u.0).pooling) t.2 in (h, has)

pub take_pool_out-requires-clause-out : goal.take_pool_out-requires-clause-out
take_pool_out-requires-clause-out g c = let t = c.take_pool_turn.ensures.took in let p : SeatView g.row.K.Denot g.row.T.Denot = view c.args.seat.now in let m : ℕ = c.args.self.now.modules in
    let h : PoolHold g.row.T.Denot = record { taken = t.0; top = t.1; noted = false } in
    let has : (view_at c.take_pool_turn.new.token).pooling ≡ Some h = ap (λ (u : Sat g.row.K.Denot g.row.T.Denot). (only u.0).pooling) t.2 in
    let l = c.learn_as-seat.ensures.learnt h has in let n : ℕ = c.learn_as-seat.result in
    let me2 : c.learn_as-seat.new.token.me ≡ (learnt (took_pool p t.1 t.0) n ∷ [], (m, OfPool t.0) ∷ []) = l.2 ∙ ap (λ (u : Sat g.row.K.Denot g.row.T.Denot). let r : Sat g.row.K.Denot g.row.T.Denot = (learnt (only u.0) n ∷ [], u.1) in r) t.2 in (t.0, ap (λ (u : Sat g.row.K.Denot g.row.T.Denot). u.1) me2)

pub returns-clause-seat : goal.returns-clause-seat
returns-clause-seat g c = let t = c.take_pool_turn.ensures.took in let p : SeatView g.row.K.Denot g.row.T.Denot = view c.args.seat.now in let m : ℕ = c.args.self.now.modules in
    let h : PoolHold g.row.T.Denot = record { taken = t.0; top = t.1; noted = false } in
    let has : (view_at c.take_pool_turn.new.token).pooling ≡ Some h = ap (λ (u : Sat g.row.K.Denot g.row.T.Denot). (only u.0).pooling) t.2 in
    let l = c.learn_as-seat.ensures.learnt h has in let n : ℕ = c.learn_as-seat.result in
    let me2 : c.learn_as-seat.new.token.me ≡ (learnt (took_pool p t.1 t.0) n ∷ [], (m, OfPool t.0) ∷ []) = l.2 ∙ ap (λ (u : Sat g.row.K.Denot g.row.T.Denot). let r : Sat g.row.K.Denot g.row.T.Denot = (learnt (only u.0) n ∷ [], u.1) in r) t.2 in
    let y : PoolState g.row.T.Denot = c.take_pool_out.result in
    let same : t.0 ≡ y = ap (λ (l : List (ℕ × Lot g.row.K.Denot g.row.T.Denot)). pooled_or t.0 l) (sym (ap (λ (u : Sat g.row.K.Denot g.row.T.Denot). u.1) me2) ∙ c.take_pool_out.ensures.value) in
    let q : SeatView g.row.K.Denot g.row.T.Denot = learnt (took_pool p t.1 y) t.1 in
    let e : c.take_pool_out.new.token.me ≡ (q ∷ [], (m, Out) ∷ []) = c.take_pool_out.ensures.out ∙ (ap (λ (u : Sat g.row.K.Denot g.row.T.Denot). let r : Sat g.row.K.Denot g.row.T.Denot = (u.0, (m, Out) ∷ []) in r) me2
    ∙ (λ i. (learnt (took_pool p t.1 (same i)) (l.0 i) ∷ [], (m, Out) ∷ []))) in
    let new : Seat g.row.K.Denot g.row.T.Denot = record { token = c.take_pool_out.new.token; dry = c.args.seat.now.dry; bound = n; last = c.args.self.now.modules } in
    seat_as c.args.self.now c.args.seat.now new c.requires.seat q ((m, Out) ∷ []) (c.take_pool_out.ensures.board ∙ (c.learn_as-seat.ensures.board.0 ∙ c.take_pool_turn.ensures.board)) e refl refl c.requires.seat.dry
    (l.0 ∙ sym (ap (λ (o : Option (Hold g.row.K.Denot)). bound_by o q.pooling) c.requires.idle.hold)) (omega (arith, l.1)) (omega (arith, l.0, l.1, c.requires.seat.near.1)) c.requires.seat.thrifty (λ k. let a = c.requires.seat.tops k in omega arith)

pub returns-clause-pooling : goal.returns-clause-pooling
returns-clause-pooling g c = let t = c.take_pool_turn.ensures.took in let p : SeatView g.row.K.Denot g.row.T.Denot = view c.args.seat.now in let m : ℕ = c.args.self.now.modules in
    let h : PoolHold g.row.T.Denot = record { taken = t.0; top = t.1; noted = false } in
    let has : (view_at c.take_pool_turn.new.token).pooling ≡ Some h = ap (λ (u : Sat g.row.K.Denot g.row.T.Denot). (only u.0).pooling) t.2 in
    let l = c.learn_as-seat.ensures.learnt h has in let n : ℕ = c.learn_as-seat.result in
    let me2 : c.learn_as-seat.new.token.me ≡ (learnt (took_pool p t.1 t.0) n ∷ [], (m, OfPool t.0) ∷ []) = l.2 ∙ ap (λ (u : Sat g.row.K.Denot g.row.T.Denot). let r : Sat g.row.K.Denot g.row.T.Denot = (learnt (only u.0) n ∷ [], u.1) in r) t.2 in
    let y : PoolState g.row.T.Denot = c.take_pool_out.result in
    let same : t.0 ≡ y = ap (λ (l : List (ℕ × Lot g.row.K.Denot g.row.T.Denot)). pooled_or t.0 l) (sym (ap (λ (u : Sat g.row.K.Denot g.row.T.Denot). u.1) me2) ∙ c.take_pool_out.ensures.value) in
    let q : SeatView g.row.K.Denot g.row.T.Denot = learnt (took_pool p t.1 y) t.1 in
    let e : c.take_pool_out.new.token.me ≡ (q ∷ [], (m, Out) ∷ []) = c.take_pool_out.ensures.out ∙ (ap (λ (u : Sat g.row.K.Denot g.row.T.Denot). let r : Sat g.row.K.Denot g.row.T.Denot = (u.0, (m, Out) ∷ []) in r) me2
    ∙ (λ i. (learnt (took_pool p t.1 (same i)) (l.0 i) ∷ [], (m, Out) ∷ []))) in
    let new : Seat g.row.K.Denot g.row.T.Denot = record { token = c.take_pool_out.new.token; dry = c.args.seat.now.dry; bound = n; last = c.args.self.now.modules } in
    let h' : PoolHold g.row.T.Denot = record { taken = y; top = t.1; noted = false } in record {
      out = ap (λ (u : Sat g.row.K.Denot g.row.T.Denot). u.1) e ∙ ap (λ (j : ℕ). let r : List (ℕ × Lot g.row.K.Denot g.row.T.Denot) = (j, Out) ∷ [] in r) (sym (ap (λ (u : Sat g.row.K.Denot g.row.T.Denot). length (only u.0).saw) e ∙ c.requires.seat.sized));
      turn = h';
      pooling = ap (λ (u : Sat g.row.K.Denot g.row.T.Denot). (only u.0).pooling) e;
      taken = refl;
      unnoted = refl;
      below = subst (λ (z : PoolState g.row.T.Denot). Each (λ (v : Move g.row.T.Denot). v.put ≡ true → g.T.Stamped.stamp v.item < t.1) z.moves) same t.4;
      top = subst (λ (u : Sat g.row.K.Denot g.row.T.Denot). t.1 ≤ (only u.0).reach) (sym e) (omega arith);
      hold = ap (λ (u : Sat g.row.K.Denot g.row.T.Denot). (only u.0).hold) e ∙ c.requires.idle.hold;
    }

pub returns-clause-later : goal.returns-clause-later
returns-clause-later g c x saw = let t = c.take_pool_turn.ensures.took in let p : SeatView g.row.K.Denot g.row.T.Denot = view c.args.seat.now in let m : ℕ = c.args.self.now.modules in
    let h : PoolHold g.row.T.Denot = record { taken = t.0; top = t.1; noted = false } in
    let has : (view_at c.take_pool_turn.new.token).pooling ≡ Some h = ap (λ (u : Sat g.row.K.Denot g.row.T.Denot). (only u.0).pooling) t.2 in
    let l = c.learn_as-seat.ensures.learnt h has in let n : ℕ = c.learn_as-seat.result in
    let me2 : c.learn_as-seat.new.token.me ≡ (learnt (took_pool p t.1 t.0) n ∷ [], (m, OfPool t.0) ∷ []) = l.2 ∙ ap (λ (u : Sat g.row.K.Denot g.row.T.Denot). let r : Sat g.row.K.Denot g.row.T.Denot = (learnt (only u.0) n ∷ [], u.1) in r) t.2 in
    let y : PoolState g.row.T.Denot = c.take_pool_out.result in
    let same : t.0 ≡ y = ap (λ (l : List (ℕ × Lot g.row.K.Denot g.row.T.Denot)). pooled_or t.0 l) (sym (ap (λ (u : Sat g.row.K.Denot g.row.T.Denot). u.1) me2) ∙ c.take_pool_out.ensures.value) in
    let q : SeatView g.row.K.Denot g.row.T.Denot = learnt (took_pool p t.1 y) t.1 in
    let e : c.take_pool_out.new.token.me ≡ (q ∷ [], (m, Out) ∷ []) = c.take_pool_out.ensures.out ∙ (ap (λ (u : Sat g.row.K.Denot g.row.T.Denot). let r : Sat g.row.K.Denot g.row.T.Denot = (u.0, (m, Out) ∷ []) in r) me2
    ∙ (λ i. (learnt (took_pool p t.1 (same i)) (l.0 i) ∷ [], (m, Out) ∷ []))) in
    let new : Seat g.row.K.Denot g.row.T.Denot = record { token = c.take_pool_out.new.token; dry = c.args.seat.now.dry; bound = n; last = c.args.self.now.modules } in subst (λ (z : PoolState g.row.T.Denot). IsLaterPool g.T.Stamped.same_plan x z) same (t.3 x saw)

pub returns-clause-view : goal.returns-clause-view
returns-clause-view g c = let t = c.take_pool_turn.ensures.took in let p : SeatView g.row.K.Denot g.row.T.Denot = view c.args.seat.now in let m : ℕ = c.args.self.now.modules in
    let h : PoolHold g.row.T.Denot = record { taken = t.0; top = t.1; noted = false } in
    let has : (view_at c.take_pool_turn.new.token).pooling ≡ Some h = ap (λ (u : Sat g.row.K.Denot g.row.T.Denot). (only u.0).pooling) t.2 in
    let l = c.learn_as-seat.ensures.learnt h has in let n : ℕ = c.learn_as-seat.result in
    let me2 : c.learn_as-seat.new.token.me ≡ (learnt (took_pool p t.1 t.0) n ∷ [], (m, OfPool t.0) ∷ []) = l.2 ∙ ap (λ (u : Sat g.row.K.Denot g.row.T.Denot). let r : Sat g.row.K.Denot g.row.T.Denot = (learnt (only u.0) n ∷ [], u.1) in r) t.2 in
    let y : PoolState g.row.T.Denot = c.take_pool_out.result in
    let same : t.0 ≡ y = ap (λ (l : List (ℕ × Lot g.row.K.Denot g.row.T.Denot)). pooled_or t.0 l) (sym (ap (λ (u : Sat g.row.K.Denot g.row.T.Denot). u.1) me2) ∙ c.take_pool_out.ensures.value) in
    let q : SeatView g.row.K.Denot g.row.T.Denot = learnt (took_pool p t.1 y) t.1 in
    let e : c.take_pool_out.new.token.me ≡ (q ∷ [], (m, Out) ∷ []) = c.take_pool_out.ensures.out ∙ (ap (λ (u : Sat g.row.K.Denot g.row.T.Denot). let r : Sat g.row.K.Denot g.row.T.Denot = (u.0, (m, Out) ∷ []) in r) me2
    ∙ (λ i. (learnt (took_pool p t.1 (same i)) (l.0 i) ∷ [], (m, Out) ∷ []))) in
    let new : Seat g.row.K.Denot g.row.T.Denot = record { token = c.take_pool_out.new.token; dry = c.args.seat.now.dry; bound = n; last = c.args.self.now.modules } in (t.1, ap (λ (u : Sat g.row.K.Denot g.row.T.Denot). only u.0) e)

pub returns-clause-learnt : goal.returns-clause-learnt
returns-clause-learnt g c = let t = c.take_pool_turn.ensures.took in let p : SeatView g.row.K.Denot g.row.T.Denot = view c.args.seat.now in let m : ℕ = c.args.self.now.modules in
    let h : PoolHold g.row.T.Denot = record { taken = t.0; top = t.1; noted = false } in
    let has : (view_at c.take_pool_turn.new.token).pooling ≡ Some h = ap (λ (u : Sat g.row.K.Denot g.row.T.Denot). (only u.0).pooling) t.2 in
    let l = c.learn_as-seat.ensures.learnt h has in let n : ℕ = c.learn_as-seat.result in
    let me2 : c.learn_as-seat.new.token.me ≡ (learnt (took_pool p t.1 t.0) n ∷ [], (m, OfPool t.0) ∷ []) = l.2 ∙ ap (λ (u : Sat g.row.K.Denot g.row.T.Denot). let r : Sat g.row.K.Denot g.row.T.Denot = (learnt (only u.0) n ∷ [], u.1) in r) t.2 in
    let y : PoolState g.row.T.Denot = c.take_pool_out.result in
    let same : t.0 ≡ y = ap (λ (l : List (ℕ × Lot g.row.K.Denot g.row.T.Denot)). pooled_or t.0 l) (sym (ap (λ (u : Sat g.row.K.Denot g.row.T.Denot). u.1) me2) ∙ c.take_pool_out.ensures.value) in
    let q : SeatView g.row.K.Denot g.row.T.Denot = learnt (took_pool p t.1 y) t.1 in
    let e : c.take_pool_out.new.token.me ≡ (q ∷ [], (m, Out) ∷ []) = c.take_pool_out.ensures.out ∙ (ap (λ (u : Sat g.row.K.Denot g.row.T.Denot). let r : Sat g.row.K.Denot g.row.T.Denot = (u.0, (m, Out) ∷ []) in r) me2
    ∙ (λ i. (learnt (took_pool p t.1 (same i)) (l.0 i) ∷ [], (m, Out) ∷ []))) in
    let new : Seat g.row.K.Denot g.row.T.Denot = record { token = c.take_pool_out.new.token; dry = c.args.seat.now.dry; bound = n; last = c.args.self.now.modules } in
    subst (λ (u : Sat g.row.K.Denot g.row.T.Denot). Each (λ (v : Move g.row.T.Denot). v.put ≡ true → g.T.Stamped.stamp v.item < (only u.0).reach) y.moves) (sym e)
    (each_of (λ (v : Move g.row.T.Denot). v.put ≡ true → g.T.Stamped.stamp v.item < t.1) (λ (v : Move g.row.T.Denot). v.put ≡ true → g.T.Stamped.stamp v.item < q.reach) y.moves (λ v h put. let a = h put in omega arith)
    (subst (λ (z : PoolState g.row.T.Denot). Each (λ (v : Move g.row.T.Denot). v.put ≡ true → g.T.Stamped.stamp v.item < t.1) z.moves) same t.4))

pub returns-clause-completes : goal.returns-clause-completes
returns-clause-completes g c family full = let t = c.take_pool_turn.ensures.took in let p : SeatView g.row.K.Denot g.row.T.Denot = view c.args.seat.now in let m : ℕ = c.args.self.now.modules in
    let h : PoolHold g.row.T.Denot = record { taken = t.0; top = t.1; noted = false } in
    let has : (view_at c.take_pool_turn.new.token).pooling ≡ Some h = ap (λ (u : Sat g.row.K.Denot g.row.T.Denot). (only u.0).pooling) t.2 in
    let l = c.learn_as-seat.ensures.learnt h has in let n : ℕ = c.learn_as-seat.result in
    let me2 : c.learn_as-seat.new.token.me ≡ (learnt (took_pool p t.1 t.0) n ∷ [], (m, OfPool t.0) ∷ []) = l.2 ∙ ap (λ (u : Sat g.row.K.Denot g.row.T.Denot). let r : Sat g.row.K.Denot g.row.T.Denot = (learnt (only u.0) n ∷ [], u.1) in r) t.2 in
    let y : PoolState g.row.T.Denot = c.take_pool_out.result in
    let same : t.0 ≡ y = ap (λ (l : List (ℕ × Lot g.row.K.Denot g.row.T.Denot)). pooled_or t.0 l) (sym (ap (λ (u : Sat g.row.K.Denot g.row.T.Denot). u.1) me2) ∙ c.take_pool_out.ensures.value) in
    let q : SeatView g.row.K.Denot g.row.T.Denot = learnt (took_pool p t.1 y) t.1 in
    let e : c.take_pool_out.new.token.me ≡ (q ∷ [], (m, Out) ∷ []) = c.take_pool_out.ensures.out ∙ (ap (λ (u : Sat g.row.K.Denot g.row.T.Denot). let r : Sat g.row.K.Denot g.row.T.Denot = (u.0, (m, Out) ∷ []) in r) me2
    ∙ (λ i. (learnt (took_pool p t.1 (same i)) (l.0 i) ∷ [], (m, Out) ∷ []))) in
    let new : Seat g.row.K.Denot g.row.T.Denot = record { token = c.take_pool_out.new.token; dry = c.args.seat.now.dry; bound = n; last = c.args.self.now.modules } in completes_less g.K.Kept.history g.K.Kept.extends p q refl refl (λ k r x. omega arith) family (subst (Completes g.K.Kept.history g.K.Kept.extends family) (ap (λ (u : Sat g.row.K.Denot g.row.T.Denot). only u.0) e) full)
