use Rattle.std.proofs.Common.{arith, ◌≡◌, ◌<◌, ◌≤◌, [], ◌∷◌, false, sym, refl, ap, ◌∙◌, subst, ℕ, List, length, slice_index, drop}
use mathlib.Core.Option.{some}
use lib.ListN.{get_elem?}
use Rattle.turn_board.specs.declared.view.SeatView.{SeatView}
use Rattle.turn_board.specs.declared.view.Hold.{Hold}
use Rattle.turn_board.specs.declared.seat.Seat.{Seat}
use Rattle.turn_board.specs.declared.lot.Lot.{Lot}
use Rattle.turn_board.specs.declared.lot.Lot.TheVariants.{Out}
use Rattle.turn_board.specs.Sums.{Each}
use Rattle.turn_board.specs.Plays.{only, Sat, Sees, took}
use Rattle.turn_board.specs.Boards.{Completes, view}
use Rattle.turn_board.proofs.Turning.{value_or}
use Rattle.turn_board.proofs.Completions.{completes_less}
use Rattle.turn_board.proofs.Seats.{seat_as}
use Rattle.turn_board.proofs.board.Board.take.Goals as goal

pub returns-clause-seat : goal.returns-clause-seat
returns-clause-seat g c = let t = c.take_turn-seat.ensures.took in let p : SeatView g.row.K.Denot g.row.T.Denot = view c.args.seat.now in let m : ℕ = c.args.slot in let b : ℕ = c.take_turn-seat.result in let y : g.row.K.Denot = c.take_out.result in
    let same : t.0 ≡ y = ap (λ (l : List (ℕ × Lot g.row.K.Denot g.row.T.Denot)). value_or t.0 l) (sym (ap (λ (m : Sat g.row.K.Denot g.row.T.Denot). m.1) t.1) ∙ c.take_out.ensures.value) in
    let e : c.take_out.new.token.me ≡ (took p m b y ∷ [], (m, Out) ∷ []) = c.take_out.ensures.out ∙ (ap (λ (u : Sat g.row.K.Denot g.row.T.Denot). let n : Sat g.row.K.Denot g.row.T.Denot = (u.0, (m, Out) ∷ []) in n) t.1 ∙ ap (λ (x : g.row.K.Denot). let n : Sat g.row.K.Denot g.row.T.Denot = (took p m b x ∷ [], (m, Out) ∷ []) in n) same) in
    let new : Seat g.row.K.Denot g.row.T.Denot = record { token = c.take_out.new.token; dry = c.args.seat.now.dry; bound = b; last = c.args.slot } in
    seat_as c.args.self.now c.args.seat.now new c.requires.seat (took p m b y) ((m, Out) ∷ []) (c.take_out.ensures.board ∙ c.take_turn-seat.ensures.board) e refl refl c.requires.seat.dry refl c.take_turn-seat.ensures.small c.requires.seat.near.1 c.requires.seat.thrifty c.requires.seat.tops

pub returns-clause-busy : goal.returns-clause-busy
returns-clause-busy g c = let t = c.take_turn-seat.ensures.took in let p : SeatView g.row.K.Denot g.row.T.Denot = view c.args.seat.now in let m : ℕ = c.args.slot in let b : ℕ = c.take_turn-seat.result in let y : g.row.K.Denot = c.take_out.result in
    let same : t.0 ≡ y = ap (λ (l : List (ℕ × Lot g.row.K.Denot g.row.T.Denot)). value_or t.0 l) (sym (ap (λ (m : Sat g.row.K.Denot g.row.T.Denot). m.1) t.1) ∙ c.take_out.ensures.value) in
    let e : c.take_out.new.token.me ≡ (took p m b y ∷ [], (m, Out) ∷ []) = c.take_out.ensures.out ∙ (ap (λ (u : Sat g.row.K.Denot g.row.T.Denot). let n : Sat g.row.K.Denot g.row.T.Denot = (u.0, (m, Out) ∷ []) in n) t.1 ∙ ap (λ (x : g.row.K.Denot). let n : Sat g.row.K.Denot g.row.T.Denot = (took p m b x ∷ [], (m, Out) ∷ []) in n) same) in
    let new : Seat g.row.K.Denot g.row.T.Denot = record { token = c.take_out.new.token; dry = c.args.seat.now.dry; bound = b; last = c.args.slot } in
    let h : Hold g.row.K.Denot = record { slot = m; bound = b; taken = y; since = []; noted = false; marked = false } in record {
      out = ap (λ (u : Sat g.row.K.Denot g.row.T.Denot). u.1) e;
      turn = h;
      hold = ap (λ (u : Sat g.row.K.Denot g.row.T.Denot). (only u.0).hold) e;
      slot = refl;
      taken = refl;
      drawn = refl;
      unnoted = refl;
      unmarked = refl;
      pooling = ap (λ (u : Sat g.row.K.Denot g.row.T.Denot). (only u.0).pooling) e ∙ c.requires.idle.pooling;
      found = subst (λ (q : SeatView g.row.K.Denot g.row.T.Denot). (x : g.row.K.Denot) → get_elem? q.saw m ≡ some x → g.K.Kept.extends x y × Each (λ (e : ℕ × ℕ). slice_index q.tops m ≤ e.1) (drop (length (g.K.Kept.history x)) (g.K.Kept.history y))) (sym (ap (λ (u : Sat g.row.K.Denot g.row.T.Denot). only u.0) e))
          (subst (λ (z : g.row.K.Denot). (x : g.row.K.Denot) → get_elem? p.saw m ≡ some x → g.K.Kept.extends x z × Each (λ (e : ℕ × ℕ). slice_index p.tops m ≤ e.1) (drop (length (g.K.Kept.history x)) (g.K.Kept.history z))) same t.2.0);
      fresh = tt;
    }

pub returns-clause-view : goal.returns-clause-view
returns-clause-view g c = let t = c.take_turn-seat.ensures.took in let p : SeatView g.row.K.Denot g.row.T.Denot = view c.args.seat.now in let m : ℕ = c.args.slot in let b : ℕ = c.take_turn-seat.result in let y : g.row.K.Denot = c.take_out.result in
    let same : t.0 ≡ y = ap (λ (l : List (ℕ × Lot g.row.K.Denot g.row.T.Denot)). value_or t.0 l) (sym (ap (λ (m : Sat g.row.K.Denot g.row.T.Denot). m.1) t.1) ∙ c.take_out.ensures.value) in
    let e : c.take_out.new.token.me ≡ (took p m b y ∷ [], (m, Out) ∷ []) = c.take_out.ensures.out ∙ (ap (λ (u : Sat g.row.K.Denot g.row.T.Denot). let n : Sat g.row.K.Denot g.row.T.Denot = (u.0, (m, Out) ∷ []) in n) t.1 ∙ ap (λ (x : g.row.K.Denot). let n : Sat g.row.K.Denot g.row.T.Denot = (took p m b x ∷ [], (m, Out) ∷ []) in n) same) in
    let new : Seat g.row.K.Denot g.row.T.Denot = record { token = c.take_out.new.token; dry = c.args.seat.now.dry; bound = b; last = c.args.slot } in (b, ap (λ (u : Sat g.row.K.Denot g.row.T.Denot). only u.0) e, subst (λ (z : g.row.K.Denot). Each (λ (e : ℕ × ℕ). e.1 < b) (g.K.Kept.history z)) same t.3)

pub returns-clause-sees : goal.returns-clause-sees
returns-clause-sees g c = let t = c.take_turn-seat.ensures.took in let p : SeatView g.row.K.Denot g.row.T.Denot = view c.args.seat.now in let m : ℕ = c.args.slot in let b : ℕ = c.take_turn-seat.result in let y : g.row.K.Denot = c.take_out.result in
    let same : t.0 ≡ y = ap (λ (l : List (ℕ × Lot g.row.K.Denot g.row.T.Denot)). value_or t.0 l) (sym (ap (λ (m : Sat g.row.K.Denot g.row.T.Denot). m.1) t.1) ∙ c.take_out.ensures.value) in
    let e : c.take_out.new.token.me ≡ (took p m b y ∷ [], (m, Out) ∷ []) = c.take_out.ensures.out ∙ (ap (λ (u : Sat g.row.K.Denot g.row.T.Denot). let n : Sat g.row.K.Denot g.row.T.Denot = (u.0, (m, Out) ∷ []) in n) t.1 ∙ ap (λ (x : g.row.K.Denot). let n : Sat g.row.K.Denot g.row.T.Denot = (took p m b x ∷ [], (m, Out) ∷ []) in n) same) in
    let new : Seat g.row.K.Denot g.row.T.Denot = record { token = c.take_out.new.token; dry = c.args.seat.now.dry; bound = b; last = c.args.slot } in subst (λ (z : g.row.K.Denot). Sees g.K.Kept.history g.K.Kept.extends m p z) same t.2

pub returns-clause-completes : goal.returns-clause-completes
returns-clause-completes g c family full = let t = c.take_turn-seat.ensures.took in let p : SeatView g.row.K.Denot g.row.T.Denot = view c.args.seat.now in let m : ℕ = c.args.slot in let b : ℕ = c.take_turn-seat.result in let y : g.row.K.Denot = c.take_out.result in
    let same : t.0 ≡ y = ap (λ (l : List (ℕ × Lot g.row.K.Denot g.row.T.Denot)). value_or t.0 l) (sym (ap (λ (m : Sat g.row.K.Denot g.row.T.Denot). m.1) t.1) ∙ c.take_out.ensures.value) in
    let e : c.take_out.new.token.me ≡ (took p m b y ∷ [], (m, Out) ∷ []) = c.take_out.ensures.out ∙ (ap (λ (u : Sat g.row.K.Denot g.row.T.Denot). let n : Sat g.row.K.Denot g.row.T.Denot = (u.0, (m, Out) ∷ []) in n) t.1 ∙ ap (λ (x : g.row.K.Denot). let n : Sat g.row.K.Denot g.row.T.Denot = (took p m b x ∷ [], (m, Out) ∷ []) in n) same) in
    let new : Seat g.row.K.Denot g.row.T.Denot = record { token = c.take_out.new.token; dry = c.args.seat.now.dry; bound = b; last = c.args.slot } in completes_less g.K.Kept.history g.K.Kept.extends p (took p m b y) refl refl (λ n row stamp. omega arith) family (subst (Completes g.K.Kept.history g.K.Kept.extends family) (ap (λ (u : Sat g.row.K.Denot g.row.T.Denot). only u.0) e) full)
