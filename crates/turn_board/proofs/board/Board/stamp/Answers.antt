use Rattle.std.proofs.Common.{arith, ◌≡◌, ◌<◌, ◌≤◌, ◌+◌, ◌++◌, [], ◌∷◌, sym, refl, ap, ◌∙◌, subst, ℕ, List, Option, length, slice_index, drop}
use mathlib.Core.Option.{some}
use lib.ListN.{get_elem?}
use Rattle.turn_board.specs.declared.view.SeatView.{SeatView}
use Rattle.turn_board.specs.declared.view.Hold.{Hold}
use Rattle.turn_board.specs.declared.seat.Seat.{Seat}
use Rattle.turn_board.specs.Sums.{Each}
use Rattle.turn_board.specs.Views.{row_entered}
use Rattle.turn_board.specs.Plays.{only, Sat, drew, drew_in, slot_of}
use Rattle.turn_board.specs.PoolPlays.{bound_by}
use Rattle.turn_board.specs.Boards.{Completes, view}
use Rattle.turn_board.proofs.Rosters.{each_append}
use Rattle.turn_board.proofs.Completions.{completes_less, draws_more}
use Rattle.turn_board.proofs.Seats.{seat_as}
use Rattle.turn_board.proofs.board.Board.stamp.Goals as goal

pub stamp_for-stamp-requires-clause-hold : goal.stamp_for-stamp-requires-clause-hold
stamp_for-stamp-requires-clause-hold g c = let b = c.requires.busy in let h = b.2 in (
  h.turn,
  h.hold,
  h.unnoted,
  (let i : h.turn.slot < c.args.self.now.modules = omega (arith, h.slot, c.requires.slot) in i),
  (λ j. row_entered c.args.row (g.K.Kept.history (h.taken j) ++ h.drawn j)) ∙ b.3,
)

pub returns-clause-seat : goal.returns-clause-seat
returns-clause-seat g c = let e = c.stamp_for-stamp.ensures.drew in let p : SeatView g.row.K.Denot g.row.T.Denot = view c.args.seat.now in let n : ℕ = c.stamp_for-stamp.result in let row : ℕ = c.args.row in let m : ℕ = c.args.slot in
    let ev : only c.stamp_for-stamp.new.token.me.0 ≡ drew p row n = ap (λ (u : Sat g.row.K.Denot g.row.T.Denot). only u.0) e in let h = c.requires.busy.2 in let above = c.stamp_for-stamp.ensures.above in
    let new : Seat g.row.K.Denot g.row.T.Denot = record { token = c.stamp_for-stamp.new.token; dry = c.args.seat.now.dry; bound = n + 1; last = c.args.seat.now.last } in
    seat_as c.args.self.now c.args.seat.now new c.requires.seat (drew p row n) c.args.seat.now.token.me.1 c.stamp_for-stamp.ensures.board.0 e refl refl c.requires.seat.dry
    (sym (ap (λ (o : Option (Hold g.row.K.Denot)). bound_by (drew_in o row n) p.pooling) h.hold)) (omega (arith, above.1)) (omega (arith, above.1)) c.requires.seat.thrifty (λ k. let a = c.requires.seat.tops k in let b = above.0 in omega arith)

pub returns-clause-busy : goal.returns-clause-busy
returns-clause-busy g c y since h = let e = c.stamp_for-stamp.ensures.drew in let p : SeatView g.row.K.Denot g.row.T.Denot = view c.args.seat.now in let n : ℕ = c.stamp_for-stamp.result in let row : ℕ = c.args.row in let m : ℕ = c.args.slot in
    let ev : only c.stamp_for-stamp.new.token.me.0 ≡ drew p row n = ap (λ (u : Sat g.row.K.Denot g.row.T.Denot). only u.0) e in let above = c.stamp_for-stamp.ensures.above in
    let h' : Hold g.row.K.Denot = record h.turn { bound = n + 1; since = h.turn.since ++ (row, n) ∷ [] } in record {
      out = ap (λ (u : Sat g.row.K.Denot g.row.T.Denot). u.1) e ∙ h.out;
      turn = h';
      hold = ap (λ (u : Sat g.row.K.Denot g.row.T.Denot). (only u.0).hold) e ∙ ap (λ (o : Option (Hold g.row.K.Denot)). drew_in o row n) h.hold;
      slot = h.slot;
      taken = h.taken;
      drawn = ap (λ (l : List (ℕ × ℕ)). l ++ (row, n) ∷ []) h.drawn;
      unnoted = h.unnoted;
      unmarked = h.unmarked;
      pooling = ap (λ (u : Sat g.row.K.Denot g.row.T.Denot). (only u.0).pooling) e ∙ h.pooling;
      found = subst (λ (q : SeatView g.row.K.Denot g.row.T.Denot). (x : g.row.K.Denot) → get_elem? q.saw m ≡ some x → g.K.Kept.extends x y × Each (λ (e : ℕ × ℕ). slice_index q.tops m ≤ e.1) (drop (length (g.K.Kept.history x)) (g.K.Kept.history y))) (sym ev) h.found;
      fresh = subst (λ (q : SeatView g.row.K.Denot g.row.T.Denot). Each (λ (e : ℕ × ℕ). slice_index q.tops m ≤ e.1) (since ++ (row, n) ∷ [])) (sym ev)
          (each_append (λ (e : ℕ × ℕ). slice_index p.tops m ≤ e.1) since ((row, n) ∷ []) h.fresh ((let a = c.requires.seat.tops m in let b = above.0 in omega arith), tt));
    }

pub returns-clause-completes : goal.returns-clause-completes
returns-clause-completes g c family full = let e = c.stamp_for-stamp.ensures.drew in let p : SeatView g.row.K.Denot g.row.T.Denot = view c.args.seat.now in let n : ℕ = c.stamp_for-stamp.result in let row : ℕ = c.args.row in let m : ℕ = c.args.slot in
    let ev : only c.stamp_for-stamp.new.token.me.0 ≡ drew p row n = ap (λ (u : Sat g.row.K.Denot g.row.T.Denot). only u.0) e in completes_less g.K.Kept.history g.K.Kept.extends p (drew p row n) refl refl (λ k r x. draws_more p.draws (slot_of p.hold) row n k r x) family (subst (Completes g.K.Kept.history g.K.Kept.extends family) ev full)
