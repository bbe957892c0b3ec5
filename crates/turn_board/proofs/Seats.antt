-- A seat after a step of its token.
use Rattle.std.proofs.Common.{◌≡◌, ℕ, zero, suc, ◌<◌, ◌≤◌, List, [], ◌∷◌, length, set, get_or, sym, ap, ◌∙◌, subst, arith}
use Rattle.turn_board.specs.declared.board.Board.{Board}
use Rattle.turn_board.specs.declared.seat.Seat.{Seat}
use Rattle.turn_board.specs.declared.view.SeatView.{SeatView}
use Rattle.turn_board.specs.declared.lot.Lot.{Lot}
use Rattle.turn_board.specs.Views.{debts}
use Rattle.turn_board.specs.Plays.{only, Sat}
use Rattle.turn_board.specs.PoolPlays.{bound_of}
use Rattle.turn_board.specs.Tokens.{dry_of}
use Rattle.turn_board.specs.Boards.{IsSeatOf, view}

module _ {K T : Type 0} where
  pub one_as : (me : Sat K T) (p : SeatView K T) (held : List (ℕ × Lot K T)) → me ≡ (p ∷ [], held) → me ≡ (only me.0 ∷ [], held)
  one_as me p held e = e ∙ ap (λ (m : Sat K T). let n : Sat K T = (only m.0 ∷ [], held) in n) (sym e)

  module _ {X : Type 0} (board : Board K T X) (old new : Seat K T) (is : IsSeatOf board old) (p : SeatView K T) (held : List (ℕ × Lot K T)) where
    -- a seat whose view is now p
    pub seat_as : new.token.table_id ≡ old.token.table_id → new.token.me ≡ (p ∷ [], held) → p.lengths ≡ (view old).lengths → length p.saw ≡ length (view old).saw → new.dry ≡ dry_of p → new.bound ≡ bound_of p
        → new.bound < 288230376151711744 → p.reach < 288230376151711744 → debts p ≤ 1 → ((m : ℕ) → get_or p.tops m 0 ≤ p.reach) → IsSeatOf board new
    seat_as table e lengths sized dry bound near far thrifty tops = record {
      table = table ∙ is.table;
      one = e ∙ ap (λ (m : Sat K T). let n : Sat K T = (only m.0 ∷ [], m.1) in n) (sym e);
      lengths = ap (λ (m : Sat K T). (only m.0).lengths) e ∙ (lengths ∙ is.lengths);
      sized = ap (λ (m : Sat K T). length (only m.0).saw) e ∙ (sized ∙ is.sized);
      dry = dry ∙ ap (λ (m : Sat K T). dry_of (only m.0)) (sym e);
      bound = bound ∙ ap (λ (m : Sat K T). bound_of (only m.0)) (sym e);
      near = (near, subst (λ (m : Sat K T). (only m.0).reach < 288230376151711744) (sym e) far);
      thrifty = subst (λ (m : Sat K T). debts (only m.0) ≤ 1) (sym e) thrifty;
      tops = λ m. subst (λ (v : Sat K T). get_or (only v.0).tops m 0 ≤ (only v.0).reach) (sym e) (tops m);
    }

-- where all were at most b, and one becomes at most b
pub set_most : (l : List ℕ) (i v b : ℕ) → ((m : ℕ) → get_or l m 0 ≤ b) → v ≤ b → (m : ℕ) → get_or (set l i v) m 0 ≤ b
set_most [] i v b h le m = h m
set_most (x ∷ xs) zero v b h le zero = le
set_most (x ∷ xs) zero v b h le (suc m) = h (suc m)
set_most (x ∷ xs) (suc i) v b h le zero = h zero
set_most (x ∷ xs) (suc i) v b h le (suc m) = set_most xs i v b (λ k. h (suc k)) le m

-- one that becomes no less
pub set_more : (l : List ℕ) (i v : ℕ) → get_or l i 0 ≤ v → get_or l i 0 ≤ get_or (set l i v) i 0
set_more [] i v h = omega arith
set_more (x ∷ xs) zero v h = h
set_more (x ∷ xs) (suc i) v h = set_more xs i v h
