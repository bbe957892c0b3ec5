-- Seats that leave the first token one after another.
use Rattle.std.proofs.Common.{◌≡◌, ℕ, ◌+◌, List, [], ◌∷◌, ◌++◌, map, sym, refl, ap, ◌∙◌, subst, arith, Option, append_assoc, Bool, false, get_or, set, zero, suc, None, All, length, replicate}
use Rattle.std.proofs.lemmas.List.{map-append}
use Rattle.turn_board.specs.declared.view.SeatView.{SeatView}
use Rattle.turn_board.specs.Pools.{PoolState}
use Rattle.turn_board.specs.Sums.{Each}
use Rattle.turn_board.specs.Views.{fresh, seats_from, debts}
use Rattle.turn_board.specs.declared.board.Board.{Board}
use Rattle.turn_board.specs.declared.seat.Seat.{Seat}
use Rattle.turn_board.specs.Plays.{only, Sat}
use Rattle.turn_board.specs.PoolPlays.{bound_of}
use Rattle.turn_board.specs.Tokens.{dry_from}
use Rattle.turn_board.specs.Boards.{IsSeatOf, IsIdle}
use Rattle.turn_board.proofs.Rosters.{each_append}
use Rattle.turn_board.proofs.Opening.{from_snoc, no_debts, zeros_at}

module _ {K T : Type 0} where
  pub one_from : (me : Sat K T) (p : SeatView K T) → me ≡ (p ∷ [], []) → me ≡ (only me.0 ∷ [], me.1)
  one_from me p e = e ∙ ap (λ (m : Sat K T). let n : Sat K T = (only m.0 ∷ [], m.1) in n) (sym e)

  pub idle_from : (me : Sat K T) (lengths : List ℕ) (saw : List K) (pool : Option (PoolState T)) (k : ℕ) → me ≡ (fresh lengths saw pool k ∷ [], []) → (me.1 ≡ []) × ((only me.0).hold ≡ None) × ((only me.0).pooling ≡ None)
  idle_from me lengths saw pool k e = (ap (λ (m : Sat K T). m.1) e, ap (λ (m : Sat K T). (only m.0).hold) e, ap (λ (m : Sat K T). (only m.0).pooling) e)

  pub more_views : {X : Type 0} (lengths : List ℕ) (saw : List K) (pool : Option (PoolState T)) (f : X → SeatView K T) (l new : List X) (a : X) (k m : ℕ)
      → new ≡ l ++ a ∷ [] → map f l ≡ seats_from lengths saw pool 0 k → f a ≡ fresh lengths saw pool k → m ≡ k + 1 → map f new ≡ seats_from lengths saw pool 0 m
  more_views lengths saw pool f l new a k m is views one next = ap (map f) is ∙ (map-append f l (a ∷ []) ∙ ((λ i. views i ++ (one i ∷ []))
      ∙ (ap (λ j. seats_from lengths saw pool 0 k ++ fresh lengths saw pool j ∷ []) (let z : k ≡ 0 + k = omega arith in z) ∙ sym (from_snoc lengths saw pool 0 k m next))))

  -- a token's view goes to the front of the others'
  pub back_views : {X : Type 0} (f : X → SeatView K T) (l new : List X) (a : X) (v rest : List (SeatView K T)) → l ≡ new ++ a ∷ [] → v ≡ f a ∷ rest → map f new ++ v ≡ map f l ++ rest
  back_views f l new a v rest is e = (λ i. map f new ++ e i) ∙ (sym (append_assoc (map f new) (f a ∷ []) rest) ∙ ap (λ (m : List (SeatView K T)). m ++ rest) (sym (map-append f new (a ∷ [])) ∙ ap (map f) (sym is)))

pub each_back : {X : Type 0} (P : X → Type 0) (l : List X) (a : X) → Each P (l ++ a ∷ []) → Each P l × P a
each_back P [] a e = (tt, e.0)
each_back P (x ∷ xs) a e = let r = each_back P xs a e.1 in ((e.0, r.0), r.1)

pub set_same : (l : List Bool) (i : ℕ) → get_or (set l i false) i false ≡ false
set_same [] i = refl
set_same (x ∷ xs) zero = refl
set_same (x ∷ xs) (suc i) = set_same xs i

pub more_each : {X : Type 0} (P : X → Type 0) (l new : List X) (a : X) → new ≡ l ++ a ∷ [] → Each P l → P a → Each P new
more_each P l new a is each one = subst (Each P) (sym is) (each_append P l (a ∷ []) each (one, tt))

-- each view of the list has what its seat has
pub each_view : {V X : Type 0} (f : X → V) (P : X → Type 0) (Q : V → Type 0) (l : List X) → ((x : X) → P x → Q (f x)) → Each P l → Each Q (map f l)
each_view f P Q [] h e = tt
each_view f P Q (x ∷ xs) h e = (h x e.0, each_view f P Q xs h e.1)

pub all_each : {X : Type 0} (P : X → Type 0) (l : List X) → All P l → Each P l
all_each P [] h = tt
all_each P (x ∷ xs) h = (h 0 x (omega arith), all_each P xs (λ k d lt. h (suc k) d (omega arith)))

pub each_all : {X : Type 0} (P : X → Type 0) (l : List X) → Each P l → All P l
each_all P [] e k d lt = absurd (omega arith)
each_all P (x ∷ xs) e zero d lt = e.0
each_all P (x ∷ xs) e (suc k) d lt = each_all P xs e.1 k d (omega arith)

module _ {K T X : Type 0} (board : Board K T X) (seat : Seat K T) (lengths : List ℕ) (saw : List K) (pool : Option (PoolState T)) (k : ℕ) where
  -- a new seat is one of its board's, and has no turn
  pub seat_from : seat.token.table_id ≡ board.table.shared.table_id → seat.token.me ≡ (fresh lengths saw pool k ∷ [], []) → lengths ≡ board.lengths.items → length saw ≡ board.modules → seat.dry ≡ replicate 16 false → seat.bound ≡ 0 → IsSeatOf board seat × IsIdle seat
  unfolding dry_from
  seat_from table e lengths_are count dry bound = (
    record {
      table = table;
      one = one_from seat.token.me (fresh lengths saw pool k) e;
      lengths = ap (λ (m : Sat K T). (only m.0).lengths) e ∙ lengths_are;
      sized = ap (λ (m : Sat K T). length (only m.0).saw) e ∙ count;
      dry = dry ∙ ap (λ (m : Sat K T). dry_from 0 16 (only m.0).dry) (sym e);
      bound = bound ∙ ap (λ (m : Sat K T). bound_of (only m.0)) (sym e);
      near = (omega (arith, bound), (let r = ap (λ (m : Sat K T). (only m.0).reach) e in omega arith));
      thrifty = (let r = ap (λ (m : Sat K T). debts (only m.0)) e in omega (arith, no_debts saw));
      tops = λ m. let r = ap (λ (v : Sat K T). get_or (only v.0).tops m 0) e in omega (arith, zeros_at saw m);
    },
    record {
      out = ap (λ (m : Sat K T). m.1) e;
      hold = ap (λ (m : Sat K T). (only m.0).hold) e;
      pooling = ap (λ (m : Sat K T). (only m.0).pooling) e;
    },
  )
