-- A seat's token in the board's table, and what the seat keeps of its view. Only this file names the fields of boards
-- and seats. It serves the proofs of the board's calls.
use Rattle.std.specs.Prelude.{◌≡◌, ℕ, zero, suc, ◌+◌, ◌<◌, Bool, nat_lt, List, [], ◌∷◌}
use Rattle.atomic_table.specs.declared.shared.Seat.{Seat as TableSeat}
use Rattle.turn_board.specs.declared.board.Board.{Board}
use Rattle.turn_board.specs.declared.lot.Lot.{Lot}
use Rattle.turn_board.specs.declared.lot.Lot.TheVariants.{Out}
use Rattle.turn_board.specs.declared.seat.Seat.{Seat}
use Rattle.turn_board.specs.declared.view.SeatView.{SeatView}
use Rattle.turn_board.specs.Views.{dried}
use Rattle.turn_board.specs.Plays.{only}
use Rattle.turn_board.specs.PoolPlays.{bound_of}

abbrev pub Token : Type 0 → Type 0 → Type 0
Token K T = TableSeat (Lot K T) (List (SeatView K T))

-- of n cursors from c on, which answered None
unfoldable pub dry_from : ℕ → ℕ → List ℕ → List Bool
dry_from c zero dry = []
dry_from c (suc n) dry = nat_lt 0 (dried c dry) ∷ dry_from (c + 1) n dry

-- which cursors answered None
abbrev pub dry_of : {K T : Type 0} → SeatView K T → List Bool
dry_of p = dry_from 0 16 p.dry

abbrev pub view_at : {K T : Type 0} → Token K T → SeatView K T
view_at s = only s.me.0

-- it is the token of one seat
abbrev pub IsOne : {K T : Type 0} → Token K T → Type 0
IsOne s = s.me ≡ (only s.me.0 ∷ [], s.me.1)

-- what the seat knows
abbrev pub view : {K T : Type 0} → Seat K T → SeatView K T
view seat = view_at seat.token

-- its token is of the board's table
abbrev pub IsOfTable : {K T X : Type 0} → Board K T X → Seat K T → Type 0
IsOfTable board seat = seat.token.table_id ≡ board.table.shared.table_id

-- its token is one seat's
abbrev pub IsOneSeat : {K T : Type 0} → Seat K T → Type 0
IsOneSeat seat = IsOne seat.token

-- it keeps which cursors answered None, as its view says
abbrev pub KeepsDry : {K T : Type 0} → Seat K T → Type 0
KeepsDry seat = seat.dry ≡ dry_of (view seat)

-- it keeps a bound of the stamps that it saw, as its view says
abbrev pub KeepsBound : {K T : Type 0} → Seat K T → Type 0
KeepsBound seat = seat.bound ≡ bound_of (view seat)

-- that bound, and what it has drawn or learnt, are far below the end of stamps
abbrev pub IsNear : {K T : Type 0} → Seat K T → Type 0
IsNear seat = (seat.bound < 288230376151711744) × ((view seat).reach < 288230376151711744)

-- it has nothing out of the table
abbrev pub HasNoneOut : {K T : Type 0} → Seat K T → Type 0
HasNoneOut seat = seat.token.me.1 ≡ []

-- it has the slot m out of the table, and no other
abbrev pub HasOut : {K T : Type 0} → ℕ → Seat K T → Type 0
HasOut m seat = seat.token.me.1 ≡ (m, Out) ∷ []
