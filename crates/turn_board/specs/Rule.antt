-- What holds of a board between any two steps.
use Rattle.std.specs.Prelude.{◌≡◌, ◌≢◌, ℕ, ◌+◌, ◌*◌, ◌%◌, ◌<◌, ◌≤◌, ◌++◌, List, length, min, drop, slice_index, Option, Some, None, true, false, Bool}
use mathlib.Core.Option.{some, none}
use mathlib.Core.Option as maybe
use lib.ListN.{get_elem?}
use Rattle.atomic_table.specs.Table.{State}
use Rattle.turn_board.specs.declared.view.SeatView.{SeatView}
use Rattle.turn_board.specs.declared.view.Hold.{Hold}
use Rattle.turn_board.specs.declared.view.PoolHold.{PoolHold}
use Rattle.turn_board.specs.declared.view.Terms.{Terms}
use Rattle.turn_board.specs.declared.lot.Lot.{Lot}
use Rattle.turn_board.specs.declared.lot.Lot.TheVariants.{OfModule, OfPool}
use Rattle.turn_board.specs.Sums.{Each, total, once_below}
use Rattle.turn_board.specs.Views.{IsTied, stamped, drawn_in, entered, stamp_entered, row_entered, made_at, moved_at, unended, holds_turn, claimed, dried, debts}
use Rattle.turn_board.specs.Pools.{PoolState, IsLaterPool}

-- Word 0 is the clock. Words 8 to 23 are the cursors'. Then each module has three words side by side, and so has the
-- pool behind the last module: its turn, its entries or moves, and its marks or top
abbrev pub clock : ℕ
clock = 0

abbrev pub cursor_at : ℕ → ℕ
cursor_at c = 8 + c

abbrev pub turn_at : ℕ → ℕ
turn_at m = 24 + 8 * m

abbrev pub entries_at : ℕ → ℕ
entries_at m = 25 + 8 * m

abbrev pub marks_at : ℕ → ℕ
marks_at m = 26 + 8 * m

-- the draws are the numbers below the clock, each once
pub record IsDrawn {K T : Type 0} (now : ℕ) (all : List (SeatView K T)) : Type 0 where
  pub each_once : (x : ℕ) → total (λ p. stamped x p.draws) all ≡ once_below x now
  pub reached : (k : ℕ) (p : SeatView K T) → get_elem? all k ≡ some p → Each (λ d. d.2 < p.reach) p.draws
      × (p.reach ≤ now)

-- the rows that a cursor gave are those below it and its length, each once. It stands past its length by at most the
-- seats that it answered None
pub record IsGiven {K T : Type 0} (c limit now : ℕ) (all : List (SeatView K T)) : Type 0 where
  pub small : limit < 4294967296
  pub each_once : (x : ℕ) → total (λ p. claimed c x p.claims) all ≡ once_below x (min now limit)
  pub dry_at : (k : ℕ) (p : SeatView K T) → get_elem? all k ≡ some p → 0 < dried c p.dry → limit ≤ now
  pub past : now ≤ limit + total (λ p. dried c p.dry) all
  pub dry_once : (k : ℕ) (p : SeatView K T) → get_elem? all k ≡ some p → dried c p.dry ≤ 1

-- What a module has come to: all entries drawn in it, its last state, a number above all their stamps, how many marks
-- and open keys the seats know, and the seat that holds its turn
pub record Standing (K : Type 0) : Type 0 where
  pub past : List (ℕ × ℕ)
  pub last : K
  pub bound : ℕ
  pub listed : ℕ
  pub owing : ℕ
  pub holder : Option ℕ

-- what the pool has come to, and the seat that holds its turn
pub record PoolStanding (T : Type 0) : Type 0 where
  pub last : PoolState T
  pub holder : Option ℕ

module _ {K T : Type 0} (history : K → List (ℕ × ℕ)) (extends : K → K → Type 0) (marks : K → List Bool) where
  -- its turn is free, and it is at home
  pub record IsFree (m turn : ℕ) (homes : List (maybe.Option (Lot K T))) (all : List (SeatView K T))
      (t : Standing K) : Type 0 where
    pub word : turn ≡ 2 * (t.owing + 32 * t.bound)
    pub home : get_elem? homes m ≡ some (some (OfModule t.last))
    pub whole : history t.last ≡ t.past
    pub marks_are : (length (marks t.last) ≡ t.listed) × (unended (marks t.last) ≡ t.owing)
    pub nobody : (k : ℕ) (p : SeatView K T) → get_elem? all k ≡ some p → holds_turn m p.hold ≡ false

  -- the seat h has its turn, and the module is out with it
  pub record IsHeld (m turn : ℕ) (homes : List (maybe.Option (Lot K T))) (all : List (SeatView K T)) (t : Standing K)
      (h : ℕ) (p : SeatView K T) (hold : Hold K) : Type 0 where
    pub word : turn % 2 ≡ 1
    pub home : get_elem? homes m ≡ some none
    pub is : get_elem? all h ≡ some p
    pub holds : p.hold ≡ Some hold
    pub slot : hold.slot ≡ m
    pub bound : hold.bound ≡ t.bound
    pub unnoted : hold.noted ≡ false → (hold.taken ≡ t.last) × (history t.last ++ hold.since ≡ t.past)
    pub noted : hold.noted ≡ true → (get_elem? p.saw m ≡ some t.last) × (history t.last ≡ t.past)
    pub unmarked : hold.marked ≡ false → (length (marks hold.taken) ≡ t.listed) × (unended (marks hold.taken) ≡ t.owing)
    pub marked : hold.marked ≡ true → (hold.noted ≡ true) × (length (marks t.last) ≡ t.listed)
        × (unended (marks t.last) ≡ t.owing)
    pub others : (k : ℕ) (q : SeatView K T) → get_elem? all k ≡ some q → k ≢ h → holds_turn m q.hold ≡ false

  abbrev pub IsTurn : ℕ → ℕ → List (maybe.Option (Lot K T)) → List (SeatView K T) → Standing K → Option ℕ → Type 0
  IsTurn m turn homes all t None = IsFree m turn homes all t
  IsTurn m turn homes all t (Some h) = (p : SeatView K T) × (hold : Hold K) × IsHeld m turn homes all t h p hold

  -- the module m completes each view
  pub record IsStanding (m now turn : ℕ) (homes : List (maybe.Option (Lot K T))) (all : List (SeatView K T))
      (t : Standing K) : Type 0 where
    pub bag : (row stamp : ℕ) → entered row stamp t.past ≡ total (λ p. drawn_in m row stamp p.draws) all
    pub rows : (row : ℕ) → row_entered row t.past ≤ once_below row 4294967296
    pub bounded : Each (λ e. e.1 < t.bound) t.past × (t.bound ≤ now)
    pub seen : (k : ℕ) (p : SeatView K T) (y : K) → get_elem? all k ≡ some p → get_elem? p.saw m ≡ some y
        → extends y t.last × Each (λ e. slice_index p.tops m ≤ e.1) (drop (length (history y)) t.past)
    pub tops : (k : ℕ) (p : SeatView K T) → get_elem? all k ≡ some p → slice_index p.tops m ≤ now
    pub made : (place : ℕ) → total (λ p. made_at m place p.made) all ≡ once_below place t.listed
    pub owes : total (λ p. slice_index p.owed m) all ≡ t.owing
    pub turn_is : IsTurn m turn homes all t t.holder

module _ {K T : Type 0} (same_plan : T → T → Type 0) (stamp : T → ℕ) where
  -- the pool's turn is free, and it is at home
  pub record IsPoolFree (m turn : ℕ) (homes : List (maybe.Option (Lot K T))) (all : List (SeatView K T))
      (t : PoolStanding T) : Type 0 where
    pub word : turn ≡ 0
    pub home : get_elem? homes m ≡ some (some (OfPool t.last))
    pub nobody : (k : ℕ) (p : SeatView K T) → get_elem? all k ≡ some p → p.pooling ≡ None

  -- the seat h has its turn, and the pool is out with it
  pub record IsPoolHeld (m turn top : ℕ) (homes : List (maybe.Option (Lot K T))) (all : List (SeatView K T))
      (t : PoolStanding T) (h : ℕ) (p : SeatView K T) (hold : PoolHold T) : Type 0 where
    pub word : turn ≡ 1
    pub home : get_elem? homes m ≡ some none
    pub is : get_elem? all h ≡ some p
    pub holds : p.pooling ≡ Some hold
    pub top_here : hold.top ≡ top
    pub unnoted : hold.noted ≡ false → hold.taken ≡ t.last
    pub noted : hold.noted ≡ true → p.pool_saw ≡ Some t.last
    pub others : (k : ℕ) (q : SeatView K T) → get_elem? all k ≡ some q → k ≢ h → q.pooling ≡ None

  abbrev pub IsPoolTurn : ℕ → ℕ → ℕ → List (maybe.Option (Lot K T)) → List (SeatView K T) → PoolStanding T → Option ℕ
      → Type 0
  IsPoolTurn m turn top homes all t None = IsPoolFree m turn homes all t
  IsPoolTurn m turn top homes all t (Some h) =
      (p : SeatView K T) × (hold : PoolHold T) × IsPoolHeld m turn top homes all t h p hold

  -- each move of the pool was made by one seat. Its words are its turn, the number of its moves, and one more than
  -- the greatest stamp that ever entered it or more
  pub record IsPooled (m now turn count top : ℕ) (homes : List (maybe.Option (Lot K T))) (all : List (SeatView K T))
      (t : PoolStanding T) : Type 0 where
    pub counted : count ≡ length t.last.moves
    pub moved : (place : ℕ) → total (λ p. moved_at place p.moves) all ≡ once_below place (length t.last.moves)
    pub stand : (k : ℕ) (p : SeatView K T) → get_elem? all k ≡ some p
        → Each (λ q. get_elem? t.last.moves q.0 ≡ some q.1) p.moves
    pub seen : (k : ℕ) (p : SeatView K T) (y : PoolState T) → get_elem? all k ≡ some p → p.pool_saw ≡ Some y
        → IsLaterPool same_plan y t.last
    pub below : Each (λ v. v.put ≡ true → stamp v.item < top) t.last.moves
    pub top_is : top ≤ now
    pub turn_is : IsPoolTurn m turn top homes all t t.holder

module _ {K T : Type 0} (history : K → List (ℕ × ℕ)) (extends : K → K → Type 0) (marks : K → List Bool)
    (same_plan : T → T → Type 0) (stamp : T → ℕ) where
  pub record IsCore (key : Terms K T) (words : List ℕ) (homes : List (maybe.Option (Lot K T)))
      (all : List (SeatView K T)) (mods : List (Standing K)) (pool : PoolStanding T) : Type 0 where
    pub wide : length words ≡ 32 + 8 * length key.opening.value.items
    pub crew : length all ≡ key.seats
    pub few_seats : key.seats ≤ 17
    pub few_cursors : length key.lengths.value.items ≤ 16
    pub few_modules : length key.opening.value.items ≤ 16
    pub stock : length mods ≡ length key.opening.value.items
    pub told : (k : ℕ) (p : SeatView K T) → get_elem? all k ≡ some p → p.lengths ≡ key.lengths.value.items
    pub sized : (k : ℕ) (p : SeatView K T) → get_elem? all k ≡ some p → (length p.saw ≡ length key.opening.value.items)
        × (length p.tops ≡ length key.opening.value.items) × (length p.owed ≡ length key.opening.value.items)
    pub thrifty : (k : ℕ) (p : SeatView K T) → get_elem? all k ≡ some p → debts p ≤ 1
    pub drawn : IsDrawn (slice_index words clock) all
    pub given : (c : ℕ) → c < length key.lengths.value.items
        → IsGiven c (slice_index key.lengths.value.items c) (slice_index words (cursor_at c)) all
    pub counted : total (λ t. length t.past) mods ≡ slice_index words clock
    pub stamps : (x : ℕ) → total (λ t. stamp_entered x t.past) mods ≡ once_below x (slice_index words clock)
    pub words_are : (m : ℕ) (t : Standing K) → get_elem? mods m ≡ some t
        → (slice_index words (entries_at m) ≡ length (history t.last)) × (slice_index words (marks_at m) ≡ t.listed)
    pub standing : (m : ℕ) (t : Standing K) → get_elem? mods m ≡ some t
        → IsStanding history extends marks m (slice_index words clock) (slice_index words (turn_at m)) homes all t
    pub pooled : IsPooled same_plan stamp (length key.opening.value.items) (slice_index words clock)
        (slice_index words (turn_at (length key.opening.value.items)))
        (slice_index words (entries_at (length key.opening.value.items)))
        (slice_index words (marks_at (length key.opening.value.items))) homes all pool

  pub record IsBoard (key : Terms K T) (s : State (Lot K T) (List (SeatView K T))) : Type 0 where
    pub all : List (SeatView K T)
    pub owner : ℕ → ℕ
    pub mods : List (Standing K)
    pub pool : PoolStanding T
    pub tied : IsTied all owner s.views
    pub core : IsCore key s.words s.homes all mods pool
