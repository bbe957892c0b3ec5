use Rattle.std.proofs.Common.{rules, arith, ◌≡◌, ◌<◌, ◌≤◌, [], ◌∷◌, true, sym, refl, ap, ◌∙◌, subst, ℕ, List, Option, Some, None, length, drop}
use Rattle.turn_board.specs.declared.view.SeatView.{SeatView}
use Rattle.turn_board.specs.declared.view.Hold.{Hold}
use Rattle.turn_board.specs.declared.view.PoolHold.{PoolHold}
use Rattle.turn_board.specs.declared.seat.Seat.{Seat}
use Rattle.turn_board.specs.declared.lot.Lot.{Lot}
use Rattle.turn_board.specs.declared.lot.Lot.TheVariants.{Out, OfPool}
use Rattle.turn_board.specs.declared.pool.Move.{Move}
use Rattle.turn_board.specs.Sums.{Each}
use Rattle.turn_board.specs.Pools.{PoolState, IsLaterPool}
use Rattle.turn_board.specs.Plays.{only, Sat}
use Rattle.turn_board.specs.PoolPlays.{raised, raised_in, noted_pool, noted_pool_in, gave_pool, bound_by}
use Rattle.turn_board.specs.Boards.{Completes, view}
use Rattle.turn_board.proofs.Rosters.{each_of, each_append}
use Rattle.turn_board.proofs.Completions.{completes_less}
use Rattle.turn_board.proofs.Seats.{one_as, seat_as}
use Rattle.turn_board.proofs.PoolLaws.{drop_front, top_most, top_above}
use Rattle.turn_board.proofs.board.Board.give_pool.Goals as goal

pub top-top-requires : goal.top-top-requires
top-top-requires g c = let b = c.requires.pooling in let h = b.1 in let p : SeatView g.row.K.Denot g.row.T.Denot = view c.args.seat.now in let m : ℕ = c.args.self.now.modules in let z : PoolState g.row.T.Denot = c.args.pool in
    let all : Each (λ (v : Move g.row.T.Denot). v.put ≡ true → g.T.Stamped.stamp v.item < p.reach) z.moves = subst (λ (l : List (Move g.row.T.Denot)). Each (λ (v : Move g.row.T.Denot). v.put ≡ true → g.T.Stamped.stamp v.item < p.reach) l) b.2.moves.1
    (each_append (λ (v : Move g.row.T.Denot). v.put ≡ true → g.T.Stamped.stamp v.item < p.reach) b.0.moves b.2.moves.0 (each_of (λ (v : Move g.row.T.Denot). v.put ≡ true → g.T.Stamped.stamp v.item < h.turn.top) (λ (v : Move g.row.T.Denot). v.put ≡ true → g.T.Stamped.stamp v.item < p.reach) b.0.moves (λ v k put. let a = k put in omega (arith, h.top)) h.below)
    (subst (λ (l : List (Move g.row.T.Denot)). Each (λ (v : Move g.row.T.Denot). v.put ≡ true → g.T.Stamped.stamp v.item < p.reach) l) (ap (drop (length b.0.moves)) (sym b.2.moves.1) ∙ drop_front b.0.moves b.2.moves.0) b.3)) in
    let most = top_most g.T.Stamped.stamp z.moves p.reach all in omega (arith, c.requires.seat.near.1)

pub raise_as-requires-clause-hold : goal.raise_as-requires-clause-hold
raise_as-requires-clause-hold g c = let b = c.requires.pooling in let h = b.1 in let p : SeatView g.row.K.Denot g.row.T.Denot = view c.args.seat.now in let m : ℕ = c.args.self.now.modules in let z : PoolState g.row.T.Denot = c.args.pool in
    let all : Each (λ (v : Move g.row.T.Denot). v.put ≡ true → g.T.Stamped.stamp v.item < p.reach) z.moves = subst (λ (l : List (Move g.row.T.Denot)). Each (λ (v : Move g.row.T.Denot). v.put ≡ true → g.T.Stamped.stamp v.item < p.reach) l) b.2.moves.1
    (each_append (λ (v : Move g.row.T.Denot). v.put ≡ true → g.T.Stamped.stamp v.item < p.reach) b.0.moves b.2.moves.0 (each_of (λ (v : Move g.row.T.Denot). v.put ≡ true → g.T.Stamped.stamp v.item < h.turn.top) (λ (v : Move g.row.T.Denot). v.put ≡ true → g.T.Stamped.stamp v.item < p.reach) b.0.moves (λ v k put. let a = k put in omega (arith, h.top)) h.below)
    (subst (λ (l : List (Move g.row.T.Denot)). Each (λ (v : Move g.row.T.Denot). v.put ≡ true → g.T.Stamped.stamp v.item < p.reach) l) (ap (drop (length b.0.moves)) (sym b.2.moves.1) ∙ drop_front b.0.moves b.2.moves.0) b.3)) in
    let most = top_most g.T.Stamped.stamp z.moves p.reach all in
    let top : ℕ = c.top-top.result in
    let bound : c.args.seat.now.bound ≡ h.turn.top = c.requires.seat.bound ∙ (ap (λ (o : Option (Hold g.row.K.Denot)). bound_by o p.pooling) h.hold ∙ ap (λ (o : Option (PoolHold g.row.T.Denot)). bound_by {K = g.row.K.Denot} None o) h.pooling) in
    let me0 : c.args.seat.now.token.me ≡ (p ∷ [], (m, Out) ∷ []) = c.requires.seat.one ∙ (ap (λ (l : List (ℕ × Lot g.row.K.Denot g.row.T.Denot)). let n : Sat g.row.K.Denot g.row.T.Denot = (p ∷ [], l) in n) h.out ∙ ap (λ (j : ℕ). let n : Sat g.row.K.Denot g.row.T.Denot = (p ∷ [], (j, Out) ∷ []) in n) c.requires.seat.sized) in
    let me1 : c.put_pool_in.new.token.me ≡ (p ∷ [], (m, OfPool z) ∷ []) = c.put_pool_in.ensures.put ∙ ap (λ (u : Sat g.row.K.Denot g.row.T.Denot). let n : Sat g.row.K.Denot g.row.T.Denot = (u.0, (m, OfPool z) ∷ []) in n) me0 in (
      h.turn,
      ap (λ (u : Sat g.row.K.Denot g.row.T.Denot). (only u.0).pooling) me1 ∙ h.pooling,
      omega (arith, c.top-top.ensures, bound),
      subst (λ (u : Sat g.row.K.Denot g.row.T.Denot). top ≤ (only u.0).reach) (sym me1) (omega (arith, c.top-top.ensures, bound, most, h.top)),
    )

pub note_pool_as-requires-clause-hold : goal.note_pool_as-requires-clause-hold
note_pool_as-requires-clause-hold g c = let b = c.requires.pooling in let h = b.1 in let p : SeatView g.row.K.Denot g.row.T.Denot = view c.args.seat.now in let m : ℕ = c.args.self.now.modules in let z : PoolState g.row.T.Denot = c.args.pool in
    let all : Each (λ (v : Move g.row.T.Denot). v.put ≡ true → g.T.Stamped.stamp v.item < p.reach) z.moves = subst (λ (l : List (Move g.row.T.Denot)). Each (λ (v : Move g.row.T.Denot). v.put ≡ true → g.T.Stamped.stamp v.item < p.reach) l) b.2.moves.1
    (each_append (λ (v : Move g.row.T.Denot). v.put ≡ true → g.T.Stamped.stamp v.item < p.reach) b.0.moves b.2.moves.0 (each_of (λ (v : Move g.row.T.Denot). v.put ≡ true → g.T.Stamped.stamp v.item < h.turn.top) (λ (v : Move g.row.T.Denot). v.put ≡ true → g.T.Stamped.stamp v.item < p.reach) b.0.moves (λ v k put. let a = k put in omega (arith, h.top)) h.below)
    (subst (λ (l : List (Move g.row.T.Denot)). Each (λ (v : Move g.row.T.Denot). v.put ≡ true → g.T.Stamped.stamp v.item < p.reach) l) (ap (drop (length b.0.moves)) (sym b.2.moves.1) ∙ drop_front b.0.moves b.2.moves.0) b.3)) in
    let most = top_most g.T.Stamped.stamp z.moves p.reach all in
    let top : ℕ = c.top-top.result in
    let bound : c.args.seat.now.bound ≡ h.turn.top = c.requires.seat.bound ∙ (ap (λ (o : Option (Hold g.row.K.Denot)). bound_by o p.pooling) h.hold ∙ ap (λ (o : Option (PoolHold g.row.T.Denot)). bound_by {K = g.row.K.Denot} None o) h.pooling) in
    let me0 : c.args.seat.now.token.me ≡ (p ∷ [], (m, Out) ∷ []) = c.requires.seat.one ∙ (ap (λ (l : List (ℕ × Lot g.row.K.Denot g.row.T.Denot)). let n : Sat g.row.K.Denot g.row.T.Denot = (p ∷ [], l) in n) h.out ∙ ap (λ (j : ℕ). let n : Sat g.row.K.Denot g.row.T.Denot = (p ∷ [], (j, Out) ∷ []) in n) c.requires.seat.sized) in
    let me1 : c.put_pool_in.new.token.me ≡ (p ∷ [], (m, OfPool z) ∷ []) = c.put_pool_in.ensures.put ∙ ap (λ (u : Sat g.row.K.Denot g.row.T.Denot). let n : Sat g.row.K.Denot g.row.T.Denot = (u.0, (m, OfPool z) ∷ []) in n) me0 in
    let me2 : c.raise_as.new.token.me ≡ (raised p top ∷ [], (m, OfPool z) ∷ []) = c.raise_as.ensures.raised ∙ ap (λ (u : Sat g.row.K.Denot g.row.T.Denot). let n : Sat g.row.K.Denot g.row.T.Denot = (raised (only u.0) top ∷ [], u.1) in n) me1 in
    let h1 : PoolHold g.row.T.Denot = record h.turn { top = top } in
    let has1 : raised_in p.pooling top ≡ Some h1 = ap (λ (o : Option (PoolHold g.row.T.Denot)). raised_in o top) h.pooling in (
      h1,
      z,
      one_as c.raise_as.new.token.me (raised p top) ((m, OfPool z) ∷ []) me2,
      ap (λ (u : Sat g.row.K.Denot g.row.T.Denot). (only u.0).pooling) me2 ∙ has1,
      h.unnoted,
      subst (λ (y : PoolState g.row.T.Denot). IsLaterPool g.T.Stamped.same_plan y z) (sym h.taken) b.2,
      top_above g.T.Stamped.stamp z.moves top (omega (arith, c.top-top.ensures)),
      (search rules),
    )

pub give_pool_as-requires-clause-hold : goal.give_pool_as-requires-clause-hold
give_pool_as-requires-clause-hold g c = let b = c.requires.pooling in let h = b.1 in let p : SeatView g.row.K.Denot g.row.T.Denot = view c.args.seat.now in let m : ℕ = c.args.self.now.modules in let z : PoolState g.row.T.Denot = c.args.pool in
    let all : Each (λ (v : Move g.row.T.Denot). v.put ≡ true → g.T.Stamped.stamp v.item < p.reach) z.moves = subst (λ (l : List (Move g.row.T.Denot)). Each (λ (v : Move g.row.T.Denot). v.put ≡ true → g.T.Stamped.stamp v.item < p.reach) l) b.2.moves.1
    (each_append (λ (v : Move g.row.T.Denot). v.put ≡ true → g.T.Stamped.stamp v.item < p.reach) b.0.moves b.2.moves.0 (each_of (λ (v : Move g.row.T.Denot). v.put ≡ true → g.T.Stamped.stamp v.item < h.turn.top) (λ (v : Move g.row.T.Denot). v.put ≡ true → g.T.Stamped.stamp v.item < p.reach) b.0.moves (λ v k put. let a = k put in omega (arith, h.top)) h.below)
    (subst (λ (l : List (Move g.row.T.Denot)). Each (λ (v : Move g.row.T.Denot). v.put ≡ true → g.T.Stamped.stamp v.item < p.reach) l) (ap (drop (length b.0.moves)) (sym b.2.moves.1) ∙ drop_front b.0.moves b.2.moves.0) b.3)) in
    let most = top_most g.T.Stamped.stamp z.moves p.reach all in
    let top : ℕ = c.top-top.result in
    let bound : c.args.seat.now.bound ≡ h.turn.top = c.requires.seat.bound ∙ (ap (λ (o : Option (Hold g.row.K.Denot)). bound_by o p.pooling) h.hold ∙ ap (λ (o : Option (PoolHold g.row.T.Denot)). bound_by {K = g.row.K.Denot} None o) h.pooling) in
    let me0 : c.args.seat.now.token.me ≡ (p ∷ [], (m, Out) ∷ []) = c.requires.seat.one ∙ (ap (λ (l : List (ℕ × Lot g.row.K.Denot g.row.T.Denot)). let n : Sat g.row.K.Denot g.row.T.Denot = (p ∷ [], l) in n) h.out ∙ ap (λ (j : ℕ). let n : Sat g.row.K.Denot g.row.T.Denot = (p ∷ [], (j, Out) ∷ []) in n) c.requires.seat.sized) in
    let me1 : c.put_pool_in.new.token.me ≡ (p ∷ [], (m, OfPool z) ∷ []) = c.put_pool_in.ensures.put ∙ ap (λ (u : Sat g.row.K.Denot g.row.T.Denot). let n : Sat g.row.K.Denot g.row.T.Denot = (u.0, (m, OfPool z) ∷ []) in n) me0 in
    let me2 : c.raise_as.new.token.me ≡ (raised p top ∷ [], (m, OfPool z) ∷ []) = c.raise_as.ensures.raised ∙ ap (λ (u : Sat g.row.K.Denot g.row.T.Denot). let n : Sat g.row.K.Denot g.row.T.Denot = (raised (only u.0) top ∷ [], u.1) in n) me1 in
    let h1 : PoolHold g.row.T.Denot = record h.turn { top = top } in
    let has1 : raised_in p.pooling top ≡ Some h1 = ap (λ (o : Option (PoolHold g.row.T.Denot)). raised_in o top) h.pooling in
    let me3 : c.note_pool_as.new.token.me ≡ (noted_pool (raised p top) z ∷ [], (m, OfPool z) ∷ []) = c.note_pool_as.ensures.noted z (ap (λ (u : Sat g.row.K.Denot g.row.T.Denot). u.1) me2) ∙ ap (λ (u : Sat g.row.K.Denot g.row.T.Denot). let n : Sat g.row.K.Denot g.row.T.Denot = (noted_pool (only u.0) z ∷ [], u.1) in n) me2 in (
      record h1 { noted = true },
      z,
      one_as c.note_pool_as.new.token.me (noted_pool (raised p top) z) ((m, OfPool z) ∷ []) me3,
      ap (λ (u : Sat g.row.K.Denot g.row.T.Denot). (only u.0).pooling) me3 ∙ ap (λ (o : Option (PoolHold g.row.T.Denot)). noted_pool_in o) has1,
      refl,
      ap (λ (u : Sat g.row.K.Denot g.row.T.Denot). (only u.0).pool_saw) me3,
    )

pub returns-clause-seat : goal.returns-clause-seat
returns-clause-seat g c = let b = c.requires.pooling in let h = b.1 in let p : SeatView g.row.K.Denot g.row.T.Denot = view c.args.seat.now in let m : ℕ = c.args.self.now.modules in let z : PoolState g.row.T.Denot = c.args.pool in
    let all : Each (λ (v : Move g.row.T.Denot). v.put ≡ true → g.T.Stamped.stamp v.item < p.reach) z.moves = subst (λ (l : List (Move g.row.T.Denot)). Each (λ (v : Move g.row.T.Denot). v.put ≡ true → g.T.Stamped.stamp v.item < p.reach) l) b.2.moves.1
    (each_append (λ (v : Move g.row.T.Denot). v.put ≡ true → g.T.Stamped.stamp v.item < p.reach) b.0.moves b.2.moves.0 (each_of (λ (v : Move g.row.T.Denot). v.put ≡ true → g.T.Stamped.stamp v.item < h.turn.top) (λ (v : Move g.row.T.Denot). v.put ≡ true → g.T.Stamped.stamp v.item < p.reach) b.0.moves (λ v k put. let a = k put in omega (arith, h.top)) h.below)
    (subst (λ (l : List (Move g.row.T.Denot)). Each (λ (v : Move g.row.T.Denot). v.put ≡ true → g.T.Stamped.stamp v.item < p.reach) l) (ap (drop (length b.0.moves)) (sym b.2.moves.1) ∙ drop_front b.0.moves b.2.moves.0) b.3)) in
    let most = top_most g.T.Stamped.stamp z.moves p.reach all in
    let top : ℕ = c.top-top.result in
    let bound : c.args.seat.now.bound ≡ h.turn.top = c.requires.seat.bound ∙ (ap (λ (o : Option (Hold g.row.K.Denot)). bound_by o p.pooling) h.hold ∙ ap (λ (o : Option (PoolHold g.row.T.Denot)). bound_by {K = g.row.K.Denot} None o) h.pooling) in
    let me0 : c.args.seat.now.token.me ≡ (p ∷ [], (m, Out) ∷ []) = c.requires.seat.one ∙ (ap (λ (l : List (ℕ × Lot g.row.K.Denot g.row.T.Denot)). let n : Sat g.row.K.Denot g.row.T.Denot = (p ∷ [], l) in n) h.out ∙ ap (λ (j : ℕ). let n : Sat g.row.K.Denot g.row.T.Denot = (p ∷ [], (j, Out) ∷ []) in n) c.requires.seat.sized) in
    let me1 : c.put_pool_in.new.token.me ≡ (p ∷ [], (m, OfPool z) ∷ []) = c.put_pool_in.ensures.put ∙ ap (λ (u : Sat g.row.K.Denot g.row.T.Denot). let n : Sat g.row.K.Denot g.row.T.Denot = (u.0, (m, OfPool z) ∷ []) in n) me0 in
    let me2 : c.raise_as.new.token.me ≡ (raised p top ∷ [], (m, OfPool z) ∷ []) = c.raise_as.ensures.raised ∙ ap (λ (u : Sat g.row.K.Denot g.row.T.Denot). let n : Sat g.row.K.Denot g.row.T.Denot = (raised (only u.0) top ∷ [], u.1) in n) me1 in
    let h1 : PoolHold g.row.T.Denot = record h.turn { top = top } in
    let has1 : raised_in p.pooling top ≡ Some h1 = ap (λ (o : Option (PoolHold g.row.T.Denot)). raised_in o top) h.pooling in
    let me3 : c.note_pool_as.new.token.me ≡ (noted_pool (raised p top) z ∷ [], (m, OfPool z) ∷ []) = c.note_pool_as.ensures.noted z (ap (λ (u : Sat g.row.K.Denot g.row.T.Denot). u.1) me2) ∙ ap (λ (u : Sat g.row.K.Denot g.row.T.Denot). let n : Sat g.row.K.Denot g.row.T.Denot = (noted_pool (only u.0) z ∷ [], u.1) in n) me2 in
    let q : SeatView g.row.K.Denot g.row.T.Denot = gave_pool (noted_pool p z) in
    let me4 : c.give_pool_as.new.token.me ≡ (gave_pool (noted_pool (raised p top) z) ∷ [], []) = c.give_pool_as.ensures.gave ∙ ap (λ (u : Sat g.row.K.Denot g.row.T.Denot). let n : Sat g.row.K.Denot g.row.T.Denot = (gave_pool (only u.0) ∷ [], []) in n) me3 in
    let as_if : Option (PoolHold g.row.T.Denot) → SeatView g.row.K.Denot g.row.T.Denot = λ o. gave_pool (noted_pool (record p { pooling = o }) z) in
    let me5 : c.give_pool_as.new.token.me ≡ (q ∷ [], []) = me4 ∙ ap (λ (v : SeatView g.row.K.Denot g.row.T.Denot). let n : Sat g.row.K.Denot g.row.T.Denot = (v ∷ [], []) in n) (ap (λ (o : Option (PoolHold g.row.T.Denot)). as_if (raised_in o top)) h.pooling ∙ sym (ap as_if h.pooling)) in
    let new : Seat g.row.K.Denot g.row.T.Denot = record { token = c.give_pool_as.new.token; dry = c.args.seat.now.dry; bound = 0; last = c.args.seat.now.last } in
    seat_as c.args.self.now c.args.seat.now new c.requires.seat q [] (c.give_pool_as.ensures.board.0 ∙ (c.note_pool_as.ensures.board.0 ∙ (c.raise_as.ensures.board.0 ∙ c.put_pool_in.ensures.board))) me5 refl refl c.requires.seat.dry
    (sym (ap (λ (o : Option (Hold g.row.K.Denot)). bound_by {T = g.row.T.Denot} o None) h.hold)) (omega arith) c.requires.seat.near.1 c.requires.seat.thrifty c.requires.seat.tops

pub returns-clause-idle : goal.returns-clause-idle
returns-clause-idle g c = let b = c.requires.pooling in let h = b.1 in let p : SeatView g.row.K.Denot g.row.T.Denot = view c.args.seat.now in let m : ℕ = c.args.self.now.modules in let z : PoolState g.row.T.Denot = c.args.pool in
    let all : Each (λ (v : Move g.row.T.Denot). v.put ≡ true → g.T.Stamped.stamp v.item < p.reach) z.moves = subst (λ (l : List (Move g.row.T.Denot)). Each (λ (v : Move g.row.T.Denot). v.put ≡ true → g.T.Stamped.stamp v.item < p.reach) l) b.2.moves.1
    (each_append (λ (v : Move g.row.T.Denot). v.put ≡ true → g.T.Stamped.stamp v.item < p.reach) b.0.moves b.2.moves.0 (each_of (λ (v : Move g.row.T.Denot). v.put ≡ true → g.T.Stamped.stamp v.item < h.turn.top) (λ (v : Move g.row.T.Denot). v.put ≡ true → g.T.Stamped.stamp v.item < p.reach) b.0.moves (λ v k put. let a = k put in omega (arith, h.top)) h.below)
    (subst (λ (l : List (Move g.row.T.Denot)). Each (λ (v : Move g.row.T.Denot). v.put ≡ true → g.T.Stamped.stamp v.item < p.reach) l) (ap (drop (length b.0.moves)) (sym b.2.moves.1) ∙ drop_front b.0.moves b.2.moves.0) b.3)) in
    let most = top_most g.T.Stamped.stamp z.moves p.reach all in
    let top : ℕ = c.top-top.result in
    let bound : c.args.seat.now.bound ≡ h.turn.top = c.requires.seat.bound ∙ (ap (λ (o : Option (Hold g.row.K.Denot)). bound_by o p.pooling) h.hold ∙ ap (λ (o : Option (PoolHold g.row.T.Denot)). bound_by {K = g.row.K.Denot} None o) h.pooling) in
    let me0 : c.args.seat.now.token.me ≡ (p ∷ [], (m, Out) ∷ []) = c.requires.seat.one ∙ (ap (λ (l : List (ℕ × Lot g.row.K.Denot g.row.T.Denot)). let n : Sat g.row.K.Denot g.row.T.Denot = (p ∷ [], l) in n) h.out ∙ ap (λ (j : ℕ). let n : Sat g.row.K.Denot g.row.T.Denot = (p ∷ [], (j, Out) ∷ []) in n) c.requires.seat.sized) in
    let me1 : c.put_pool_in.new.token.me ≡ (p ∷ [], (m, OfPool z) ∷ []) = c.put_pool_in.ensures.put ∙ ap (λ (u : Sat g.row.K.Denot g.row.T.Denot). let n : Sat g.row.K.Denot g.row.T.Denot = (u.0, (m, OfPool z) ∷ []) in n) me0 in
    let me2 : c.raise_as.new.token.me ≡ (raised p top ∷ [], (m, OfPool z) ∷ []) = c.raise_as.ensures.raised ∙ ap (λ (u : Sat g.row.K.Denot g.row.T.Denot). let n : Sat g.row.K.Denot g.row.T.Denot = (raised (only u.0) top ∷ [], u.1) in n) me1 in
    let h1 : PoolHold g.row.T.Denot = record h.turn { top = top } in
    let has1 : raised_in p.pooling top ≡ Some h1 = ap (λ (o : Option (PoolHold g.row.T.Denot)). raised_in o top) h.pooling in
    let me3 : c.note_pool_as.new.token.me ≡ (noted_pool (raised p top) z ∷ [], (m, OfPool z) ∷ []) = c.note_pool_as.ensures.noted z (ap (λ (u : Sat g.row.K.Denot g.row.T.Denot). u.1) me2) ∙ ap (λ (u : Sat g.row.K.Denot g.row.T.Denot). let n : Sat g.row.K.Denot g.row.T.Denot = (noted_pool (only u.0) z ∷ [], u.1) in n) me2 in
    let q : SeatView g.row.K.Denot g.row.T.Denot = gave_pool (noted_pool p z) in
    let me4 : c.give_pool_as.new.token.me ≡ (gave_pool (noted_pool (raised p top) z) ∷ [], []) = c.give_pool_as.ensures.gave ∙ ap (λ (u : Sat g.row.K.Denot g.row.T.Denot). let n : Sat g.row.K.Denot g.row.T.Denot = (gave_pool (only u.0) ∷ [], []) in n) me3 in
    let as_if : Option (PoolHold g.row.T.Denot) → SeatView g.row.K.Denot g.row.T.Denot = λ o. gave_pool (noted_pool (record p { pooling = o }) z) in
    let me5 : c.give_pool_as.new.token.me ≡ (q ∷ [], []) = me4 ∙ ap (λ (v : SeatView g.row.K.Denot g.row.T.Denot). let n : Sat g.row.K.Denot g.row.T.Denot = (v ∷ [], []) in n) (ap (λ (o : Option (PoolHold g.row.T.Denot)). as_if (raised_in o top)) h.pooling ∙ sym (ap as_if h.pooling)) in record { out = ap (λ (u : Sat g.row.K.Denot g.row.T.Denot). u.1) me5; hold = ap (λ (u : Sat g.row.K.Denot g.row.T.Denot). (only u.0).hold) me5 ∙ h.hold; pooling = ap (λ (u : Sat g.row.K.Denot g.row.T.Denot). (only u.0).pooling) me5 }

pub returns-clause-gave : goal.returns-clause-gave
returns-clause-gave g c = let b = c.requires.pooling in let h = b.1 in let p : SeatView g.row.K.Denot g.row.T.Denot = view c.args.seat.now in let m : ℕ = c.args.self.now.modules in let z : PoolState g.row.T.Denot = c.args.pool in
    let all : Each (λ (v : Move g.row.T.Denot). v.put ≡ true → g.T.Stamped.stamp v.item < p.reach) z.moves = subst (λ (l : List (Move g.row.T.Denot)). Each (λ (v : Move g.row.T.Denot). v.put ≡ true → g.T.Stamped.stamp v.item < p.reach) l) b.2.moves.1
    (each_append (λ (v : Move g.row.T.Denot). v.put ≡ true → g.T.Stamped.stamp v.item < p.reach) b.0.moves b.2.moves.0 (each_of (λ (v : Move g.row.T.Denot). v.put ≡ true → g.T.Stamped.stamp v.item < h.turn.top) (λ (v : Move g.row.T.Denot). v.put ≡ true → g.T.Stamped.stamp v.item < p.reach) b.0.moves (λ v k put. let a = k put in omega (arith, h.top)) h.below)
    (subst (λ (l : List (Move g.row.T.Denot)). Each (λ (v : Move g.row.T.Denot). v.put ≡ true → g.T.Stamped.stamp v.item < p.reach) l) (ap (drop (length b.0.moves)) (sym b.2.moves.1) ∙ drop_front b.0.moves b.2.moves.0) b.3)) in
    let most = top_most g.T.Stamped.stamp z.moves p.reach all in
    let top : ℕ = c.top-top.result in
    let bound : c.args.seat.now.bound ≡ h.turn.top = c.requires.seat.bound ∙ (ap (λ (o : Option (Hold g.row.K.Denot)). bound_by o p.pooling) h.hold ∙ ap (λ (o : Option (PoolHold g.row.T.Denot)). bound_by {K = g.row.K.Denot} None o) h.pooling) in
    let me0 : c.args.seat.now.token.me ≡ (p ∷ [], (m, Out) ∷ []) = c.requires.seat.one ∙ (ap (λ (l : List (ℕ × Lot g.row.K.Denot g.row.T.Denot)). let n : Sat g.row.K.Denot g.row.T.Denot = (p ∷ [], l) in n) h.out ∙ ap (λ (j : ℕ). let n : Sat g.row.K.Denot g.row.T.Denot = (p ∷ [], (j, Out) ∷ []) in n) c.requires.seat.sized) in
    let me1 : c.put_pool_in.new.token.me ≡ (p ∷ [], (m, OfPool z) ∷ []) = c.put_pool_in.ensures.put ∙ ap (λ (u : Sat g.row.K.Denot g.row.T.Denot). let n : Sat g.row.K.Denot g.row.T.Denot = (u.0, (m, OfPool z) ∷ []) in n) me0 in
    let me2 : c.raise_as.new.token.me ≡ (raised p top ∷ [], (m, OfPool z) ∷ []) = c.raise_as.ensures.raised ∙ ap (λ (u : Sat g.row.K.Denot g.row.T.Denot). let n : Sat g.row.K.Denot g.row.T.Denot = (raised (only u.0) top ∷ [], u.1) in n) me1 in
    let h1 : PoolHold g.row.T.Denot = record h.turn { top = top } in
    let has1 : raised_in p.pooling top ≡ Some h1 = ap (λ (o : Option (PoolHold g.row.T.Denot)). raised_in o top) h.pooling in
    let me3 : c.note_pool_as.new.token.me ≡ (noted_pool (raised p top) z ∷ [], (m, OfPool z) ∷ []) = c.note_pool_as.ensures.noted z (ap (λ (u : Sat g.row.K.Denot g.row.T.Denot). u.1) me2) ∙ ap (λ (u : Sat g.row.K.Denot g.row.T.Denot). let n : Sat g.row.K.Denot g.row.T.Denot = (noted_pool (only u.0) z ∷ [], u.1) in n) me2 in
    let q : SeatView g.row.K.Denot g.row.T.Denot = gave_pool (noted_pool p z) in
    let me4 : c.give_pool_as.new.token.me ≡ (gave_pool (noted_pool (raised p top) z) ∷ [], []) = c.give_pool_as.ensures.gave ∙ ap (λ (u : Sat g.row.K.Denot g.row.T.Denot). let n : Sat g.row.K.Denot g.row.T.Denot = (gave_pool (only u.0) ∷ [], []) in n) me3 in
    let as_if : Option (PoolHold g.row.T.Denot) → SeatView g.row.K.Denot g.row.T.Denot = λ o. gave_pool (noted_pool (record p { pooling = o }) z) in
    let me5 : c.give_pool_as.new.token.me ≡ (q ∷ [], []) = me4 ∙ ap (λ (v : SeatView g.row.K.Denot g.row.T.Denot). let n : Sat g.row.K.Denot g.row.T.Denot = (v ∷ [], []) in n) (ap (λ (o : Option (PoolHold g.row.T.Denot)). as_if (raised_in o top)) h.pooling ∙ sym (ap as_if h.pooling)) in ap (λ (u : Sat g.row.K.Denot g.row.T.Denot). only u.0) me5

pub returns-clause-completes : goal.returns-clause-completes
returns-clause-completes g c family full = let b = c.requires.pooling in let h = b.1 in let p : SeatView g.row.K.Denot g.row.T.Denot = view c.args.seat.now in let m : ℕ = c.args.self.now.modules in let z : PoolState g.row.T.Denot = c.args.pool in
    let all : Each (λ (v : Move g.row.T.Denot). v.put ≡ true → g.T.Stamped.stamp v.item < p.reach) z.moves = subst (λ (l : List (Move g.row.T.Denot)). Each (λ (v : Move g.row.T.Denot). v.put ≡ true → g.T.Stamped.stamp v.item < p.reach) l) b.2.moves.1
    (each_append (λ (v : Move g.row.T.Denot). v.put ≡ true → g.T.Stamped.stamp v.item < p.reach) b.0.moves b.2.moves.0 (each_of (λ (v : Move g.row.T.Denot). v.put ≡ true → g.T.Stamped.stamp v.item < h.turn.top) (λ (v : Move g.row.T.Denot). v.put ≡ true → g.T.Stamped.stamp v.item < p.reach) b.0.moves (λ v k put. let a = k put in omega (arith, h.top)) h.below)
    (subst (λ (l : List (Move g.row.T.Denot)). Each (λ (v : Move g.row.T.Denot). v.put ≡ true → g.T.Stamped.stamp v.item < p.reach) l) (ap (drop (length b.0.moves)) (sym b.2.moves.1) ∙ drop_front b.0.moves b.2.moves.0) b.3)) in
    let most = top_most g.T.Stamped.stamp z.moves p.reach all in
    let top : ℕ = c.top-top.result in
    let bound : c.args.seat.now.bound ≡ h.turn.top = c.requires.seat.bound ∙ (ap (λ (o : Option (Hold g.row.K.Denot)). bound_by o p.pooling) h.hold ∙ ap (λ (o : Option (PoolHold g.row.T.Denot)). bound_by {K = g.row.K.Denot} None o) h.pooling) in
    let me0 : c.args.seat.now.token.me ≡ (p ∷ [], (m, Out) ∷ []) = c.requires.seat.one ∙ (ap (λ (l : List (ℕ × Lot g.row.K.Denot g.row.T.Denot)). let n : Sat g.row.K.Denot g.row.T.Denot = (p ∷ [], l) in n) h.out ∙ ap (λ (j : ℕ). let n : Sat g.row.K.Denot g.row.T.Denot = (p ∷ [], (j, Out) ∷ []) in n) c.requires.seat.sized) in
    let me1 : c.put_pool_in.new.token.me ≡ (p ∷ [], (m, OfPool z) ∷ []) = c.put_pool_in.ensures.put ∙ ap (λ (u : Sat g.row.K.Denot g.row.T.Denot). let n : Sat g.row.K.Denot g.row.T.Denot = (u.0, (m, OfPool z) ∷ []) in n) me0 in
    let me2 : c.raise_as.new.token.me ≡ (raised p top ∷ [], (m, OfPool z) ∷ []) = c.raise_as.ensures.raised ∙ ap (λ (u : Sat g.row.K.Denot g.row.T.Denot). let n : Sat g.row.K.Denot g.row.T.Denot = (raised (only u.0) top ∷ [], u.1) in n) me1 in
    let h1 : PoolHold g.row.T.Denot = record h.turn { top = top } in
    let has1 : raised_in p.pooling top ≡ Some h1 = ap (λ (o : Option (PoolHold g.row.T.Denot)). raised_in o top) h.pooling in
    let me3 : c.note_pool_as.new.token.me ≡ (noted_pool (raised p top) z ∷ [], (m, OfPool z) ∷ []) = c.note_pool_as.ensures.noted z (ap (λ (u : Sat g.row.K.Denot g.row.T.Denot). u.1) me2) ∙ ap (λ (u : Sat g.row.K.Denot g.row.T.Denot). let n : Sat g.row.K.Denot g.row.T.Denot = (noted_pool (only u.0) z ∷ [], u.1) in n) me2 in
    let q : SeatView g.row.K.Denot g.row.T.Denot = gave_pool (noted_pool p z) in
    let me4 : c.give_pool_as.new.token.me ≡ (gave_pool (noted_pool (raised p top) z) ∷ [], []) = c.give_pool_as.ensures.gave ∙ ap (λ (u : Sat g.row.K.Denot g.row.T.Denot). let n : Sat g.row.K.Denot g.row.T.Denot = (gave_pool (only u.0) ∷ [], []) in n) me3 in
    let as_if : Option (PoolHold g.row.T.Denot) → SeatView g.row.K.Denot g.row.T.Denot = λ o. gave_pool (noted_pool (record p { pooling = o }) z) in
    let me5 : c.give_pool_as.new.token.me ≡ (q ∷ [], []) = me4 ∙ ap (λ (v : SeatView g.row.K.Denot g.row.T.Denot). let n : Sat g.row.K.Denot g.row.T.Denot = (v ∷ [], []) in n) (ap (λ (o : Option (PoolHold g.row.T.Denot)). as_if (raised_in o top)) h.pooling ∙ sym (ap as_if h.pooling)) in completes_less g.K.Kept.history g.K.Kept.extends p q refl refl (λ k r x. omega arith) family (subst (Completes g.K.Kept.history g.K.Kept.extends family) (ap (λ (u : Sat g.row.K.Denot g.row.T.Denot). only u.0) me5) full)
