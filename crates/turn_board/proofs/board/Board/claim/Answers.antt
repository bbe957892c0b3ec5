use Rattle.std.proofs.Common.{rules, arith, ◌≡◌, ◌<◌, true, false, sym, refl, ap, ◌∙◌, subst, inl, inr, ℕ, Bool, List, set, get_or}
use Rattle.std.proofs.lemmas.Grind.{get_or_default_zero}
use Rattle.turn_board.specs.declared.seat.Seat.{Seat}
use Rattle.turn_board.specs.Plays.{only, Sat, got_row, got_none}
use Rattle.turn_board.specs.Boards.{Completes, view}
use Rattle.turn_board.proofs.Completions.{completes_less}
use Rattle.turn_board.proofs.Seats.{seat_as}
use Rattle.turn_board.proofs.Dry.{is_dry, is_fresh, gets_dry}
use Rattle.turn_board.proofs.board.Board.claim.Goals as goal

pub returns-then-seat-at-clause-none : goal.returns-then-seat-at-clause-none
returns-then-seat-at-clause-none g c = let h : c.args.cursor < 16 = omega arith in
    inr (is_dry c.args.cursor (view c.args.seat.now).dry h (ap (λ (l : List Bool). get_or l c.args.cursor false) (sym c.requires.seat.dry) ∙ c.if-seat-at.true), refl)

pub claim_as-found-requires-clause-fresh : goal.claim_as-found-requires-clause-fresh
claim_as-found-requires-clause-fresh g c = let h : c.args.cursor < 16 = omega arith in
    is_fresh c.args.cursor (view c.args.seat.now).dry h (ap (λ (l : List Bool). get_or l c.args.cursor false) (sym c.requires.seat.dry) ∙ c.if-seat-at.false)

pub returns-then-found-index-clause-row : goal.returns-then-found-index-clause-row
returns-then-found-index-clause-row g c = let h : c.args.cursor < 16 = omega arith in
    let same : get_or (view c.args.seat.now).lengths c.args.cursor 0 ≡ c.index.result.now = ap (λ (l : List ℕ). get_or l c.args.cursor 0) c.requires.seat.lengths ∙ (sym (get_or_default_zero c.args.self.now.lengths.items c.args.cursor c.index.result.now (search rules)) ∙ sym c.index.ensures) in
    let e = c.claim_as-found.ensures.row (omega arith) in (
      omega (arith, ap (λ (l : List ℕ). get_or l c.args.cursor 0) c.requires.seat.lengths),
      is_fresh c.args.cursor (view c.args.seat.now).dry h (ap (λ (l : List Bool). get_or l c.args.cursor false) (sym c.requires.seat.dry) ∙ c.if-seat-at.false),
      ap (λ (m : Sat g.row.K.Denot g.row.T.Denot). only m.0) e,
    )

pub returns-then-found-index-clause-completes : goal.returns-then-found-index-clause-completes
returns-then-found-index-clause-completes g c family full =
    let same : get_or (view c.args.seat.now).lengths c.args.cursor 0 ≡ c.index.result.now = ap (λ (l : List ℕ). get_or l c.args.cursor 0) c.requires.seat.lengths ∙ (sym (get_or_default_zero c.args.self.now.lengths.items c.args.cursor c.index.result.now (search rules)) ∙ sym c.index.ensures) in
    let e = c.claim_as-found.ensures.row (omega arith) in
    completes_less g.K.Kept.history g.K.Kept.extends (view c.args.seat.now) (got_row (view c.args.seat.now) c.args.cursor c.claim_as-found.result) refl refl (λ n row stamp. omega arith) family (subst (Completes g.K.Kept.history g.K.Kept.extends family) (ap (λ (m : Sat g.row.K.Denot g.row.T.Denot). only m.0) e) full)

pub returns-else-found-index-clause-seat : goal.returns-else-found-index-clause-seat
returns-else-found-index-clause-seat g c = let h : c.args.cursor < 16 = omega arith in
    let same : get_or (view c.args.seat.now).lengths c.args.cursor 0 ≡ c.index.result.now = ap (λ (l : List ℕ). get_or l c.args.cursor 0) c.requires.seat.lengths ∙ (sym (get_or_default_zero c.args.self.now.lengths.items c.args.cursor c.index.result.now (search rules)) ∙ sym c.index.ensures) in
    let e = c.claim_as-found.ensures.none (omega arith) in
    let new : Seat g.row.K.Denot g.row.T.Denot = record { token = c.claim_as-found.new.token; dry = set c.args.seat.now.dry c.args.cursor true; bound = c.args.seat.now.bound; last = c.args.seat.now.last } in
    seat_as c.args.self.now c.args.seat.now new c.requires.seat (got_none (view c.args.seat.now) c.args.cursor) c.args.seat.now.token.me.1 c.claim_as-found.ensures.board.0 e refl refl
    (ap (λ (l : List Bool). set l c.args.cursor true) c.requires.seat.dry ∙ gets_dry c.args.cursor (view c.args.seat.now).dry h) c.requires.seat.bound c.requires.seat.near.0 c.requires.seat.near.1 c.requires.seat.thrifty c.requires.seat.tops

pub returns-else-found-index-clause-completes : goal.returns-else-found-index-clause-completes
returns-else-found-index-clause-completes g c family full =
    let same : get_or (view c.args.seat.now).lengths c.args.cursor 0 ≡ c.index.result.now = ap (λ (l : List ℕ). get_or l c.args.cursor 0) c.requires.seat.lengths ∙ (sym (get_or_default_zero c.args.self.now.lengths.items c.args.cursor c.index.result.now (search rules)) ∙ sym c.index.ensures) in
    let e = c.claim_as-found.ensures.none (omega arith) in
    completes_less g.K.Kept.history g.K.Kept.extends (view c.args.seat.now) (got_none (view c.args.seat.now) c.args.cursor) refl refl (λ n row stamp. omega arith) family (subst (Completes g.K.Kept.history g.K.Kept.extends family) (ap (λ (m : Sat g.row.K.Denot g.row.T.Denot). only m.0) e) full)

pub returns-else-found-index-clause-none : goal.returns-else-found-index-clause-none
returns-else-found-index-clause-none g c = let h : c.args.cursor < 16 = omega arith in
    let same : get_or (view c.args.seat.now).lengths c.args.cursor 0 ≡ c.index.result.now = ap (λ (l : List ℕ). get_or l c.args.cursor 0) c.requires.seat.lengths ∙ (sym (get_or_default_zero c.args.self.now.lengths.items c.args.cursor c.index.result.now (search rules)) ∙ sym c.index.ensures) in
    let e = c.claim_as-found.ensures.none (omega arith) in
    inl (is_fresh c.args.cursor (view c.args.seat.now).dry h (ap (λ (l : List Bool). get_or l c.args.cursor false) (sym c.requires.seat.dry) ∙ c.if-seat-at.false), ap (λ (m : Sat g.row.K.Denot g.row.T.Denot). only m.0) e)
