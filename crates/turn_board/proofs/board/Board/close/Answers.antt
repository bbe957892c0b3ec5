use Rattle.std.proofs.Common.{arith, ◌≡◌, ◌<◌, ◌∙◌, ℕ, List, length, get_or, sym, ap, subst, None}
use Rattle.std.proofs.lemmas.List.{length-map}
use Rattle.std.proofs.lemmas.Grind.{common_steps}
use Rattle.std.specs.Slots.{slots_items}
use lib.ListN.{get_elem?}
use mathlib.Core.Option.{some, some-injective}
use Rattle.turn_board.specs.declared.view.SeatView.{SeatView}
use Rattle.turn_board.specs.declared.seat.Seat.{Seat}
use Rattle.turn_board.specs.declared.lot.Lot.{Lot}
use Rattle.turn_board.specs.declared.lot.Lot.TheVariants.{OfModule, OfPool}
use Rattle.turn_board.specs.Sums.{Each}
use Rattle.turn_board.specs.Pools.{PoolState}
use Rattle.turn_board.specs.Boards.{IsSeatOf, IsIdle, IsClosing, view}
use Rattle.turn_board.specs.Plays.{Sat}
use Rattle.turn_board.proofs.Somes.{pool_or}
use Rattle.turn_board.proofs.Closing.{closes, at_home, pool_home, read_at}
use Rattle.turn_board.proofs.Dealing.{each_view, all_each}
use Rattle.turn_board.proofs.board.Board.close.Goals as goal

pub refill-modules-requires-clause-modules : goal.refill-modules-requires-clause-modules
refill-modules-requires-clause-modules g c m h = let last = c.close_with-closed.ensures.values.2 in let key = c.args.self.table.shared.key in
    let views : List (SeatView g.row.K.Denot g.row.T.Denot) = c.gather-token.result.me.0 in
    let is = ap (λ (m : Sat g.row.K.Denot g.row.T.Denot). m.0) c.gather-token.ensures.views in
    let items : length c.args.seats.items ≡ c.args.self.seats = grind (arith, common_steps) in
    let many : length views ≡ key.seats = ap (length {A = SeatView g.row.K.Denot g.row.T.Denot}) is ∙ (length-map c.args.seats.items _ ∙ (items ∙ sym c.args.self.crew)) in
    let P : Seat g.row.K.Denot g.row.T.Denot → Type 0 = λ s. IsSeatOf c.args.self s × IsIdle s in
    let each = all_each P c.args.seats.items c.requires.seats in
    let idle : Each (λ p. p.hold ≡ None) views = subst (λ (v : List (SeatView g.row.K.Denot g.row.T.Denot)). Each (λ p. p.hold ≡ None) v) (sym is) (each_view (λ s. view s) P (λ p. p.hold ≡ None) c.args.seats.items (λ s x. x.1.hold) each) in
    let still : Each (λ p. p.pooling ≡ None) views = subst (λ (v : List (SeatView g.row.K.Denot g.row.T.Denot)). Each (λ p. p.pooling ≡ None) v) (sym is) (each_view (λ s. view s) P (λ p. p.pooling ≡ None) c.args.seats.items (λ s x. x.1.pooling) each) in
    let there : m < length key.opening.value.items = omega (arith, c.args.self.deep) in
    let k = at_home g.K.Kept.history g.K.Kept.extends g.K.Kept.marks g.T.Stamped.same_plan g.T.Stamped.stamp key last.0 last.1.0 c.gather-token.result.id views last.1.1 many idle still m there in (k.0, last.4 m (OfModule k.0) k.1)

pub refill-modules-requires-clause-pool : goal.refill-modules-requires-clause-pool
refill-modules-requires-clause-pool g c = let last = c.close_with-closed.ensures.values.2 in let key = c.args.self.table.shared.key in
    let views : List (SeatView g.row.K.Denot g.row.T.Denot) = c.gather-token.result.me.0 in
    let is = ap (λ (m : Sat g.row.K.Denot g.row.T.Denot). m.0) c.gather-token.ensures.views in
    let items : length c.args.seats.items ≡ c.args.self.seats = grind (arith, common_steps) in
    let many : length views ≡ key.seats = ap (length {A = SeatView g.row.K.Denot g.row.T.Denot}) is ∙ (length-map c.args.seats.items _ ∙ (items ∙ sym c.args.self.crew)) in
    let P : Seat g.row.K.Denot g.row.T.Denot → Type 0 = λ s. IsSeatOf c.args.self s × IsIdle s in
    let each = all_each P c.args.seats.items c.requires.seats in
    let idle : Each (λ p. p.hold ≡ None) views = subst (λ (v : List (SeatView g.row.K.Denot g.row.T.Denot)). Each (λ p. p.hold ≡ None) v) (sym is) (each_view (λ s. view s) P (λ p. p.hold ≡ None) c.args.seats.items (λ s x. x.1.hold) each) in
    let still : Each (λ p. p.pooling ≡ None) views = subst (λ (v : List (SeatView g.row.K.Denot g.row.T.Denot)). Each (λ p. p.pooling ≡ None) v) (sym is) (each_view (λ s. view s) P (λ p. p.pooling ≡ None) c.args.seats.items (λ s x. x.1.pooling) each) in
    let p : PoolState g.row.T.Denot = last.1.0.pool.last in
    (p, subst (λ (n : ℕ). get_elem? (slots_items c.close_with-closed.result.slots) n ≡ some (OfPool p)) c.args.self.deep (last.4 (length key.opening.value.items) (OfPool p) (pool_home g.K.Kept.history g.K.Kept.extends g.K.Kept.marks g.T.Stamped.same_plan g.T.Stamped.stamp key last.0 last.1.0 c.gather-token.result.id views last.1.1 many idle still)))

pub returns-clause-closing : goal.returns-clause-closing
returns-clause-closing g c = let last = c.close_with-closed.ensures.values.2 in let key = c.args.self.table.shared.key in
    let views : List (SeatView g.row.K.Denot g.row.T.Denot) = c.gather-token.result.me.0 in
    let is = ap (λ (m : Sat g.row.K.Denot g.row.T.Denot). m.0) c.gather-token.ensures.views in
    let items : length c.args.seats.items ≡ c.args.self.seats = grind (arith, common_steps) in
    let many : length views ≡ key.seats = ap (length {A = SeatView g.row.K.Denot g.row.T.Denot}) is ∙ (length-map c.args.seats.items _ ∙ (items ∙ sym c.args.self.crew)) in
    let P : Seat g.row.K.Denot g.row.T.Denot → Type 0 = λ s. IsSeatOf c.args.self s × IsIdle s in
    let each = all_each P c.args.seats.items c.requires.seats in
    let idle : Each (λ p. p.hold ≡ None) views = subst (λ (v : List (SeatView g.row.K.Denot g.row.T.Denot)). Each (λ p. p.hold ≡ None) v) (sym is) (each_view (λ s. view s) P (λ p. p.hold ≡ None) c.args.seats.items (λ s x. x.1.hold) each) in
    let still : Each (λ p. p.pooling ≡ None) views = subst (λ (v : List (SeatView g.row.K.Denot g.row.T.Denot)). Each (λ p. p.pooling ≡ None) v) (sym is) (each_view (λ s. view s) P (λ p. p.pooling ≡ None) c.args.seats.items (λ s x. x.1.pooling) each) in
    let drawn : get_or last.0.words 0 0 ≡ c.word-drawn.result = ap (λ (l : List ℕ). get_or l 0 0) last.2 ∙ read_at _ 0 0 c.word-drawn.result c.word-drawn.ensures in
    let modules : List g.row.K.Denot = c.refill-modules.result.0.items in let pool : PoolState g.row.T.Denot = c.refill-modules.result.1 in
    let count : length modules ≡ length key.opening.value.items = grind (arith, common_steps) in
    let all : IsClosing g.K.Kept.history g.K.Kept.extends g.K.Kept.marks g.T.Stamped.same_plan key.lengths.value.items (get_or last.0.words 0 0) views modules pool = closes g.K.Kept.history g.K.Kept.extends g.K.Kept.marks g.T.Stamped.same_plan g.T.Stamped.stamp key last.0 last.1.0 c.gather-token.result.id views last.1.1 many idle still modules pool count
    (λ m y h e. c.refill-modules.ensures.modules m y (omega (arith, c.args.self.deep)) (last.4 m (OfModule y) e))
    (λ p e. ap (λ (l : Lot g.row.K.Denot g.row.T.Denot). pool_or p l) (some-injective (OfPool p) (OfPool pool) (sym (subst (λ (n : ℕ). get_elem? (slots_items c.close_with-closed.result.slots) n ≡ some (OfPool p)) c.args.self.deep (last.4 (length key.opening.value.items) (OfPool p) e)) ∙ c.refill-modules.ensures.pool))) in
    subst (λ (v : List (SeatView g.row.K.Denot g.row.T.Denot)). IsClosing g.K.Kept.history g.K.Kept.extends g.K.Kept.marks g.T.Stamped.same_plan c.args.self.lengths.items c.word-drawn.result v modules pool) is
    (subst (λ (l : List ℕ). IsClosing g.K.Kept.history g.K.Kept.extends g.K.Kept.marks g.T.Stamped.same_plan l c.word-drawn.result views modules pool) c.args.self.told (subst (λ (n : ℕ). IsClosing g.K.Kept.history g.K.Kept.extends g.K.Kept.marks g.T.Stamped.same_plan key.lengths.value.items n views modules pool) drawn all))
