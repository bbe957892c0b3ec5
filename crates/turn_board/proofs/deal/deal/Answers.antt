use Rattle.std.proofs.Common.{rules, arith, ◌≡◌, ◌<◌, ◌+◌, ◌-◌, ℕ, List, [], ◌∷◌, refl, ap, ◌∙◌, Option, Some}
use Rattle.turn_board.specs.declared.view.SeatView.{SeatView}
use Rattle.turn_board.specs.Tokens.{Token}
use Rattle.turn_board.specs.Pools.{PoolState}
use Rattle.turn_board.specs.Plays.{only, Sat, first_alone, behind_first}
use Rattle.turn_board.specs.Views.{fresh, seats_from}
use Rattle.turn_board.proofs.Opening.{next_from, parts}
use Rattle.turn_board.proofs.Dealing.{seat_from, more_views, more_each}
use Rattle.turn_board.proofs.deal.deal.Goals as goal

pub split_seat-token-requires : goal.split_seat-token-requires
split_seat-token-requires g c = let key = c.args.board.now.table.shared.key in let lengths = c.args.board.now.lengths.items in let saw = key.opening.value.items in let pool : Option (PoolState g.row.T.Denot) = Some key.pool.value in
    let k = c.loop-k._k in let n : ℕ = c.args.board.now.seats - (k + 1) in
    let e : c.loop-k.first.me.0 ≡ fresh lengths saw pool k ∷ seats_from lengths saw pool (k + 1) n = ap (λ (m : Sat g.row.K.Denot g.row.T.Denot). m.0) c.loop-k.invariant.left ∙ next_from lengths saw pool k n (c.args.board.now.seats - k) (omega arith) in (
      c.loop-k.invariant.board,
      (let h : 0 < c.args.board.now.table.shared.table_id.words = omega (arith, c.args.board.now.words) in h),
      parts g.K.Kept.history g.K.Kept.extends g.K.Kept.marks g.T.Stamped.same_plan g.T.Stamped.stamp key c.loop-k.first.id c.loop-k.first.me.0 lengths saw pool k n e,
    )

pub loop-k-preserved : goal.loop-k-preserved
loop-k-preserved g c = let key = c.args.board.now.table.shared.key in let lengths = c.args.board.now.lengths.items in let saw = key.opening.value.items in let pool : Option (PoolState g.row.T.Denot) = Some key.pool.value in
    let k = c.loop-k._k in let n : ℕ = c.args.board.now.seats - (k + 1) in
    let next = next_from lengths saw pool k n (c.args.board.now.seats - k) (omega arith) in
    let e : c.loop-k.first.me.0 ≡ fresh lengths saw pool k ∷ seats_from lengths saw pool (k + 1) n = ap (λ (m : Sat g.row.K.Denot g.row.T.Denot). m.0) c.loop-k.invariant.left ∙ next in
    let is : c.new_seat.result.token.me ≡ (fresh lengths saw pool k ∷ [], []) = ap (λ (t : Token g.row.K.Denot g.row.T.Denot). t.me) c.new_seat.ensures.token ∙ (c.split_seat-token.ensures.4 ∙ ap (λ (v : List (SeatView g.row.K.Denot g.row.T.Denot)). let m : Sat g.row.K.Denot g.row.T.Denot = (first_alone v, []) in m) e) in
    record {
      left = c.split_seat-token.ensures.2 ∙ (ap (λ (m : Sat g.row.K.Denot g.row.T.Denot). let r : Sat g.row.K.Denot g.row.T.Denot = (behind_first m.0, m.1) in r) c.loop-k.invariant.left ∙ ap (λ (v : List (SeatView g.row.K.Denot g.row.T.Denot)). let r : Sat g.row.K.Denot g.row.T.Denot = (behind_first v, []) in r) next);
      board = c.split_seat-token.ensures.0 ∙ c.loop-k.invariant.board;
      room = omega arith;
      capacity = search rules;
      seats = more_each _ c.loop-k.list.items c.push_reserved.new.self.items c.new_seat.result c.push_reserved.ensures.items c.loop-k.invariant.seats
          (seat_from c.args.board.now c.new_seat.result lengths saw pool k (ap (λ (t : Token g.row.K.Denot g.row.T.Denot). t.table_id) c.new_seat.ensures.token ∙ (c.split_seat-token.ensures.3 ∙ c.loop-k.invariant.board)) is refl c.args.board.now.deep c.new_seat.ensures.fields.0 c.new_seat.ensures.fields.1);
      views = more_views lengths saw pool _ c.loop-k.list.items c.push_reserved.new.self.items c.new_seat.result k (k + 1) c.push_reserved.ensures.items c.loop-k.invariant.views (ap (λ (m : Sat g.row.K.Denot g.row.T.Denot). only m.0) is) refl;
    }

pub returns-clause-seats : goal.returns-clause-seats
returns-clause-seats g c = let key = c.args.board.now.table.shared.key in let lengths = c.args.board.now.lengths.items in let saw = key.opening.value.items in let pool : Option (PoolState g.row.T.Denot) = Some key.pool.value in
    let k = c.loop-k._k in let next = next_from lengths saw pool k 0 (c.args.board.now.seats - k) (omega arith) in
    let is : c.new_seat-2.result.token.me ≡ (fresh lengths saw pool k ∷ [], []) = ap (λ (t : Token g.row.K.Denot g.row.T.Denot). t.me) c.new_seat-2.ensures.token ∙ (c.loop-k.invariant.left ∙ ap (λ (v : List (SeatView g.row.K.Denot g.row.T.Denot)). let m : Sat g.row.K.Denot g.row.T.Denot = (v, []) in m) next) in
    more_each _ c.loop-k.list.items c.push_reserved-2.new.self.items c.new_seat-2.result c.push_reserved-2.ensures.items c.loop-k.invariant.seats
    (seat_from c.args.board.now c.new_seat-2.result lengths saw pool k (ap (λ (t : Token g.row.K.Denot g.row.T.Denot). t.table_id) c.new_seat-2.ensures.token ∙ c.loop-k.invariant.board) is refl c.args.board.now.deep c.new_seat-2.ensures.fields.0 c.new_seat-2.ensures.fields.1)

pub returns-clause-views : goal.returns-clause-views
returns-clause-views g c = let key = c.args.board.now.table.shared.key in let lengths = c.args.board.now.lengths.items in let saw = key.opening.value.items in let pool : Option (PoolState g.row.T.Denot) = Some key.pool.value in
    let k = c.loop-k._k in let next = next_from lengths saw pool k 0 (c.args.board.now.seats - k) (omega arith) in
    let is : c.new_seat-2.result.token.me ≡ (fresh lengths saw pool k ∷ [], []) = ap (λ (t : Token g.row.K.Denot g.row.T.Denot). t.me) c.new_seat-2.ensures.token ∙ (c.loop-k.invariant.left ∙ ap (λ (v : List (SeatView g.row.K.Denot g.row.T.Denot)). let m : Sat g.row.K.Denot g.row.T.Denot = (v, []) in m) next) in
    more_views lengths saw pool _ c.loop-k.list.items c.push_reserved-2.new.self.items c.new_seat-2.result k c.args.board.now.seats c.push_reserved-2.ensures.items c.loop-k.invariant.views (ap (λ (m : Sat g.row.K.Denot g.row.T.Denot). only m.0) is) (omega arith)
