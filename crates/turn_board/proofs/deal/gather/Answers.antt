use Rattle.std.proofs.Common.{◌≡◌, ◌++◌, [], ◌∷◌, ap, ◌∙◌, subst}
use Rattle.std.proofs.lemmas.List.{append-nil}
use Rattle.turn_board.specs.Boards.{view}
use Rattle.turn_board.specs.Plays.{Sat}
use Rattle.turn_board.specs.Sums.{Each}
use Rattle.turn_board.proofs.Keeping.{joins}
use Rattle.turn_board.proofs.Dealing.{back_views, each_back}
use Rattle.turn_board.proofs.deal.gather.Goals as goal

pub loop-seat-init : goal.loop-seat-init
loop-seat-init g c = let seat = c.in-Some.last in let e = each_back _ c.pop.new.self.items seat (subst (Each _) c.in-Some.ensures.items c.requires.seats) in
    record {
      board = e.1.0;
      views = back_views (λ s. view s) c.args.seats.items c.pop.new.self.items seat seat.token.me.0 [] c.in-Some.ensures.items (ap (λ (m : Sat g.row.K.Denot g.row.T.Denot). m.0) e.1.1) ∙ append-nil _;
      alone = e.1.2;
      each = e.0;
    }

pub join_seat-requires : goal.join_seat-requires
join_seat-requires g c = let seat = c.in-Some-pop.seat in let e = each_back _ c.pop-in-loop-seat.new.self.items seat (subst (Each _) c.in-Some-pop.ensures.items c.loop-seat.invariant.each) in (
  e.1.0,
  c.loop-seat.invariant.board,
  c.loop-seat.invariant.alone,
  c.requires.words,
  joins g.K.Kept.history g.K.Kept.extends g.K.Kept.marks g.T.Stamped.same_plan g.T.Stamped.stamp c.args.board.now.shared.key seat.token.id seat.token.me.0 c.loop-seat.all.id c.loop-seat.all.me.0,
)

pub loop-seat-preserved : goal.loop-seat-preserved
loop-seat-preserved g c = let seat = c.in-Some-pop.seat in let e = each_back _ c.pop-in-loop-seat.new.self.items seat (subst (Each _) c.in-Some-pop.ensures.items c.loop-seat.invariant.each) in
    let both : c.join_seat.new.seat.me.0 ≡ view seat ∷ c.loop-seat.all.me.0 = ap (λ (m : Sat g.row.K.Denot g.row.T.Denot). m.0) c.join_seat.ensures.2 ∙ ap (λ (m : Sat g.row.K.Denot g.row.T.Denot). m.0 ++ c.loop-seat.all.me.0) e.1.1 in
    record {
      board = c.join_seat.ensures.0 ∙ e.1.0;
      views = back_views (λ s. view s) c.loop-seat.seats.items c.pop-in-loop-seat.new.self.items seat c.join_seat.new.seat.me.0 c.loop-seat.all.me.0 c.in-Some-pop.ensures.items both ∙ c.loop-seat.invariant.views;
      alone = ap (λ (m : Sat g.row.K.Denot g.row.T.Denot). m.1) c.join_seat.ensures.2 ∙ e.1.2;
      each = e.0;
    }
