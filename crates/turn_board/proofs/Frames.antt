-- What a step leaves of the parts of the rule that it does not touch.
use Rattle.std.proofs.lemmas.List.{get_or-set_other}
use Rattle.std.proofs.Common.{◌≡◌, ◌≢◌, ℕ, ◌+◌, ◌*◌, ◌<◌, ◌≤◌, List, length, set, get_or, false, true≢false, sym, ap, ◌∙◌, subst, ⊎_elim, arith, eq-eqb, drop, Option, Some, None, Bool}
use mathlib.Core.Option.{some, none, some-injective, some-ne-none}
use mathlib.Core.Option as maybe
use mathlib.Core.Logic.{dite}
use native.Mathlib.Decide.{ℕ_discrete}
use lib.ListN.{get_elem?}
use Rattle.atomic_table.proofs.Lists.{at_set, set_else}
use Rattle.turn_board.specs.declared.view.SeatView.{SeatView}
use Rattle.turn_board.specs.declared.lot.Lot.{Lot}
use Rattle.turn_board.specs.declared.view.Hold.{Hold}
use Rattle.turn_board.specs.declared.pool.Move.{Move}
use Rattle.turn_board.specs.Pools.{PoolState, IsLaterPool}
use Rattle.turn_board.specs.Sums.{Each, total}
use Rattle.turn_board.specs.Views.{stamped, drawn_in, made_at, moved_at, holds_turn, claimed, dried}
use Rattle.turn_board.specs.Rule.{IsDrawn, IsGiven, Standing, IsHeld, IsTurn, IsStanding, PoolStanding, IsPoolTurn, IsPooled}
use Rattle.turn_board.proofs.Rosters.{set_at, sum_set, at_below}

some_or : {X : Type 0} → X → Option X → X
some_or d None = d
some_or d (Some x) = x

pub some_same : {X : Type 0} (a b : X) → Some a ≡ Some b → a ≡ b
unfolding some_or
some_same a b e = ap (some_or a) e

module _ {K T : Type 0} (all : List (SeatView K T)) (k : ℕ) (p w : SeatView K T) (at : get_elem? all k ≡ some p) where
  -- a sum over the seats, of a field that the step leaves
  pub same_sum : (f : SeatView K T → ℕ) → f w ≡ f p → total f (set all k w) ≡ total f all
  same_sum f e = let s = sum_set f all k p w at in omega arith

  -- what holds of each seat, and of the seat that steps
  pub each_set : (P : ℕ → SeatView K T → Type 0) → ((j : ℕ) (q : SeatView K T) → get_elem? all j ≡ some q → P j q) → P k w → (j : ℕ) (q : SeatView K T) → get_elem? (set all k w) j ≡ some q → P j q
  each_set P others mine j q e = ⊎_elim (λ (h : (j ≡ k) × (w ≡ q)). subst (λ (x : ℕ × SeatView K T). P x.0 x.1) (λ i. (sym h.0 i, h.1 i)) mine)
      (λ (h : (j ≢ k) × (get_elem? all j ≡ some q)). others j q h.1) (at_set all k j w q e)

  -- the same, where the others are known to be others
  pub each_other : (P : ℕ → SeatView K T → Type 0) → ((j : ℕ) (q : SeatView K T) → j ≢ k → get_elem? all j ≡ some q → P j q) → P k w → (j : ℕ) (q : SeatView K T) → get_elem? (set all k w) j ≡ some q → P j q
  each_other P others mine j q e = ⊎_elim (λ (h : (j ≡ k) × (w ≡ q)). subst (λ (x : ℕ × SeatView K T). P x.0 x.1) (λ i. (sym h.0 i, h.1 i)) mine)
      (λ (h : (j ≢ k) × (get_elem? all j ≡ some q)). others j q h.0 h.1) (at_set all k j w q e)

  -- a step that draws nothing
  pub keeps_drawn : (now : ℕ) → w.draws ≡ p.draws → w.reach ≡ p.reach → IsDrawn now all → IsDrawn now (set all k w)
  keeps_drawn now e r d = record {
    each_once = λ x. same_sum (λ q. stamped x q.draws) (ap (stamped x) e) ∙ d.each_once x;
    reached = each_set (λ _ q. Each (λ d. d.2 < q.reach) q.draws × (q.reach ≤ now)) d.reached
        (subst (λ (x : ℕ × List (ℕ × ℕ × ℕ)). Each (λ y. y.2 < x.0) x.1 × (x.0 ≤ now)) (λ i. (sym r i, sym e i)) (d.reached k p at));
  }

  -- a step that claims nothing of the cursor c
  pub keeps_given : (c limit now : ℕ) → ((x : ℕ) → claimed c x w.claims ≡ claimed c x p.claims) → dried c w.dry ≡ dried c p.dry → IsGiven c limit now all → IsGiven c limit now (set all k w)
  keeps_given c limit now e d g = record {
    small = g.small;
    each_once = λ x. same_sum (λ q. claimed c x q.claims) (e x) ∙ g.each_once x;
    dry_at = each_set (λ _ q. 0 < dried c q.dry → limit ≤ now) g.dry_at (λ h. g.dry_at k p at (subst (λ n. 0 < n) d h));
    past = subst (λ n. now ≤ limit + n) (sym (same_sum (λ q. dried c q.dry) d)) g.past;
    dry_once = each_set (λ _ q. dried c q.dry ≤ 1) g.dry_once (subst (λ n. n ≤ 1) (sym d) (g.dry_once k p at));
  }

  module _ (history : K → List (ℕ × ℕ)) (extends : K → K → Type 0) (marks : K → List Bool) where
    -- a module whose turn the seat neither had nor gets
    pub turn_apart : (m turn : ℕ) (homes homes' : List (maybe.Option (Lot K T))) (t : Standing K) (o : Option ℕ) → holds_turn m p.hold ≡ false → holds_turn m w.hold ≡ false → get_elem? homes' m ≡ get_elem? homes m
        → IsTurn history extends marks m turn homes all t o → IsTurn history extends marks m turn homes' (set all k w) t o
    turn_apart m turn homes homes' t None nay nay' home f = record { word = f.word; home = home ∙ f.home; whole = f.whole; marks_are = f.marks_are; nobody = each_set (λ _ q. holds_turn m q.hold ≡ false) f.nobody nay' }
    turn_apart m turn homes homes' t (Some h) nay nay' home (q, hold, f) =
        let ne : h ≢ k = λ e. true≢false (sym (ap (holds_turn m) f.holds ∙ eq-eqb hold.slot m f.slot) ∙ (ap (λ (z : SeatView K T). holds_turn m z.hold) (some-injective q p (sym f.is ∙ (ap (get_elem? all) e ∙ at))) ∙ nay)) in (
          q,
          hold,
          record {
            word = f.word;
            home = home ∙ f.home;
            is = set_else all k h w ne ∙ f.is;
            holds = f.holds;
            slot = f.slot;
            bound = f.bound;
            unnoted = f.unnoted;
            noted = f.noted;
            unmarked = f.unmarked;
            marked = f.marked;
            others = each_set (λ j z. j ≢ h → holds_turn m z.hold ≡ false) f.others (λ _. nay');
          },
        )

    -- the seat keeps its turn, if it has it
    pub turn_same : (m turn : ℕ) (homes : List (maybe.Option (Lot K T))) (t : Standing K) (o : Option ℕ) → w.hold ≡ p.hold → w.saw ≡ p.saw
        → IsTurn history extends marks m turn homes all t o → IsTurn history extends marks m turn homes (set all k w) t o
    turn_same m turn homes t None e s f = record { word = f.word; home = f.home; whole = f.whole; marks_are = f.marks_are; nobody = each_set (λ _ q. holds_turn m q.hold ≡ false) f.nobody (ap (holds_turn m) e ∙ f.nobody k p at) }
    turn_same m turn homes t (Some h) e s (q, hold, f) = dite (ℕ_discrete h k)
        (λ i. let same : q ≡ p = some-injective q p (sym f.is ∙ (ap (get_elem? all) i ∙ at)) in (
          w,
          hold,
          record {
            word = f.word;
            home = f.home;
            is = ap (get_elem? (set all k w)) i ∙ set_at all k p w at;
            holds = e ∙ (ap (λ (z : SeatView K T). z.hold) (sym same) ∙ f.holds);
            slot = f.slot;
            bound = f.bound;
            unnoted = f.unnoted;
            unmarked = f.unmarked;
            marked = f.marked;
            noted = λ n. (ap (λ (l : List K). get_elem? l m) (s ∙ ap (λ (z : SeatView K T). z.saw) (sym same)) ∙ (f.noted n).0, (f.noted n).1);
            others = each_other (λ j z. j ≢ h → holds_turn m z.hold ≡ false) (λ j z _ b. f.others j z b) (λ ne. absurd (ne (sym i)));
          },
        ))
        (λ ne. (
          q,
          hold,
          record {
            word = f.word;
            home = f.home;
            is = set_else all k h w ne ∙ f.is;
            holds = f.holds;
            slot = f.slot;
            bound = f.bound;
            unnoted = f.unnoted;
            noted = f.noted;
            unmarked = f.unmarked;
            marked = f.marked;
            others = each_set (λ j z. j ≢ h → holds_turn m z.hold ≡ false) f.others (λ _. ap (holds_turn m) e ∙ f.others k p at (λ i. ne (sym i)));
          },
        ))

    -- a module in which the seat draws nothing and notes nothing
    pub keeps_standing : (m now now' turn turn' : ℕ) (homes homes' : List (maybe.Option (Lot K T))) (t : Standing K) → now ≤ now' → ((row stamp : ℕ) → drawn_in m row stamp w.draws ≡ drawn_in m row stamp p.draws)
        → get_elem? w.saw m ≡ get_elem? p.saw m → get_or w.tops m 0 ≡ get_or p.tops m 0 → ((place : ℕ) → made_at m place w.made ≡ made_at m place p.made) → get_or w.owed m 0 ≡ get_or p.owed m 0 → (o : Option ℕ)
        → IsTurn history extends marks m turn' homes' (set all k w) (record t { holder = o }) o → IsStanding history extends marks m now turn homes all t → IsStanding history extends marks m now' turn' homes' (set all k w) (record t { holder = o })
    keeps_standing m now now' turn turn' homes homes' t le bag saw tops places owed o turn_is f = record {
      bag = λ row stamp. f.bag row stamp ∙ sym (same_sum (λ q. drawn_in m row stamp q.draws) (bag row stamp));
      rows = f.rows;
      bounded = (f.bounded.0, (let b = f.bounded.1 in omega arith));
      seen = λ j q y e g. each_set (λ _ q. (y : K) → get_elem? q.saw m ≡ some y → extends y t.last × Each (λ e. get_or q.tops m 0 ≤ e.1) (drop (length (history y)) t.past)) (λ j q e y g. f.seen j q y e g)
          (λ y g. subst (λ n. extends y t.last × Each (λ e. n ≤ e.1) (drop (length (history y)) t.past)) (sym tops) (f.seen k p y at (sym saw ∙ g))) j q e y g;
      tops = each_set (λ _ q. get_or q.tops m 0 ≤ now') (λ j q e. let b = f.tops j q e in omega arith) (let b = f.tops k p at in omega arith);
      made = λ place. same_sum (λ q. made_at m place q.made) (places place) ∙ f.made place;
      owes = same_sum (λ q. get_or q.owed m 0) owed ∙ f.owes;
      turn_is = turn_is;
    }

    -- who has the turn is the seat of its holder
    pub my_turn : (m turn : ℕ) (homes : List (maybe.Option (Lot K T))) (t : Standing K) (o : Option ℕ) (hold : Hold K) → p.hold ≡ Some hold → hold.slot ≡ m → IsTurn history extends marks m turn homes all t o
        → (o ≡ Some k) × IsHeld history extends marks m turn homes all t k p hold
    my_turn m turn homes t None hold e s f = absurd (true≢false (sym (ap (holds_turn m) e ∙ eq-eqb hold.slot m s) ∙ f.nobody k p at))
    my_turn m turn homes t (Some h) hold e s (q, hold', f) = dite (ℕ_discrete h k)
        (λ i. let same : q ≡ p = some-injective q p (sym f.is ∙ (ap (get_elem? all) i ∙ at)) in
        let same' : hold' ≡ hold = some_same hold' hold (sym f.holds ∙ (ap (λ (z : SeatView K T). z.hold) same ∙ e)) in
        (ap Some i, subst (λ (x : ℕ × SeatView K T × Hold K). IsHeld history extends marks m turn homes all t x.0 x.1 x.2) (λ n. (i n, same n, same' n)) f))
        (λ ne. absurd (true≢false (sym (ap (holds_turn m) e ∙ eq-eqb hold.slot m s) ∙ f.others k p at (λ i. ne (sym i)))))

  module _ (same_plan : T → T → Type 0) (stamp_of : T → ℕ) where
    -- the seat keeps the pool's turn, if it has it
    pub pool_same : (m turn top : ℕ) (homes homes' : List (maybe.Option (Lot K T))) (t : PoolStanding T) (o : Option ℕ) → w.pooling ≡ p.pooling → w.pool_saw ≡ p.pool_saw → get_elem? homes' m ≡ get_elem? homes m
        → IsPoolTurn same_plan stamp_of m turn top homes all t o → IsPoolTurn same_plan stamp_of m turn top homes' (set all k w) t o
    pool_same m turn top homes homes' t None e s home f = record { word = f.word; home = home ∙ f.home; nobody = each_set (λ _ q. q.pooling ≡ None) f.nobody (e ∙ f.nobody k p at) }
    pool_same m turn top homes homes' t (Some h) e s home (q, hold, f) = dite (ℕ_discrete h k)
        (λ i. let same : q ≡ p = some-injective q p (sym f.is ∙ (ap (get_elem? all) i ∙ at)) in (
          w,
          hold,
          record {
            word = f.word;
            home = home ∙ f.home;
            is = ap (get_elem? (set all k w)) i ∙ set_at all k p w at;
            holds = e ∙ (ap (λ (z : SeatView K T). z.pooling) (sym same) ∙ f.holds);
            top_here = f.top_here;
            unnoted = f.unnoted;
            noted = λ n. s ∙ (ap (λ (z : SeatView K T). z.pool_saw) (sym same) ∙ f.noted n);
            others = each_other (λ j z. j ≢ h → z.pooling ≡ None) (λ j z _ b. f.others j z b) (λ ne. absurd (ne (sym i)));
          },
        ))
        (λ ne. (
          q,
          hold,
          record {
            word = f.word;
            home = home ∙ f.home;
            is = set_else all k h w ne ∙ f.is;
            holds = f.holds;
            top_here = f.top_here;
            unnoted = f.unnoted;
            noted = f.noted;
            others = each_set (λ j z. j ≢ h → z.pooling ≡ None) f.others (λ _. e ∙ f.others k p at (λ i. ne (sym i)));
          },
        ))

    -- a step that does nothing with the pool
    pub keeps_pool : (m now now' turn count top : ℕ) (homes homes' : List (maybe.Option (Lot K T))) (t : PoolStanding T) → now ≤ now' → w.pooling ≡ p.pooling → w.pool_saw ≡ p.pool_saw → w.moves ≡ p.moves → get_elem? homes' m ≡ get_elem? homes m
        → IsPooled same_plan stamp_of m now turn count top homes all t → IsPooled same_plan stamp_of m now' turn count top homes' (set all k w) t
    keeps_pool m now now' turn count top homes homes' t le pooling saw moves home f = record {
      counted = f.counted;
      moved = λ place. same_sum (λ q. moved_at place q.moves) (ap (moved_at place) moves) ∙ f.moved place;
      stand = each_set (λ _ q. Each (λ (z : ℕ × Move T). get_elem? t.last.moves z.0 ≡ some z.1) q.moves) f.stand (subst (λ (l : List (ℕ × Move T)). Each (λ (z : ℕ × Move T). get_elem? t.last.moves z.0 ≡ some z.1) l) (sym moves) (f.stand k p at));
      seen = λ j q y e g. each_set (λ _ q. (y : PoolState T) → q.pool_saw ≡ Some y → IsLaterPool same_plan y t.last) (λ j q e y g. f.seen j q y e g) (λ y g. f.seen k p y at (sym saw ∙ g)) j q e y g;
      below = f.below;
      top_is = (let b = f.top_is in omega arith);
      turn_is = pool_same m turn top homes homes' t t.holder pooling saw home f.turn_is;
    }

    -- the same where a word becomes another that is none of the pool's
    pub keeps_pool_at : (m : ℕ) (words : List ℕ) (i v : ℕ) (homes homes' : List (maybe.Option (Lot K T))) (t : PoolStanding T) → ((j : ℕ) → 24 + 8 * m ≤ j → j ≢ i) → get_or words 0 0 ≤ get_or (set words i v) 0 0
        → w.pooling ≡ p.pooling → w.pool_saw ≡ p.pool_saw → w.moves ≡ p.moves → get_elem? homes' m ≡ get_elem? homes m
        → IsPooled same_plan stamp_of m (get_or words 0 0) (get_or words (24 + 8 * m) 0) (get_or words (25 + 8 * m) 0) (get_or words (26 + 8 * m) 0) homes all t
        → IsPooled same_plan stamp_of m (get_or (set words i v) 0 0) (get_or (set words i v) (24 + 8 * m) 0) (get_or (set words i v) (25 + 8 * m) 0) (get_or (set words i v) (26 + 8 * m) 0) homes' (set all k w) t
    keeps_pool_at m words i v homes homes' t apart le pooling saw moves home f =
        let a = get_or-set_other words i (24 + 8 * m) v 0 (apart (24 + 8 * m) (omega arith)) in
        let b = get_or-set_other words i (25 + 8 * m) v 0 (apart (25 + 8 * m) (omega arith)) in
        let c = get_or-set_other words i (26 + 8 * m) v 0 (apart (26 + 8 * m) (omega arith)) in
        subst (λ (x : ℕ × ℕ × ℕ). IsPooled same_plan stamp_of m (get_or (set words i v) 0 0) x.0 x.1 x.2 homes' (set all k w) t) (λ j. (sym a j, sym b j, sym c j))
        (keeps_pool m (get_or words 0 0) (get_or (set words i v) 0 0) (get_or words (24 + 8 * m) 0) (get_or words (25 + 8 * m) 0) (get_or words (26 + 8 * m) 0) homes homes' t le pooling saw moves home f)

-- each module's words count its entries and its marks
abbrev pub WordsAre : {K : Type 0} → (K → List (ℕ × ℕ)) → List ℕ → List (Standing K) → Type 0
WordsAre {K} history words mods = (d : ℕ) (u : Standing K) → get_elem? mods d ≡ some u → (get_or words (25 + 8 * d) 0 ≡ length (history u.last)) × (get_or words (26 + 8 * d) 0 ≡ u.listed)

module _ {K : Type 0} (history : K → List (ℕ × ℕ)) (words : List ℕ) (i v : ℕ) (mods : List (Standing K)) (were : WordsAre history words mods) where
  -- a word that is none of these becomes another
  pub words_kept : ((d : ℕ) → d < length mods → (25 + 8 * d ≢ i) × (26 + 8 * d ≢ i)) → WordsAre history (set words i v) mods
  words_kept apart d u e = let a = apart d (at_below mods d u e) in (get_or-set_other words i (25 + 8 * d) v 0 a.0 ∙ (were d u e).0, get_or-set_other words i (26 + 8 * d) v 0 a.1 ∙ (were d u e).1)

  -- one module steps, by a word that counts nothing of another
  pub words_step : (m : ℕ) (t : Standing K) → ((d : ℕ) → d ≢ m → (25 + 8 * d ≢ i) × (26 + 8 * d ≢ i)) → (get_or (set words i v) (25 + 8 * m) 0 ≡ length (history t.last)) × (get_or (set words i v) (26 + 8 * m) 0 ≡ t.listed) → WordsAre history (set words i v) (set mods m t)
  words_step m t apart mine d u e = ⊎_elim
      (λ (h : (d ≡ m) × (t ≡ u)). subst (λ (x : ℕ × Standing K). (get_or (set words i v) (25 + 8 * x.0) 0 ≡ length (history x.1.last)) × (get_or (set words i v) (26 + 8 * x.0) 0 ≡ x.1.listed)) (λ n. (sym h.0 n, h.1 n)) mine)
      (λ (h : (d ≢ m) × (get_elem? mods d ≡ some u)). let a = apart d h.0 in (get_or-set_other words i (25 + 8 * d) v 0 a.0 ∙ (were d u h.1).0, get_or-set_other words i (26 + 8 * d) v 0 a.1 ∙ (were d u h.1).1))
      (at_set mods m d t u e)
