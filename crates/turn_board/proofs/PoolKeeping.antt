-- The steps of the pool's turn keep the rule.
use Rattle.std.proofs.Common.{◌≡◌, ◌≢◌, ℕ, suc, ◌+◌, ◌*◌, ◌<◌, ◌≤◌, List, [], ◌∷◌, ◌++◌, length, set, get_or, length-append, append_assoc, cond, eqb, true, false, true≢false, sym, refl, ap, ◌∙◌, subst, arith, eq-eqb, ne_eqb, drop, Bool, Option, Some, None}
use Rattle.std.proofs.lemmas.List.{get_or-set_same, get_or-set_other, set-get_or, append-nil}
use mathlib.Core.Option.{some, none, some-injective, some-ne-none}
use mathlib.Core.Option as maybe
use mathlib.Core.Logic.{dite}
use native.Mathlib.Decide.{ℕ_discrete}
use prog.Atomic.{either}
use lib.ListN.{get_elem?}
use Rattle.atomic_table.proofs.Lists.{set_else, set_again, at_longer, at_last}
use Rattle.atomic_table.specs.Table.{State, Allows, keeps, takes, gives, step}
use Rattle.turn_board.specs.declared.view.SeatView.{SeatView}
use Rattle.turn_board.specs.declared.view.PoolHold.{PoolHold}
use Rattle.turn_board.specs.declared.view.Terms.{Terms}
use Rattle.turn_board.specs.declared.lot.Lot.{Lot}
use Rattle.turn_board.specs.declared.lot.Lot.TheVariants.{OfPool}
use Rattle.turn_board.specs.declared.pool.Move.{Move}
use Rattle.turn_board.specs.Sums.{Each, total, once_below}
use Rattle.turn_board.specs.Views.{stamped, drawn_in, made_at, moved_at, claimed, dried}
use Rattle.turn_board.specs.Pools.{PoolState, IsLaterPool, placed}
use Rattle.turn_board.specs.Rule.{turn_at, entries_at, marks_at, IsDrawn, IsGiven, Standing, PoolStanding, IsTurn, IsStanding, IsPoolFree, IsPoolHeld, IsPoolTurn, IsPooled, IsBoard}
use Rattle.turn_board.specs.Plays.{Sat}
use Rattle.turn_board.specs.PoolPlays.{took_pool, learnt, raised, raised_in, noted_pool, noted_pool_in, new_moves, gave_pool, TakesPool, Learns, Raises, NotesPool, GivesPool}
use Rattle.turn_board.proofs.Rosters.{place, tied_step, at_below, set_at, sum_set, sum_append, length_set, each_of, each_append}
use Rattle.turn_board.proofs.Rows.{few_entries}
use Rattle.turn_board.proofs.Somes.{pool_or}
use Rattle.turn_board.proofs.Frames.{same_sum, each_set, each_other, keeps_given, turn_same, keeps_standing, some_same, pool_same, words_kept}
use Rattle.turn_board.proofs.Keeping.{core_step, below_suc}
use Rattle.turn_board.proofs.Turning.{total_few}
use Rattle.turn_board.proofs.PoolLaws.{drop_front}

-- the pool in the slot that was taken last, or else d
abbrev pub pooled_or : {K T : Type 0} → PoolState T → List (ℕ × Lot K T) → PoolState T
pooled_or d [] = d
pooled_or d (x ∷ xs) = pool_or d x.1

module _ {T : Type 0} where
  placed_once : (a : ℕ) (l : List (Move T)) (place : ℕ) → moved_at place (placed a l) + once_below place a ≡ once_below place (a + length l)
  placed_once a [] place = let e : a + 0 ≡ a = omega arith in omega (arith, ap (once_below place) e)
  placed_once a (v ∷ vs) place = let i = placed_once (a + 1) vs place in let b = below_suc place a in
      let e : (a + 1) + length vs ≡ a + suc (length vs) = omega arith in let c = ap (once_below place) e in omega arith

  placed_stand : (xs rest : List (Move T)) (n : ℕ) → length xs ≡ n → Each (λ (q : ℕ × Move T). get_elem? (xs ++ rest) q.0 ≡ some q.1) (placed n rest)
  placed_stand xs [] n len = tt
  placed_stand xs (v ∷ vs) n len = (
    subst (λ (l : List (Move T)). get_elem? l n ≡ some v) (append_assoc xs (v ∷ []) vs) (at_longer (xs ++ v ∷ []) vs n v (at_last xs v n len)),
    subst (λ (l : List (Move T)). Each (λ (q : ℕ × Move T). get_elem? l q.0 ≡ some q.1) (placed (n + 1) vs)) (append_assoc xs (v ∷ []) vs)
        (placed_stand (xs ++ v ∷ []) vs (n + 1) (length-append xs (v ∷ []) ∙ (omega arith))),
  )

  module _ (same_plan : T → T → Type 0) where
    pub later_same : ((x : T) → same_plan x x) → (y : PoolState T) → IsLaterPool same_plan y y
    later_same same y = record { plans = same y.sample; moves = ([], append-nil y.moves) }

    pub later_further : ((x y z : T) → same_plan x y → same_plan y z → same_plan x z) → (x y z : PoolState T) → IsLaterPool same_plan x y → IsLaterPool same_plan y z → IsLaterPool same_plan x z
    later_further further x y z a b = record {
      plans = further x.sample y.sample z.sample a.plans b.plans;
      moves = (a.moves.0 ++ b.moves.0, sym (append_assoc x.moves a.moves.0 b.moves.0) ∙ (ap (λ (l : List (Move T)). l ++ b.moves.0) a.moves.1 ∙ b.moves.1));
    }

module _ {K T : Type 0} (history : K → List (ℕ × ℕ)) (extends : K → K → Type 0) (marks : K → List Bool) where
  -- a module whose slot stays as it was
  turn_homes : (m turn : ℕ) (homes homes' : List (maybe.Option (Lot K T))) (all : List (SeatView K T)) (t : Standing K) (o : Option ℕ) → get_elem? homes' m ≡ get_elem? homes m → IsTurn history extends marks m turn homes all t o → IsTurn history extends marks m turn homes' all t o
  turn_homes m turn homes homes' all t None home f = record { word = f.word; home = home ∙ f.home; whole = f.whole; marks_are = f.marks_are; nobody = f.nobody }
  turn_homes m turn homes homes' all t (Some h) home (q, hold, f) = (
    q,
    hold,
    record {
      word = f.word;
      home = home ∙ f.home;
      is = f.is;
      holds = f.holds;
      slot = f.slot;
      bound = f.bound;
      unnoted = f.unnoted;
      noted = f.noted;
      unmarked = f.unmarked;
      marked = f.marked;
      others = f.others;
    },
  )

module _ {K T : Type 0} (same_plan : T → T → Type 0) (stamp_of : T → ℕ) (all : List (SeatView K T)) (k : ℕ) (p : SeatView K T) (at : get_elem? all k ≡ some p) where
  -- who has the turn is the seat of its holder
  my_pool : (m turn top : ℕ) (homes : List (maybe.Option (Lot K T))) (t : PoolStanding T) (o : Option ℕ) (hold : PoolHold T) → p.pooling ≡ Some hold → IsPoolTurn same_plan stamp_of m turn top homes all t o
      → (o ≡ Some k) × IsPoolHeld same_plan stamp_of m turn top homes all t k p hold
  my_pool m turn top homes t None hold e f = absurd (none_some hold (sym (f.nobody k p at) ∙ e))
    where
      none_some : (h : PoolHold T) → None ≡ Some h → ⊥
      none_some h e = absurd (cc)
  my_pool m turn top homes t (Some h) hold e (q, hold', f) = dite (ℕ_discrete h k)
      (λ i. let same : q ≡ p = some-injective q p (sym f.is ∙ (ap (get_elem? all) i ∙ at)) in
      let same' : hold' ≡ hold = some_same hold' hold (sym f.holds ∙ (ap (λ (z : SeatView K T). z.pooling) same ∙ e)) in
      (ap Some i, subst (λ (x : ℕ × SeatView K T × PoolHold T). IsPoolHeld same_plan stamp_of m turn top homes all t x.0 x.1 x.2) (λ n. (i n, same n, same' n)) f))
      (λ ne. absurd (none_some hold (sym (f.others k p at (λ i. ne (sym i))) ∙ e)))
    where
      none_some : (h : PoolHold T) → None ≡ Some h → ⊥
      none_some h e = absurd (cc)

  -- a step in which the pool gets no move more
  same_pool : (w : SeatView K T) (m now turn turn' count top top' : ℕ) (homes homes' : List (maybe.Option (Lot K T))) (t : PoolStanding T) (o : Option ℕ) → top ≤ top' → top' ≤ now → w.pool_saw ≡ p.pool_saw → w.moves ≡ p.moves
      → IsPoolTurn same_plan stamp_of m turn' top' homes' (set all k w) (record t { holder = o }) o → IsPooled same_plan stamp_of m now turn count top homes all t → IsPooled same_plan stamp_of m now turn' count top' homes' (set all k w) (record t { holder = o })
  same_pool w m now turn turn' count top top' homes homes' t o le fits saw moves turn_is f = record {
    counted = f.counted;
    moved = λ place. same_sum all k p w at (λ q. moved_at place q.moves) (ap (moved_at place) moves) ∙ f.moved place;
    stand = each_set all k p w at (λ _ q. Each (λ (z : ℕ × Move T). get_elem? t.last.moves z.0 ≡ some z.1) q.moves) f.stand (subst (λ (l : List (ℕ × Move T)). Each (λ (z : ℕ × Move T). get_elem? t.last.moves z.0 ≡ some z.1) l) (sym moves) (f.stand k p at));
    seen = λ j q y e g. each_set all k p w at (λ _ q. (y : PoolState T) → q.pool_saw ≡ Some y → IsLaterPool same_plan y t.last) (λ j q e y g. f.seen j q y e g) (λ y g. f.seen k p y at (sym saw ∙ g)) j q e y g;
    below = each_of (λ (v : Move T). v.put ≡ true → stamp_of v.item < top) (λ (v : Move T). v.put ≡ true → stamp_of v.item < top') t.last.moves (λ v h put. let b = h put in omega arith) f.below;
    top_is = fits;
    turn_is = turn_is;
  }

module _ {K T : Type 0} (history : K → List (ℕ × ℕ)) (extends : K → K → Type 0) (marks : K → List Bool) (same_plan : T → T → Type 0) (stamp_of : T → ℕ) (key : Terms K T) where
  -- a step on one of the pool's words
  at_pool : (s : State (Lot K T) (List (SeatView K T))) (kept : IsBoard history extends marks same_plan stamp_of key s) (id : ℕ) (p w : SeatView K T) (i v : ℕ) (homes : List (maybe.Option (Lot K T))) (pool : PoolStanding T)
      → get_elem? s.views id ≡ some (p ∷ []) → w.number ≡ p.number → w.lengths ≡ p.lengths → w.draws ≡ p.draws → p.reach ≤ w.reach → w.reach ≤ get_or s.words 0 0 → w.hold ≡ p.hold → w.saw ≡ p.saw → w.tops ≡ p.tops → w.made ≡ p.made → w.owed ≡ p.owed → w.claims ≡ p.claims → w.dry ≡ p.dry
      → 24 + 8 * length key.opening.value.items ≤ i → ((m : ℕ) → m < length key.opening.value.items → get_elem? homes m ≡ get_elem? s.homes m)
      → IsPooled same_plan stamp_of (length key.opening.value.items) (get_or s.words 0 0) (get_or (set s.words i v) (24 + 8 * length key.opening.value.items) 0) (get_or (set s.words i v) (25 + 8 * length key.opening.value.items) 0) (get_or (set s.words i v) (26 + 8 * length key.opening.value.items) 0) homes (set kept.all p.number w) pool
      → IsBoard history extends marks same_plan stamp_of key (record { words = set s.words i v; homes = homes; views = set s.views id (w ∷ []) })
  at_pool s kept id p w i v homes pool at same_number same_lengths same_draws more_reach reach_fits same_hold same_saw same_tops same_made same_owed same_claims same_dry far home mine =
      let here = place kept.all kept.owner s.views kept.tied id p at in let core = kept.core in let k = p.number in
      let now = get_or s.words 0 0 in let all : List (SeatView K T) = set kept.all k w in
      let clock_is : get_or s.words 0 0 ≡ get_or (set s.words i v) 0 0 = sym (get_or-set_other s.words i 0 v 0 (λ e. omega (arith, far))) in
      let reached = core.drawn.reached k p here in
      record {
        all = all;
        owner = kept.owner;
        mods = kept.mods;
        pool = pool;
        tied = tied_step kept.all kept.owner s.views kept.tied id p w at same_number;
        core = core_step history extends marks same_plan stamp_of key s.words (set s.words i v) s.homes homes kept.all kept.mods kept.mods kept.pool pool core k p w here (length_set s.words i v) refl same_lengths (ap length same_saw) (ap length same_tops) (ap length same_owed) (subst (λ (l : List ℕ). total (λ n. n) l ≤ 1) (sym same_owed) (core.thrifty k p here))
            (subst (λ x. IsDrawn x all) clock_is (record {
              each_once = λ x. same_sum kept.all k p w here (λ q. stamped x q.draws) (ap (stamped x) same_draws) ∙ core.drawn.each_once x;
              reached = each_set kept.all k p w here (λ _ q. Each (λ d. d.2 < q.reach) q.draws × (q.reach ≤ now)) core.drawn.reached
                  (subst (λ (l : List (ℕ × ℕ × ℕ)). Each (λ d. d.2 < w.reach) l) (sym same_draws) (each_of (λ (d : ℕ × ℕ × ℕ). d.2 < p.reach) (λ (d : ℕ × ℕ × ℕ). d.2 < w.reach) p.draws (λ d h. omega (arith, more_reach)) reached.0), reach_fits);
            }))
            (λ c h. subst (λ x. IsGiven c (get_or key.lengths.value.items c 0) x all) (sym (get_or-set_other s.words i (8 + c) v 0 (λ e. omega (arith, core.few_cursors, far))))
            (keeps_given kept.all k p w here c (get_or key.lengths.value.items c 0) (get_or s.words (8 + c) 0) (λ x. ap (claimed c x) same_claims) (ap (dried c) same_dry) (core.given c h)))
            (core.counted ∙ clock_is)
            (λ m t e. let f = core.standing m t e in let b = at_below kept.mods m t e in let within : m < length key.opening.value.items = omega (arith, core.stock) in let turn_is = sym (get_or-set_other s.words i (24 + 8 * m) v 0 (λ e. omega (arith, within, far))) in
            subst (λ (x : ℕ × ℕ). IsStanding history extends marks m x.0 x.1 homes all t) (λ j. (clock_is j, turn_is j))
            (keeps_standing kept.all k p w here history extends marks m now now (get_or s.words (24 + 8 * m) 0) (get_or s.words (24 + 8 * m) 0) s.homes homes t (omega arith)
            (λ row stamp. ap (drawn_in m row stamp) same_draws) (ap (λ (l : List K). get_elem? l m) same_saw) (ap (λ (l : List ℕ). get_or l m 0) same_tops) (λ place. ap (made_at m place) same_made) (ap (λ (l : List ℕ). get_or l m 0) same_owed) t.holder
            (turn_same kept.all k p w here history extends marks m (get_or s.words (24 + 8 * m) 0) homes t t.holder same_hold same_saw (turn_homes history extends marks m (get_or s.words (24 + 8 * m) 0) s.homes homes kept.all t t.holder (home m within) f.turn_is)) f))
            (λ x. core.stamps x ∙ ap (once_below x) clock_is)
            (words_kept history s.words i v kept.mods core.words_are (λ d h. ((λ e. omega (arith, core.stock, far)), λ e. omega (arith, core.stock, far))))
            (subst (λ (n : ℕ). IsPooled same_plan stamp_of (length key.opening.value.items) n (get_or (set s.words i v) (24 + 8 * length key.opening.value.items) 0) (get_or (set s.words i v) (25 + 8 * length key.opening.value.items) 0) (get_or (set s.words i v) (26 + 8 * length key.opening.value.items) 0) homes all pool) clock_is mine);
      }

  -- the clock is far from its end
  near : (s : State (Lot K T) (List (SeatView K T))) (kept : IsBoard history extends marks same_plan stamp_of key s) → get_or s.words 0 0 ≤ 68719476736
  near s kept = let core = kept.core in let fits = total_few history extends marks same_plan stamp_of key kept.mods 4294967296 (λ d u e. few_entries 4294967296 u.past (core.standing d u e).rows) in omega (arith, core.stock, core.few_modules, core.counted, fits)

  was_free : (m turn top : ℕ) (homes : List (maybe.Option (Lot K T))) (all : List (SeatView K T)) (t : PoolStanding T) (o : Option ℕ) → turn ≡ 0 → IsPoolTurn same_plan stamp_of m turn top homes all t o → (o ≡ None) × IsPoolFree same_plan stamp_of m turn homes all t
  was_free m turn top homes all t None e f = (refl, f)
  was_free m turn top homes all t (Some h) e (p, hold, f) = absurd (let b = f.word in omega arith)

  takes_pool_it : (s : State (Lot K T) (List (SeatView K T))) (kept : IsBoard history extends marks same_plan stamp_of key s) (id : ℕ) (p : SeatView K T) → get_elem? s.views id ≡ some (p ∷ []) → p.pooling ≡ None
      → get_or s.words (24 + 8 * length key.opening.value.items) 0 ≡ 0
      → (y : PoolState T) × (top : ℕ) × (get_elem? s.homes (length key.opening.value.items) ≡ some (some (OfPool y)))
      × IsBoard history extends marks same_plan stamp_of key (record { words = set s.words (24 + 8 * length key.opening.value.items) 1; homes = set s.homes (length key.opening.value.items) none; views = set s.views id (took_pool p top y ∷ []) })
      × ((x : PoolState T) → p.pool_saw ≡ Some x → IsLaterPool same_plan x y) × Each (λ v. v.put ≡ true → stamp_of v.item < top) y.moves
  takes_pool_it s kept id p at idle word =
      let here = place kept.all kept.owner s.views kept.tied id p at in let core = kept.core in let k = p.number in let m = length key.opening.value.items in
      let f = core.pooled in let t = kept.pool in let now = get_or s.words 0 0 in
      let count = get_or s.words (25 + 8 * m) 0 in let top = get_or s.words (26 + 8 * m) 0 in
      let free = was_free m (get_or s.words (24 + 8 * m) 0) top s.homes kept.all t t.holder word f.turn_is in
      let y = t.last in let w = took_pool p top y in let all : List (SeatView K T) = set kept.all k w in let homes : List (maybe.Option (Lot K T)) = set s.homes m none in
      let t' : PoolStanding T = record t { holder = Some k } in
      let turn_is : get_or (set s.words (24 + 8 * m) 1) (24 + 8 * m) 0 ≡ 1 = get_or-set_same s.words (24 + 8 * m) 1 0 (omega (arith, core.wide)) in
      let count_is : get_or (set s.words (24 + 8 * m) 1) (25 + 8 * m) 0 ≡ count = get_or-set_other s.words (24 + 8 * m) (25 + 8 * m) 1 0 (λ e. omega arith) in
      let top_is : get_or (set s.words (24 + 8 * m) 1) (26 + 8 * m) 0 ≡ top = get_or-set_other s.words (24 + 8 * m) (26 + 8 * m) 1 0 (λ e. omega arith) in
      let has : PoolHold T = record { taken = y; top = top; noted = false } in
      let held : IsPoolHeld same_plan stamp_of m 1 top homes all t' k w has = record {
        word = refl;
        home = set_at s.homes m (some (OfPool y)) none free.1.home;
        is = set_at kept.all k p w here;
        holds = refl;
        top_here = refl;
        unnoted = λ _. refl;
        noted = λ e. absurd (true≢false (sym e));
        others = each_other kept.all k p w here (λ j q. j ≢ k → q.pooling ≡ None) (λ j q _ e _. free.1.nobody j q e) (λ ne. absurd (ne refl));
      } in (
        y,
        top,
        free.1.home,
        at_pool s kept id p w (24 + 8 * m) 1 homes t' at refl refl refl (omega arith) (core.drawn.reached k p here).1 refl refl refl refl refl refl refl (omega arith) (λ d h. set_else s.homes m d none (λ e. omega arith))
            (subst (λ (x : ℕ × ℕ × ℕ). IsPooled same_plan stamp_of m now x.0 x.1 x.2 homes all t') (λ j. (sym turn_is j, sym count_is j, sym top_is j))
            (same_pool same_plan stamp_of kept.all k p here w m now (get_or s.words (24 + 8 * m) 0) 1 count top top s.homes homes t (Some k) (omega arith) f.top_is refl refl (w, has, held) f)),
        (λ x e. f.seen k p x here e),
        f.below,
      )

  pub taking_pool : (slots id : ℕ) (p : SeatView K T) (m : ℕ) → p.pooling ≡ None → length p.saw ≡ m → m ≡ length key.opening.value.items
      → Allows (IsBoard history extends marks same_plan stamp_of key) slots id (p ∷ [], []) (turn_at m) (λ n. either (eqb n 0) 1 n) (TakesPool same_plan stamp_of (step slots (turn_at m) 0 1 none) (p ∷ [], []))
  taking_pool slots id p m idle sized is = subst (λ (j : ℕ). Allows (IsBoard history extends marks same_plan stamp_of key) slots id (p ∷ [], []) (turn_at j) (λ n. either (eqb n 0) 1 n) (TakesPool same_plan stamp_of (step slots (turn_at j) 0 1 none) (p ∷ [], []))) (sym is)
      (λ s kept len at small. let m' = length key.opening.value.items in let n = get_or s.words (24 + 8 * m') 0 in let sized' : length p.saw ≡ m' = sized ∙ is in dite (ℕ_discrete n 0)
      (λ e. let got = takes_pool_it s kept id p at idle e in let is1 : either (eqb n 0) 1 n ≡ 1 = ap (λ b. either b 1 n) (eq-eqb n 0 e) in (
        took_pool p got.1 got.0 ∷ [],
        takes m' (OfPool got.0),
        got.2,
        subst (λ (x : ℕ). IsBoard history extends marks same_plan stamp_of key (record { words = set s.words (24 + 8 * m') x; homes = set s.homes m' none; views = set s.views id (took_pool p got.1 got.0 ∷ []) })) (sym is1) got.3,
        (
          (λ ne. absurd (ne e)),
          λ _. (got.0, got.1, ap (λ (j : ℕ). let r : Sat K T = (took_pool p got.1 got.0 ∷ [], (j, OfPool got.0) ∷ []) in r) (sym sized'), got.4, got.5),
        ),
      ))
      (λ ne. let is1 : either (eqb n 0) 1 n ≡ n = ap (λ b. either b 1 n) (ne_eqb n 0 ne) in (
        p ∷ [],
        keeps,
        tt,
        subst (λ (x : List ℕ × List (List (SeatView K T))). IsBoard history extends marks same_plan stamp_of key (record { words = x.0; homes = s.homes; views = x.1 }))
            (λ i. (sym (ap (set s.words (24 + 8 * m')) is1 ∙ set-get_or s.words (24 + 8 * m') 0) i, sym (set_again s.views id (p ∷ []) at) i)) kept,
        ((λ _. refl), λ e. absurd (ne e)),
      )))

  -- the steps of the one that has the turn
  module _ (s : State (Lot K T) (List (SeatView K T))) (kept : IsBoard history extends marks same_plan stamp_of key s) (id : ℕ) (p : SeatView K T) (hold : PoolHold T) (at : get_elem? s.views id ≡ some (p ∷ [])) (has : p.pooling ≡ Some hold) where
    here : get_elem? kept.all p.number ≡ some p
    here = place kept.all kept.owner s.views kept.tied id p at

    mine : (kept.pool.holder ≡ Some p.number) × IsPoolHeld same_plan stamp_of (length key.opening.value.items) (get_or s.words (24 + 8 * length key.opening.value.items) 0) (get_or s.words (26 + 8 * length key.opening.value.items) 0) s.homes kept.all kept.pool p.number p hold
    mine = my_pool same_plan stamp_of kept.all p.number p here (length key.opening.value.items) (get_or s.words (24 + 8 * length key.opening.value.items) 0) (get_or s.words (26 + 8 * length key.opening.value.items) 0) s.homes kept.pool kept.pool.holder hold has kept.core.pooled.turn_is

    learns_it : IsBoard history extends marks same_plan stamp_of key (record { words = set s.words (26 + 8 * length key.opening.value.items) (get_or s.words (26 + 8 * length key.opening.value.items) 0); homes = s.homes; views = set s.views id (learnt p (get_or s.words (26 + 8 * length key.opening.value.items) 0) ∷ []) })
    learns_it = let core = kept.core in let k = p.number in let m = length key.opening.value.items in let f = core.pooled in let t = kept.pool in let now = get_or s.words 0 0 in
        let turn = get_or s.words (24 + 8 * m) 0 in let count = get_or s.words (25 + 8 * m) 0 in let top = get_or s.words (26 + 8 * m) 0 in
        let w = learnt p top in let words_are : set s.words (26 + 8 * m) top ≡ s.words = set-get_or s.words (26 + 8 * m) 0 in
        let reach = (core.drawn.reached k p here).1 in
        at_pool s kept id p w (26 + 8 * m) top s.homes t at refl refl refl (omega arith) (omega (arith, reach, f.top_is)) refl refl refl refl refl refl refl (omega arith) (λ d h. refl)
        (subst (λ (l : List ℕ). IsPooled same_plan stamp_of m now (get_or l (24 + 8 * m) 0) (get_or l (25 + 8 * m) 0) (get_or l (26 + 8 * m) 0) s.homes (set kept.all k w) t) (sym words_are)
        (same_pool same_plan stamp_of kept.all k p here w m now turn turn count top top s.homes s.homes t t.holder (omega arith) f.top_is refl refl
        (pool_same kept.all k p w here same_plan stamp_of m turn top s.homes s.homes t t.holder refl refl refl f.turn_is) f))

    raises_it : (v : ℕ) → hold.top ≤ v → v ≤ p.reach → IsBoard history extends marks same_plan stamp_of key (record { words = set s.words (26 + 8 * length key.opening.value.items) v; homes = s.homes; views = set s.views id (raised p v ∷ []) })
    raises_it v le reached_it = let core = kept.core in let k = p.number in let m = length key.opening.value.items in let f = core.pooled in let t = kept.pool in let now = get_or s.words 0 0 in
        let turn = get_or s.words (24 + 8 * m) 0 in let count = get_or s.words (25 + 8 * m) 0 in let top = get_or s.words (26 + 8 * m) 0 in let held = mine.1 in
        let w = raised p v in let all : List (SeatView K T) = set kept.all k w in let has' : PoolHold T = record hold { top = v } in
        let turn_is : get_or (set s.words (26 + 8 * m) v) (24 + 8 * m) 0 ≡ turn = get_or-set_other s.words (26 + 8 * m) (24 + 8 * m) v 0 (λ e. omega arith) in
        let count_is : get_or (set s.words (26 + 8 * m) v) (25 + 8 * m) 0 ≡ count = get_or-set_other s.words (26 + 8 * m) (25 + 8 * m) v 0 (λ e. omega arith) in
        let top_is : get_or (set s.words (26 + 8 * m) v) (26 + 8 * m) 0 ≡ v = get_or-set_same s.words (26 + 8 * m) v 0 (omega (arith, core.wide)) in
        let reach = (core.drawn.reached k p here).1 in
        let t' : PoolStanding T = record t { holder = Some k } in
        let held' : IsPoolHeld same_plan stamp_of m turn v s.homes all t' k w has' = record {
          word = held.word;
          home = held.home;
          is = set_at kept.all k p w here;
          holds = ap (λ (o : Option (PoolHold T)). raised_in o v) has;
          top_here = refl;
          unnoted = held.unnoted;
          noted = held.noted;
          others = each_other kept.all k p w here (λ j q. j ≢ k → q.pooling ≡ None) (λ j q ne e _. held.others j q e ne) (λ ne. absurd (ne refl));
        } in
        at_pool s kept id p w (26 + 8 * m) v s.homes t' at refl refl refl (omega arith) reach refl refl refl refl refl refl refl (omega arith) (λ d h. refl)
        (subst (λ (x : ℕ × ℕ × ℕ). IsPooled same_plan stamp_of m now x.0 x.1 x.2 s.homes all t') (λ j. (sym turn_is j, sym count_is j, sym top_is j))
        (same_pool same_plan stamp_of kept.all k p here w m now turn turn count top v s.homes s.homes t (Some k) (omega (arith, held.top_here, le)) (omega (arith, reach, reached_it)) refl refl (w, has', held') f))

    notes_pool_it : ((x : T) → same_plan x x) → ((x y z : T) → same_plan x y → same_plan y z → same_plan x z) → (v : ℕ) (z : PoolState T) → hold.noted ≡ false → IsLaterPool same_plan hold.taken z → Each (λ v. v.put ≡ true → stamp_of v.item < hold.top) z.moves → v ≡ length z.moves
        → IsBoard history extends marks same_plan stamp_of key (record { words = set s.words (25 + 8 * length key.opening.value.items) v; homes = s.homes; views = set s.views id (noted_pool p z ∷ []) })
    notes_pool_it same further v z open_turn later below_top is = let core = kept.core in let k = p.number in let m = length key.opening.value.items in let f = core.pooled in let t = kept.pool in let now = get_or s.words 0 0 in
        let turn = get_or s.words (24 + 8 * m) 0 in let top = get_or s.words (26 + 8 * m) 0 in let held = mine.1 in
        let w = noted_pool p z in let all : List (SeatView K T) = set kept.all k w in let has' : PoolHold T = record hold { noted = true } in
        let turn_is : get_or (set s.words (25 + 8 * m) v) (24 + 8 * m) 0 ≡ turn = get_or-set_other s.words (25 + 8 * m) (24 + 8 * m) v 0 (λ e. omega arith) in
        let count_is : get_or (set s.words (25 + 8 * m) v) (25 + 8 * m) 0 ≡ v = get_or-set_same s.words (25 + 8 * m) v 0 (omega (arith, core.wide)) in
        let top_is : get_or (set s.words (25 + 8 * m) v) (26 + 8 * m) 0 ≡ top = get_or-set_other s.words (25 + 8 * m) (26 + 8 * m) v 0 (λ e. omega arith) in
        let t' : PoolStanding T = record { last = z; holder = Some k } in
        let was : hold.taken ≡ t.last = held.unnoted open_turn in
        let later' : IsLaterPool same_plan t.last z = subst (λ (x : PoolState T). IsLaterPool same_plan x z) was later in
        let rest = later'.moves.0 in let whole : t.last.moves ++ rest ≡ z.moves = later'.moves.1 in
        let new_are : w.moves ≡ p.moves ++ placed (length t.last.moves) rest = ap (λ (o : Option (PoolHold T)). p.moves ++ new_moves o z) has
        ∙ (ap (λ (x : PoolState T). p.moves ++ placed (length x.moves) (drop (length x.moves) z.moves)) was
        ∙ ap (λ (l : List (Move T)). p.moves ++ placed (length t.last.moves) l) (ap (drop (length t.last.moves)) (sym whole) ∙ drop_front t.last.moves rest)) in
        let count : length z.moves ≡ length t.last.moves + length rest = ap length (sym whole) ∙ length-append t.last.moves rest in
        let held' : IsPoolHeld same_plan stamp_of m turn top s.homes all t' k w has' = record {
          word = held.word;
          home = held.home;
          is = set_at kept.all k p w here;
          holds = ap (λ (o : Option (PoolHold T)). noted_pool_in o) has;
          top_here = held.top_here;
          unnoted = λ e. absurd (true≢false e);
          noted = λ _. refl;
          others = each_other kept.all k p w here (λ j q. j ≢ k → q.pooling ≡ None) (λ j q ne e _. held.others j q e ne) (λ ne. absurd (ne refl));
        } in
        at_pool s kept id p w (25 + 8 * m) v s.homes t' at refl refl refl (omega arith) (core.drawn.reached k p here).1 refl refl refl refl refl refl refl (omega arith) (λ d h. refl)
        (subst (λ (x : ℕ × ℕ × ℕ). IsPooled same_plan stamp_of m now x.0 x.1 x.2 s.homes all t') (λ j. (sym turn_is j, sym count_is j, sym top_is j)) (record {
          counted = is;
          moved = λ place. let a = sum_set (λ (q : SeatView K T). moved_at place q.moves) kept.all k p w here in
              let b = sum_append (λ (q : ℕ × Move T). cond (eqb q.0 place) 1 0) p.moves (placed (length t.last.moves) rest) in
              let c = placed_once (length t.last.moves) rest place in let d = ap (once_below place) count in
              omega (arith, f.moved place, ap (moved_at place) new_are);
          stand = each_set kept.all k p w here (λ _ q. Each (λ (x : ℕ × Move T). get_elem? z.moves x.0 ≡ some x.1) q.moves)
              (λ j q e. each_of (λ (x : ℕ × Move T). get_elem? t.last.moves x.0 ≡ some x.1) (λ (x : ℕ × Move T). get_elem? z.moves x.0 ≡ some x.1) q.moves (λ x h. subst (λ (l : List (Move T)). get_elem? l x.0 ≡ some x.1) whole (at_longer t.last.moves rest x.0 x.1 h)) (f.stand j q e))
              (subst (λ (l : List (ℕ × Move T)). Each (λ (x : ℕ × Move T). get_elem? z.moves x.0 ≡ some x.1) l) (sym new_are)
              (each_append (λ (x : ℕ × Move T). get_elem? z.moves x.0 ≡ some x.1) p.moves (placed (length t.last.moves) rest)
              (each_of (λ (x : ℕ × Move T). get_elem? t.last.moves x.0 ≡ some x.1) (λ (x : ℕ × Move T). get_elem? z.moves x.0 ≡ some x.1) p.moves (λ x h. subst (λ (l : List (Move T)). get_elem? l x.0 ≡ some x.1) whole (at_longer t.last.moves rest x.0 x.1 h)) (f.stand k p here))
              (subst (λ (l : List (Move T)). Each (λ (x : ℕ × Move T). get_elem? l x.0 ≡ some x.1) (placed (length t.last.moves) rest)) whole (placed_stand t.last.moves rest (length t.last.moves) refl))));
          seen = λ j q y e g. each_set kept.all k p w here (λ _ q. (y : PoolState T) → q.pool_saw ≡ Some y → IsLaterPool same_plan y z)
              (λ j q e y g. later_further same_plan further y t.last z (f.seen j q y e g) later')
              (λ y g. subst (λ (x : PoolState T). IsLaterPool same_plan x z) (some_same z y g) (later_same same_plan same z)) j q e y g;
          below = subst (λ (n : ℕ). Each (λ (v : Move T). v.put ≡ true → stamp_of v.item < n) z.moves) held.top_here below_top;
          top_is = f.top_is;
          turn_is = (w, has', held');
        }))

    gives_pool_it : (z : PoolState T) → hold.noted ≡ true → p.pool_saw ≡ Some z
        → IsBoard history extends marks same_plan stamp_of key (record { words = set s.words (24 + 8 * length key.opening.value.items) 0; homes = set s.homes (length key.opening.value.items) (some (OfPool z)); views = set s.views id (gave_pool p ∷ []) })
    gives_pool_it z is_noted saw_it = let core = kept.core in let k = p.number in let m = length key.opening.value.items in let f = core.pooled in let t = kept.pool in let now = get_or s.words 0 0 in
        let count = get_or s.words (25 + 8 * m) 0 in let top = get_or s.words (26 + 8 * m) 0 in let held = mine.1 in
        let w = gave_pool p in let all : List (SeatView K T) = set kept.all k w in let homes : List (maybe.Option (Lot K T)) = set s.homes m (some (OfPool z)) in
        let turn_is : get_or (set s.words (24 + 8 * m) 0) (24 + 8 * m) 0 ≡ 0 = get_or-set_same s.words (24 + 8 * m) 0 0 (omega (arith, core.wide)) in
        let count_is : get_or (set s.words (24 + 8 * m) 0) (25 + 8 * m) 0 ≡ count = get_or-set_other s.words (24 + 8 * m) (25 + 8 * m) 0 0 (λ e. omega arith) in
        let top_is : get_or (set s.words (24 + 8 * m) 0) (26 + 8 * m) 0 ≡ top = get_or-set_other s.words (24 + 8 * m) (26 + 8 * m) 0 0 (λ e. omega arith) in
        let last_is : t.last ≡ z = some_same t.last z (sym (held.noted is_noted) ∙ saw_it) in
        let t' : PoolStanding T = record t { holder = None } in
        let free : IsPoolFree same_plan stamp_of m 0 homes all t' = record {
          word = refl;
          home = set_at s.homes m none (some (OfPool z)) held.home ∙ ap (λ (y : PoolState T). some (some (OfPool y))) (sym last_is);
          nobody = each_other kept.all k p w here (λ j q. q.pooling ≡ None) (λ j q ne e. held.others j q e ne) refl;
        } in
        at_pool s kept id p w (24 + 8 * m) 0 homes t' at refl refl refl (omega arith) (core.drawn.reached k p here).1 refl refl refl refl refl refl refl (omega arith) (λ d h. set_else s.homes m d (some (OfPool z)) (λ e. omega arith))
        (subst (λ (x : ℕ × ℕ × ℕ). IsPooled same_plan stamp_of m now x.0 x.1 x.2 homes all t') (λ j. (sym turn_is j, sym count_is j, sym top_is j))
        (same_pool same_plan stamp_of kept.all k p here w m now (get_or s.words (24 + 8 * m) 0) 0 count top top s.homes homes t None (omega arith) f.top_is refl refl free f))

  pub learning : (slots id : ℕ) (p : SeatView K T) (held : List (ℕ × Lot K T)) (hold : PoolHold T) → p.pooling ≡ Some hold
      → Allows (IsBoard history extends marks same_plan stamp_of key) slots id (p ∷ [], held) (marks_at (length key.opening.value.items)) (λ n. n) (Learns (step slots (marks_at (length key.opening.value.items)) 0 0 none) (p ∷ [], held))
  learning slots id p held hold has s kept len at small = let n = get_or s.words (26 + 8 * length key.opening.value.items) 0 in (
    learnt p n ∷ [],
    keeps,
    tt,
    learns_it s kept id p hold at has,
    λ h e. (sym (mine s kept id p hold at has).1.top_here ∙ ap (λ (x : PoolHold T). x.top) (some_same hold h (sym has ∙ e)), (let b = near s kept in let c = kept.core.pooled.top_is in omega arith), refl),
  )

  pub raising : (slots id : ℕ) (p : SeatView K T) (held : List (ℕ × Lot K T)) (hold : PoolHold T) (v : ℕ) → p.pooling ≡ Some hold → hold.top ≤ v → v ≤ p.reach
      → Allows (IsBoard history extends marks same_plan stamp_of key) slots id (p ∷ [], held) (marks_at (length key.opening.value.items)) (λ _. v) (λ _. Raises (step slots (marks_at (length key.opening.value.items)) v 0 none) (p ∷ [], held) v)
  raising slots id p held hold v has le fits s kept len at small = (raised p v ∷ [], keeps, tt, raises_it s kept id p hold at has v le fits, refl)

  pub noting_pool : ((x : T) → same_plan x x) → ((x y z : T) → same_plan x y → same_plan y z → same_plan x z) → (slots id : ℕ) (p : SeatView K T) (hold : PoolHold T) (m v : ℕ) (z : PoolState T) → p.pooling ≡ Some hold → hold.noted ≡ false → IsLaterPool same_plan hold.taken z → Each (λ v. v.put ≡ true → stamp_of v.item < hold.top) z.moves → v ≡ length z.moves
      → Allows (IsBoard history extends marks same_plan stamp_of key) slots id (p ∷ [], (m, OfPool z) ∷ []) (entries_at (length key.opening.value.items)) (λ _. v) (λ _. NotesPool (step slots (entries_at (length key.opening.value.items)) v 0 none) (p ∷ [], (m, OfPool z) ∷ []) v)
  noting_pool same further slots id p hold m v z has open_turn later below_top is s kept len at small = (
    noted_pool p z ∷ [],
    keeps,
    tt,
    notes_pool_it s kept id p hold at has same further v z open_turn later below_top is,
    λ d y e. ap (λ (l : List (ℕ × Lot K T)). let r : Sat K T = (noted_pool p (pooled_or z l) ∷ [], (m, OfPool z) ∷ []) in r) e,
  )

  pub giving_pool : (slots id : ℕ) (p : SeatView K T) (hold : PoolHold T) (z : PoolState T) → p.pooling ≡ Some hold → hold.noted ≡ true → p.pool_saw ≡ Some z
      → Allows (IsBoard history extends marks same_plan stamp_of key) slots id (p ∷ [], (length key.opening.value.items, OfPool z) ∷ []) (turn_at (length key.opening.value.items)) (λ _. 0) (λ _. GivesPool (step slots (turn_at (length key.opening.value.items)) 0 0 none) (p ∷ [], (length key.opening.value.items, OfPool z) ∷ []) 0)
  giving_pool slots id p hold z has is_noted saw_it s kept len at small = (gave_pool p ∷ [], gives, tt, gives_pool_it s kept id p hold at has z is_noted saw_it, refl)
