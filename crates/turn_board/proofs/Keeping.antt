-- Each kind of step keeps the rule.
use Rattle.std.proofs.Common.{◌≡◌, ◌≢◌, ℕ, ◌+◌, ◌*◌, ◌%◌, ◌^◌, ◌<◌, ◌≤◌, List, [], ◌∷◌, ◌++◌, length, set, get_or, cond, eqb, ◌&&◌, min, sym, refl, ap, ◌∙◌, subst, arith, eq-eqb, ne_eqb, Bool}
use Rattle.std.proofs.Math.Nat.{mod-eq_of_lt}
use Rattle.std.proofs.lemmas.List.{get_or-set_same, get_or-set_other}
use Rattle.std.proofs.lemmas.Bool.Decides.{nat_tests}
use mathlib.Core.Option.{some, none, some-injective, some-ne-none}
use mathlib.Core.Option as maybe
use mathlib.Core.Logic.{dite}
use native.Mathlib.Decide.{ℕ_discrete, dec_le}
use lib.ListN.{get_elem?}
use Rattle.atomic_table.specs.Table.{State, Allows, Splits, Joins, keeps, step}
use Rattle.turn_board.specs.declared.view.SeatView.{SeatView}
use Rattle.turn_board.specs.declared.lot.Lot.{Lot}
use Rattle.turn_board.specs.declared.view.Terms.{Terms}
use Rattle.turn_board.specs.Sums.{Each, total, once_below}
use Rattle.turn_board.specs.Views.{drawn_in, stamp_entered, made_at, claimed, dried}
use Rattle.turn_board.specs.Rule.{cursor_at, IsDrawn, IsGiven, Standing, PoolStanding, IsStanding, IsPooled, IsCore, IsBoard}
use Rattle.turn_board.specs.Plays.{got_row, got_none, only, Sat, Claims}
use Rattle.turn_board.proofs.Rosters.{place, tied_step, tied_split, tied_join, sum_set, sum_most, sum_snoc, length_set}
use Rattle.turn_board.proofs.Frames.{same_sum, each_set, keeps_drawn, keeps_given, turn_same, keeps_standing, keeps_pool_at, WordsAre, words_kept}

-- one more number below n
pub below_suc : (x n : ℕ) → once_below x (n + 1) ≡ once_below x n + cond (eqb n x) 1 0
below_suc x n = grind (arith, nat_tests)

module _ {K T : Type 0} (all : List (SeatView K T)) (k : ℕ) (p : SeatView K T) (at : get_elem? all k ≡ some p) where
  -- the row is the cursor's
  pub claims_row : (c limit now : ℕ) → now < limit → IsGiven c limit now all → IsGiven c limit (now + 1) (set all k (got_row p c now))
  claims_row c limit now lt g = let w = got_row p c now in record {
    small = g.small;
    each_once = λ x.
        let a = sum_set (λ (q : SeatView K T). claimed c x q.claims) all k p w at in
        let b = sum_snoc (λ (y : ℕ × ℕ). cond (eqb y.0 c && eqb y.1 x) 1 0) p.claims (c, now) in
        let e : min now limit ≡ now = omega arith in
        let f : min (now + 1) limit ≡ now + 1 = omega arith in
        rw f (let o = rw e at (g.each_once x) in let same = eq-eqb c c refl in let b' = rw same at b in omega (arith, below_suc x now));
    dry_at = each_set all k p w at (λ _ q. 0 < dried c q.dry → limit ≤ now + 1) (λ j q e h. let o = g.dry_at j q e h in omega arith) (λ h. let o = g.dry_at k p at h in omega arith);
    past = subst (λ n. now + 1 ≤ limit + n) (sym (same_sum all k p w at (λ q. dried c q.dry) refl)) (omega arith);
    dry_once = each_set all k p w at (λ _ q. dried c q.dry ≤ 1) g.dry_once (g.dry_once k p at);
  }

  -- there is no row left
  pub claims_none : (c limit now : ℕ) → limit ≤ now → dried c p.dry ≡ 0 → IsGiven c limit now all → IsGiven c limit (now + 1) (set all k (got_none p c))
  claims_none c limit now le idle g = let w = got_none p c in
      let b = sum_snoc (λ (y : ℕ). cond (eqb y c) 1 0) p.dry c in let same = eq-eqb c c refl in let b' = rw same at b in record {
        small = g.small;
        each_once = λ x.
            let e : min now limit ≡ limit = omega arith in
            let f : min (now + 1) limit ≡ limit = omega arith in
            rw f (same_sum all k p w at (λ q. claimed c x q.claims) refl ∙ (rw e at (g.each_once x)));
        dry_at = each_set all k p w at (λ _ q. 0 < dried c q.dry → limit ≤ now + 1) (λ j q e h. let o = g.dry_at j q e h in omega arith) (λ h. omega arith);
        past = let a = sum_set (λ (q : SeatView K T). dried c q.dry) all k p w at in omega (arith, g.past);
        dry_once = each_set all k p w at (λ _ q. dried c q.dry ≤ 1) g.dry_once (omega arith);
      }

module _ {K T : Type 0} (history : K → List (ℕ × ℕ)) (extends : K → K → Type 0) (marks : K → List Bool) (same_plan : T → T → Type 0) (stamp_of : T → ℕ) (key : Terms K T) where
  -- the parts that each step shares
  pub core_step : (words words' : List ℕ) (homes homes' : List (maybe.Option (Lot K T))) (all : List (SeatView K T)) (mods mods' : List (Standing K)) (pool pool' : PoolStanding T) → IsCore history extends marks same_plan stamp_of key words homes all mods pool
      → (k : ℕ) (p w : SeatView K T) → get_elem? all k ≡ some p → length words' ≡ length words → length mods' ≡ length mods → w.lengths ≡ p.lengths → length w.saw ≡ length p.saw → length w.tops ≡ length p.tops → length w.owed ≡ length p.owed → total (λ n. n) w.owed ≤ 1
      → IsDrawn (get_or words' 0 0) (set all k w)
      → ((c : ℕ) → c < length key.lengths.value.items → IsGiven c (get_or key.lengths.value.items c 0) (get_or words' (8 + c) 0) (set all k w))
      → total (λ t. length t.past) mods' ≡ get_or words' 0 0
      → ((m : ℕ) (t : Standing K) → get_elem? mods' m ≡ some t → IsStanding history extends marks m (get_or words' 0 0) (get_or words' (24 + 8 * m) 0) homes' (set all k w) t)
      → ((x : ℕ) → total (λ t. stamp_entered x t.past) mods' ≡ once_below x (get_or words' 0 0)) → WordsAre history words' mods'
      → IsPooled same_plan stamp_of (length key.opening.value.items) (get_or words' 0 0) (get_or words' (24 + 8 * length key.opening.value.items) 0) (get_or words' (25 + 8 * length key.opening.value.items) 0) (get_or words' (26 + 8 * length key.opening.value.items) 0) homes' (set all k w) pool'
      → IsCore history extends marks same_plan stamp_of key words' homes' (set all k w) mods' pool'
  core_step words words' homes homes' all mods mods' pool pool' core k p w at wide stock lengths saw tops owed thrifty drawn given counted standing stamps words_are pooled = record {
    wide = wide ∙ core.wide;
    crew = length_set all k w ∙ core.crew;
    few_seats = core.few_seats;
    few_cursors = core.few_cursors;
    few_modules = core.few_modules;
    stock = stock ∙ core.stock;
    told = each_set all k p w at (λ _ q. q.lengths ≡ key.lengths.value.items) core.told (lengths ∙ core.told k p at);
    sized = each_set all k p w at (λ _ q. (length q.saw ≡ length key.opening.value.items) × (length q.tops ≡ length key.opening.value.items) × (length q.owed ≡ length key.opening.value.items)) core.sized (saw ∙ (core.sized k p at).0, tops ∙ (core.sized k p at).1, owed ∙ (core.sized k p at).2);
    thrifty = each_set all k p w at (λ _ q. total (λ n. n) q.owed ≤ 1) core.thrifty thrifty;
    drawn = drawn;
    given = given;
    counted = counted;
    stamps = stamps;
    words_are = words_are;
    standing = standing;
    pooled = pooled;
  }

  -- a step on a cursor
  at_cursor : (s : State (Lot K T) (List (SeatView K T))) (kept : IsBoard history extends marks same_plan stamp_of key s) (id : ℕ) (p w : SeatView K T) (c : ℕ)
      → get_elem? s.views id ≡ some (p ∷ []) → w.number ≡ p.number → w.lengths ≡ p.lengths → w.draws ≡ p.draws → w.reach ≡ p.reach → w.hold ≡ p.hold → w.saw ≡ p.saw → w.tops ≡ p.tops → w.made ≡ p.made → w.owed ≡ p.owed → w.pooling ≡ p.pooling → w.pool_saw ≡ p.pool_saw → w.moves ≡ p.moves → c < length key.lengths.value.items
      → ((d x : ℕ) → d ≢ c → claimed d x w.claims ≡ claimed d x p.claims) → ((d : ℕ) → d ≢ c → dried d w.dry ≡ dried d p.dry)
      → IsGiven c (get_or key.lengths.value.items c 0) (get_or s.words (8 + c) 0 + 1) (set kept.all p.number w)
      → IsBoard history extends marks same_plan stamp_of key (record { words = set s.words (8 + c) ((get_or s.words (8 + c) 0 + 1) % 2 ^ 64); homes = s.homes; views = set s.views id (w ∷ []) })
  at_cursor s kept id p w c at same_number same_lengths same_draws same_reach same_hold same_saw same_tops same_made same_owed same_pooling same_pool_saw same_moves within others_claims others_dry mine =
      let here = place kept.all kept.owner s.views kept.tied id p at in let core = kept.core in
      let now = get_or s.words (8 + c) 0 in let g = core.given c within in
      let fits = sum_most (λ (q : SeatView K T). dried c q.dry) kept.all 1 g.dry_once in
      let next : (now + 1) % 2 ^ 64 ≡ now + 1 = mod-eq_of_lt (omega (arith, core.crew, core.few_seats, fits, g.past, g.small)) in
      let n : ℕ = (now + 1) % 2 ^ 64 in
      let in_row : 8 + c < length s.words = omega (arith, core.wide, core.few_cursors) in
      let cursor_is : get_or (set s.words (8 + c) n) (8 + c) 0 ≡ now + 1 = get_or-set_same s.words (8 + c) n 0 in_row ∙ next in
      let all : List (SeatView K T) = set kept.all p.number w in
      let clock_is : get_or s.words 0 0 ≡ get_or (set s.words (8 + c) n) 0 0 = sym (get_or-set_other s.words (8 + c) 0 n 0 (λ e. omega arith)) in
      record {
        all = all;
        owner = kept.owner;
        mods = kept.mods;
        pool = kept.pool;
        tied = tied_step kept.all kept.owner s.views kept.tied id p w at same_number;
        core = core_step s.words (set s.words (8 + c) n) s.homes s.homes kept.all kept.mods kept.mods kept.pool kept.pool core p.number p w here (length_set s.words (8 + c) n) refl same_lengths (ap length same_saw) (ap length same_tops) (ap length same_owed) (subst (λ (l : List ℕ). total (λ n. n) l ≤ 1) (sym same_owed) (core.thrifty p.number p here))
            (subst (λ x. IsDrawn x all) clock_is (keeps_drawn kept.all p.number p w here (get_or s.words 0 0) same_draws same_reach core.drawn))
            (λ d h. dite (ℕ_discrete d c)
            (λ e. subst (λ y. IsGiven y (get_or key.lengths.value.items y 0) (get_or (set s.words (8 + c) n) (8 + y) 0) all) (sym e) (subst (λ x. IsGiven c (get_or key.lengths.value.items c 0) x all) (sym cursor_is) mine))
            (λ ne. subst (λ x. IsGiven d (get_or key.lengths.value.items d 0) x all) (sym (get_or-set_other s.words (8 + c) (8 + d) n 0 (λ e. ne (omega arith))))
            (keeps_given kept.all p.number p w here d (get_or key.lengths.value.items d 0) (get_or s.words (8 + d) 0) (λ x. others_claims d x ne) (others_dry d ne) (core.given d h))))
            (core.counted ∙ clock_is)
            (λ m t e. let f = core.standing m t e in let turn_is = sym (get_or-set_other s.words (8 + c) (24 + 8 * m) n 0 (λ e. omega (arith, core.few_cursors))) in
            subst (λ (x : ℕ × ℕ). IsStanding history extends marks m x.0 x.1 s.homes all t) (λ i. (clock_is i, turn_is i))
            (keeps_standing kept.all p.number p w here history extends marks m (get_or s.words 0 0) (get_or s.words 0 0) (get_or s.words (24 + 8 * m) 0) (get_or s.words (24 + 8 * m) 0) s.homes s.homes t (omega arith)
            (λ row stamp. ap (drawn_in m row stamp) same_draws) (ap (λ (l : List K). get_elem? l m) same_saw) (ap (λ (l : List ℕ). get_or l m 0) same_tops) (λ place. ap (made_at m place) same_made) (ap (λ (l : List ℕ). get_or l m 0) same_owed) t.holder
            (turn_same kept.all p.number p w here history extends marks m (get_or s.words (24 + 8 * m) 0) s.homes t t.holder same_hold same_saw f.turn_is) f))
            (λ x. core.stamps x ∙ ap (once_below x) clock_is)
            (words_kept history s.words (8 + c) n kept.mods core.words_are (λ d h. ((λ e. omega (arith, core.few_cursors)), λ e. omega (arith, core.few_cursors))))
            (keeps_pool_at kept.all p.number p w here same_plan stamp_of (length key.opening.value.items) s.words (8 + c) n s.homes s.homes kept.pool (λ j h e. omega (arith, core.few_cursors)) (omega (arith, clock_is)) same_pooling same_pool_saw same_moves refl core.pooled);
      }

  pub claims : (slots id : ℕ) (p : SeatView K T) (held : List (ℕ × Lot K T)) (c : ℕ) → c < length p.lengths → dried c p.dry ≡ 0
      → Allows (IsBoard history extends marks same_plan stamp_of key) slots id (p ∷ [], held) (cursor_at c) (λ n. (n + 1) % 2 ^ 64) (Claims (step slots (cursor_at c) 1 0 maybe.none) (p ∷ [], held))
  claims slots id p held c within idle s kept len at small =
      let here = place kept.all kept.owner s.views kept.tied id p at in let told = kept.core.told p.number p here in
      let within' : c < length key.lengths.value.items = subst (λ l. c < length l) told within in
      let now = get_or s.words (8 + c) 0 in let limit = get_or key.lengths.value.items c 0 in
      let limit_is : get_or p.lengths c 0 ≡ limit = ap (λ (l : List ℕ). get_or l c 0) told in
      elim (dec_le limit now) [
        | yes le ↦ let w = got_none p c in (
          w ∷ [],
          keeps,
          tt,
          at_cursor s kept id p w c at refl refl refl refl refl refl refl refl refl refl refl refl within' (λ d x ne. refl)
              (λ d ne. let b = sum_snoc (λ (y : ℕ). cond (eqb y d) 1 0) p.dry c in let no = ne_eqb c d (λ e. ne (sym e)) in let b' = rw no at b in omega arith)
              (claims_none kept.all p.number p here c limit now le idle (kept.core.given c within')),
          λ d is. let e : c ≡ d = omega arith in subst (λ x. (now < get_or p.lengths x 0 → ◌≡◌ {A = Sat K T} (w ∷ [], held) (got_row p x now ∷ [], held)) × (get_or p.lengths x 0 ≤ now → ◌≡◌ {A = Sat K T} (w ∷ [], held) (got_none p x ∷ [], held))) e ((λ lt. absurd (omega (arith, limit_is))), λ _. refl),
        )
        | no not ↦ let w = got_row p c now in (
          w ∷ [],
          keeps,
          tt,
          at_cursor s kept id p w c at refl refl refl refl refl refl refl refl refl refl refl refl within'
              (λ d x ne. let b = sum_snoc (λ (y : ℕ × ℕ). cond (eqb y.0 d && eqb y.1 x) 1 0) p.claims (c, now) in let no = ne_eqb c d (λ e. ne (sym e)) in let b' = rw no at b in omega arith)
              (λ d ne. refl)
              (claims_row kept.all p.number p here c limit now (omega arith) (kept.core.given c within')),
          λ d is. let e : c ≡ d = omega arith in subst (λ x. (now < get_or p.lengths x 0 → ◌≡◌ {A = Sat K T} (w ∷ [], held) (got_row p x now ∷ [], held)) × (get_or p.lengths x 0 ≤ now → ◌≡◌ {A = Sat K T} (w ∷ [], held) (got_none p x ∷ [], held))) e ((λ _. refl), λ le. absurd (not (omega (arith, limit_is)))),
        )
      ]

  -- a seat leaves a token of several
  pub splits : (id : ℕ) (p : SeatView K T) (ps : List (SeatView K T)) → Each (λ q. q.number ≢ p.number) ps → Splits (IsBoard history extends marks same_plan stamp_of key) id (p ∷ ps) ps (p ∷ [])
  splits id p ps apart s kept at = record { all = kept.all; mods = kept.mods; pool = kept.pool; owner = λ k. cond (eqb k p.number) (length s.views) (kept.owner k); tied = tied_split kept.all kept.owner s.views kept.tied id p ps at apart; core = kept.core }

  pub joins : (id : ℕ) (v : List (SeatView K T)) (other : ℕ) (w : List (SeatView K T)) → Joins (IsBoard history extends marks same_plan stamp_of key) id v other w (v ++ w) []
  joins id v other w s kept at ne at' = record { all = kept.all; mods = kept.mods; pool = kept.pool; owner = λ k. cond (eqb (kept.owner k) other) id (kept.owner k); tied = tied_join kept.all kept.owner s.views kept.tied id v other w at ne at'; core = kept.core }

  pub claims_one : (slots id : ℕ) (me : Sat K T) (c : ℕ) → me ≡ (only me.0 ∷ [], me.1) → c < length (only me.0).lengths → dried c (only me.0).dry ≡ 0
      → Allows (IsBoard history extends marks same_plan stamp_of key) slots id me (cursor_at c) (λ n. (n + 1) % 2 ^ 64) (Claims (step slots (cursor_at c) 1 0 maybe.none) me)
  claims_one slots id me c one within idle = subst (λ (m : Sat K T). Allows (IsBoard history extends marks same_plan stamp_of key) slots id m (cursor_at c) (λ n. (n + 1) % 2 ^ 64) (Claims (step slots (cursor_at c) 1 0 maybe.none) m)) (sym one) (claims slots id (only me.0) me.1 c within idle)
