-- The steps of a turn keep the rule.
use Rattle.std.proofs.Common.{◌≡◌, ◌≢◌, ℕ, zero, suc, ◌+◌, ◌-◌, ◌*◌, ◌%◌, ◌^◌, ◌<◌, ◌≤◌, List, [], ◌∷◌, ◌++◌, length, set, get_or, length-append, append_assoc, cond, eqb, ◌&&◌, true, false, true≢false, sym, refl, ap, ◌∙◌, subst, ⊎_elim, arith, eq-eqb, ne_eqb, drop, Bool, Option, Some, None}
use Rattle.std.proofs.Math.Nat.{mod-eq_of_lt}
use Rattle.std.proofs.lemmas.List.{get_or-set_same, get_or-set_other, set-get_or, append-nil}
use Rattle.std.proofs.lemmas.Bool.Decides.{nat_tests}
use mathlib.Core.Option.{some, none, some-injective, some-ne-none}
use mathlib.Core.Option as maybe
use mathlib.Core.Logic.{dite}
use native.Mathlib.Decide.{ℕ_discrete}
use prog.Atomic.{either}
use lib.ListN.{get_elem?}
use Rattle.atomic_table.proofs.Lists.{at_set, set_else, set_again}
use Rattle.atomic_table.specs.Table.{State, Allows, keeps, takes, gives, step}
use Rattle.turn_board.specs.declared.view.SeatView.{SeatView}
use Rattle.turn_board.specs.declared.lot.Lot.{Lot}
use Rattle.turn_board.specs.declared.lot.Lot.TheVariants.{OfModule}
use Rattle.turn_board.specs.declared.view.Hold.{Hold}
use Rattle.turn_board.specs.declared.view.Terms.{Terms}
use Rattle.turn_board.specs.Sums.{Each, total, once_below}
use Rattle.turn_board.specs.Views.{stamped, drawn_in, entered, stamp_entered, row_entered, made_at, places_from, unended, holds_turn}
use Rattle.turn_board.specs.Rule.{clock, turn_at, entries_at, marks_at, IsDrawn, IsGiven, Standing, IsFree, IsHeld, IsTurn, IsStanding, IsBoard}
use Rattle.turn_board.specs.Plays.{drew, drew_in, took, noted, noted_in, marked, marked_by, gave, only, slot_of, Sat, Sees, Draws, Takes, Notes, Marks, FindsNoted, FindsMarked, Gives}
use Rattle.turn_board.proofs.Rosters.{there, place, tied_step, set_at, sum_set, sum_most, sum_snoc, sum_append, length_set, each_of, each_append, zero_sums}
use Rattle.turn_board.proofs.Somes.{or_else}
use Rattle.turn_board.proofs.Rows.{few_entries, each_drop_snoc}
use Rattle.turn_board.proofs.Frames.{same_sum, each_set, each_other, keeps_drawn, keeps_given, turn_apart, keeps_standing, my_turn, some_same, keeps_pool_at, words_step}
use Rattle.turn_board.proofs.Keeping.{below_suc, core_step}

places_once : (m a n place : ℕ) → made_at m place (places_from m a n) + once_below place a ≡ once_below place (a + n)
places_once m a zero place = let e : a + 0 ≡ a = omega arith in omega (arith, ap (once_below place) e)
places_once m a (suc n) place = let i = places_once m (a + 1) n place in let b = below_suc place a in let same = eq-eqb m m refl in
    let e : (a + 1) + n ≡ a + suc n = omega arith in let c = ap (once_below place) e in rw same (omega arith)

places_other : (m d a n place : ℕ) → d ≢ m → made_at d place (places_from m a n) ≡ 0
places_other m d a zero place ne = refl
places_other m d a (suc n) place ne = let i = places_other m d (a + 1) n place ne in let o = ne_eqb m d (λ e. ne (sym e)) in rw o (omega arith)

entry_most : (l : List ℕ) (m : ℕ) → get_or l m 0 ≤ total (λ n. n) l
entry_most [] m = omega arith
entry_most (x ∷ xs) zero = omega arith
entry_most (x ∷ xs) (suc m) = let r = entry_most xs m in omega arith

few_debts : {K T : Type 0} (all : List (SeatView K T)) (m : ℕ) → ((k : ℕ) (p : SeatView K T) → get_elem? all k ≡ some p → total (λ n. n) p.owed ≤ 1) → total (λ p. get_or p.owed m 0) all ≤ length all * 1
few_debts all m h = sum_most (λ p. get_or p.owed m 0) all 1 (λ k p e. let a = h k p e in let b = entry_most p.owed m in omega arith)

-- the module in the slot that was taken last, or else d
abbrev pub value_or : {K T : Type 0} → K → List (ℕ × Lot K T) → K
value_or d [] = d
value_or d (x ∷ xs) = or_else d x.1

pub each_past : {X : Type 0} (P : X → Type 0) (xs : List X) → Each P (drop (length xs) xs)
each_past P [] = tt
each_past P (x ∷ xs) = each_past P xs

is_below : (x n : ℕ) → x < n → once_below x n ≡ 1
is_below x n h = grind (arith, nat_tests)

-- an even word is a free one
even_free : (turn bound : ℕ) → turn ≡ 2 * bound → turn % 2 ≡ 1 → ⊥
even_free turn bound e o = omega arith

other_turn : (m d : ℕ) → d ≢ m → 24 + 8 * d ≢ 24 + 8 * m
other_turn m d ne e = ne (omega arith)

module _ {K T : Type 0} (history : K → List (ℕ × ℕ)) (extends : K → K → Type 0) (marks : K → List Bool) (same_plan : T → T → Type 0) (stamp_of : T → ℕ) (key : Terms K T) where
  was_free : (m turn bound : ℕ) (homes : List (maybe.Option (Lot K T))) (all : List (SeatView K T)) (t : Standing K) (o : Option ℕ) → turn ≡ 2 * bound → IsTurn history extends marks m turn homes all t o → (o ≡ None) × IsFree history extends marks m turn homes all t
  was_free m turn bound homes all t None e f = (refl, f)
  was_free m turn bound homes all t (Some h) e (p, hold, f) = absurd (even_free turn bound e f.word)

  -- the turn word was free
  takes_it : (s : State (Lot K T) (List (SeatView K T))) (kept : IsBoard history extends marks same_plan stamp_of key s) (id : ℕ) (p : SeatView K T) (m open_keys bound : ℕ) → get_elem? s.views id ≡ some (p ∷ []) → p.hold ≡ None → m < length key.opening.value.items
      → get_or s.words (24 + 8 * m) 0 ≡ 2 * (open_keys + 32 * bound) → open_keys < 32
      → (y : K) × (get_elem? s.homes m ≡ some (some (OfModule y)))
      × IsBoard history extends marks same_plan stamp_of key (record { words = set s.words (24 + 8 * m) (2 * (open_keys + 32 * bound) + 1); homes = set s.homes m none; views = set s.views id (took p m bound y ∷ []) })
      × Sees history extends m p y × Each (λ e. e.1 < bound) (history y)
  takes_it s kept id p m open_keys bound at idle within word few_open =
      let here = place kept.all kept.owner s.views kept.tied id p at in let core = kept.core in let k = p.number in
      let found = there kept.mods m (omega (arith, core.stock)) in let t = found.0 in let f = core.standing m t found.1 in
      let free : (t.holder ≡ None) × IsFree history extends marks m (get_or s.words (24 + 8 * m) 0) s.homes kept.all t = was_free m (get_or s.words (24 + 8 * m) 0) (open_keys + 32 * bound) s.homes kept.all t t.holder word f.turn_is in
      let few = few_debts kept.all m core.thrifty in
      let same_bound : t.bound ≡ bound = (let e = free.1.word in let o = f.owes in omega (arith, few, core.crew, core.few_seats)) in
      let y = t.last in let w = took p m bound y in let all : List (SeatView K T) = set kept.all k w in let n : ℕ = 2 * (open_keys + 32 * bound) + 1 in
      let words : List ℕ = set s.words (24 + 8 * m) n in let homes : List (maybe.Option (Lot K T)) = set s.homes m none in
      let t' : Standing K = record t { holder = Some k } in let mods : List (Standing K) = set kept.mods m t' in
      let in_row : 24 + 8 * m < length s.words = omega (arith, core.wide) in
      let turn_is : get_or words (24 + 8 * m) 0 ≡ n = get_or-set_same s.words (24 + 8 * m) n 0 in_row in
      let clock_is : get_or words 0 0 ≡ get_or s.words 0 0 = get_or-set_other s.words (24 + 8 * m) 0 n 0 (λ e. omega arith) in
      let has : Hold K = record { slot = m; bound = bound; taken = y; since = []; noted = false; marked = false } in
      let held : IsHeld history extends marks m n homes all t' k w has = record {
        word = omega arith;
        home = set_at s.homes m (some (OfModule y)) none free.1.home;
        is = set_at kept.all k p w here;
        holds = refl;
        slot = refl;
        bound = sym same_bound;
        unnoted = λ _. (refl, append-nil (history y) ∙ free.1.whole);
        noted = λ e. absurd (true≢false (sym e));
        unmarked = λ _. free.1.marks_are;
        marked = λ e. absurd (true≢false (sym e));
        others = each_other kept.all k p w here (λ j q. j ≢ k → holds_turn m q.hold ≡ false) (λ j q _ e _. free.1.nobody j q e) (λ ne. absurd (ne refl));
      } in (
        y,
        free.1.home,
        record {
          all = all;
          owner = kept.owner;
          mods = mods;
          pool = kept.pool;
          tied = tied_step kept.all kept.owner s.views kept.tied id p w at refl;
          core = core_step history extends marks same_plan stamp_of key s.words words s.homes homes kept.all kept.mods mods kept.pool kept.pool core k p w here (length_set s.words (24 + 8 * m) n) (length_set kept.mods m t') refl refl refl refl (core.thrifty k p here)
              (subst (λ x. IsDrawn x all) (sym clock_is) (keeps_drawn kept.all k p w here (get_or s.words 0 0) refl refl core.drawn))
              (λ c h. subst (λ x. IsGiven c (get_or key.lengths.value.items c 0) x all) (sym (get_or-set_other s.words (24 + 8 * m) (8 + c) n 0 (λ e. omega (arith, core.few_cursors))))
              (keeps_given kept.all k p w here c (get_or key.lengths.value.items c 0) (get_or s.words (8 + c) 0) (λ _. refl) refl (core.given c h)))
              (let sum = sum_set (λ (x : Standing K). length x.past) kept.mods m t t' found.1 in omega (arith, core.counted, clock_is))
              (λ d u e. ⊎_elim
              (λ (i : (d ≡ m) × (t' ≡ u)). subst (λ (x : ℕ × Standing K). IsStanding history extends marks x.0 (get_or words 0 0) (get_or words (24 + 8 * x.0) 0) homes all x.1) (λ j. (sym i.0 j, i.1 j))
              (subst (λ (x : ℕ × ℕ). IsStanding history extends marks m x.0 x.1 homes all t') (λ j. (sym clock_is j, sym turn_is j))
              (keeps_standing kept.all k p w here history extends marks m (get_or s.words 0 0) (get_or s.words 0 0) (get_or s.words (24 + 8 * m) 0) n s.homes homes t (omega arith) (λ _ _. refl) refl refl (λ _. refl) refl (Some k) (w, has, held) f)))
              (λ (i : (d ≢ m) × (get_elem? kept.mods d ≡ some u)). let g = core.standing d u i.1 in let other = sym (get_or-set_other s.words (24 + 8 * m) (24 + 8 * d) n 0 (other_turn m d i.0)) in
              subst (λ (x : ℕ × ℕ). IsStanding history extends marks d x.0 x.1 homes all u) (λ j. (sym clock_is j, other j))
              (keeps_standing kept.all k p w here history extends marks d (get_or s.words 0 0) (get_or s.words 0 0) (get_or s.words (24 + 8 * d) 0) (get_or s.words (24 + 8 * d) 0) s.homes homes u (omega arith) (λ _ _. refl) refl refl (λ _. refl) refl u.holder
              (turn_apart kept.all k p w here history extends marks d (get_or s.words (24 + 8 * d) 0) s.homes homes u u.holder (ap (holds_turn d) idle) (ne_eqb m d (λ e. i.0 (sym e))) (set_else s.homes m d none i.0) g.turn_is) g))
              (at_set kept.mods m d t' u e))
              (λ x. let sum = sum_set (λ (u : Standing K). stamp_entered x u.past) kept.mods m t t' found.1 in omega (arith, core.stamps x, ap (once_below x) clock_is))
              (words_step history s.words (24 + 8 * m) n kept.mods core.words_are m t' (λ d ne. ((λ e. omega arith), λ e. omega arith)) (let o = core.words_are m t found.1 in (get_or-set_other s.words (24 + 8 * m) (25 + 8 * m) n 0 (λ e. omega arith) ∙ o.0, get_or-set_other s.words (24 + 8 * m) (26 + 8 * m) n 0 (λ e. omega arith) ∙ o.1)))
              (keeps_pool_at kept.all k p w here same_plan stamp_of (length key.opening.value.items) s.words (24 + 8 * m) n s.homes homes kept.pool (λ j h e. omega (arith, within)) (omega (arith, clock_is)) refl refl refl (set_else s.homes m (length key.opening.value.items) none (λ e. omega (arith, within))) core.pooled);
        },
        (
          (λ x e. let a = f.seen k p x here e in (a.0, subst (λ l. Each (λ e. get_or p.tops m 0 ≤ e.1) (drop (length (history x)) l)) (sym free.1.whole) a.1)),
          λ row stamp. let a = zero_sums (λ (q : SeatView K T). drawn_in m row stamp q.draws) kept.all p k here in let b = ap (entered row stamp) free.1.whole in omega (arith, f.bag row stamp),
        ),
        subst (λ (x : ℕ × List (ℕ × ℕ)). Each (λ e. e.1 < x.0) x.1) (λ j. (same_bound j, sym free.1.whole j)) f.bounded.0,
      )

  pub taking : (slots id : ℕ) (p : SeatView K T) (m open_keys bound : ℕ) → open_keys < 32 → p.hold ≡ None → m < length key.opening.value.items
      → Allows (IsBoard history extends marks same_plan stamp_of key) slots id (p ∷ [], []) (turn_at m) (λ n. either (eqb n (2 * (open_keys + 32 * bound))) (2 * (open_keys + 32 * bound) + 1) n) (Takes history extends (step slots (turn_at m) (2 * (open_keys + 32 * bound)) (2 * (open_keys + 32 * bound) + 1) none) (p ∷ [], []))
  taking slots id p m open_keys bound few_open idle within s kept len at small = let n = get_or s.words (24 + 8 * m) 0 in dite (ℕ_discrete n (2 * (open_keys + 32 * bound)))
      (λ e. let got = takes_it s kept id p m open_keys bound at idle within e few_open in let is : either (eqb n (2 * (open_keys + 32 * bound))) (2 * (open_keys + 32 * bound) + 1) n ≡ 2 * (open_keys + 32 * bound) + 1 = ap (λ b. either b (2 * (open_keys + 32 * bound) + 1) n) (eq-eqb n (2 * (open_keys + 32 * bound)) e) in (
        took p m bound got.0 ∷ [],
        takes m (OfModule got.0),
        got.1,
        subst (λ (x : ℕ). IsBoard history extends marks same_plan stamp_of key (record { words = set s.words (24 + 8 * m) x; homes = set s.homes m none; views = set s.views id (took p m bound got.0 ∷ []) })) (sym is) got.2,
        (
          (λ ne. absurd (ne e)),
          λ d o b word first few is_n. let dm : m ≡ d = omega arith in let bb : bound ≡ b = omega arith in
              subst (λ (x : ℕ × ℕ). (y : K) × (◌≡◌ {A = Sat K T} (took p m bound got.0 ∷ [], (m, OfModule got.0) ∷ []) (took p x.0 x.1 y ∷ [], (x.0, OfModule y) ∷ [])) × Sees history extends x.0 p y × Each (λ e. e.1 < x.1) (history y))
              (λ i. (dm i, bb i)) (got.0, refl, got.3, got.4),
        ),
      ))
      (λ ne. let is : either (eqb n (2 * (open_keys + 32 * bound))) (2 * (open_keys + 32 * bound) + 1) n ≡ n = ap (λ b. either b (2 * (open_keys + 32 * bound) + 1) n) (ne_eqb n (2 * (open_keys + 32 * bound)) ne) in (
        p ∷ [],
        keeps,
        tt,
        subst (λ (x : List ℕ × List (List (SeatView K T))). IsBoard history extends marks same_plan stamp_of key (record { words = x.0; homes = s.homes; views = x.1 }))
            (λ i. (sym (ap (set s.words (24 + 8 * m)) is ∙ set-get_or s.words (24 + 8 * m) 0) i, sym (set_again s.views id (p ∷ []) at) i)) kept,
        ((λ _. refl), λ d o b word first few is_n. absurd (ne is_n)),
      ))

  -- how many entries all modules have
  pub total_few : (mods : List (Standing K)) (n : ℕ) → ((m : ℕ) (t : Standing K) → get_elem? mods m ≡ some t → length t.past ≤ n) → total (λ t. length t.past) mods ≤ length mods * n
  total_few mods n h = sum_most (λ (t : Standing K). length t.past) mods n h

  draws_it : (s : State (Lot K T) (List (SeatView K T))) (kept : IsBoard history extends marks same_plan stamp_of key s) (id : ℕ) (p : SeatView K T) (hold : Hold K) (row : ℕ) → get_elem? s.views id ≡ some (p ∷ []) → p.hold ≡ Some hold → hold.noted ≡ false
      → hold.slot < length key.opening.value.items → row < 4294967296 → row_entered row (history hold.taken ++ hold.since) ≡ 0
      → IsBoard history extends marks same_plan stamp_of key (record { words = set s.words 0 ((get_or s.words 0 0 + 1) % 2 ^ 64); homes = s.homes; views = set s.views id (drew p row (get_or s.words 0 0) ∷ []) })
      × (p.reach ≤ get_or s.words 0 0) × (hold.bound ≤ get_or s.words 0 0) × (get_or s.words 0 0 ≤ 68719476736)
  draws_it s kept id p hold row at has open_turn within small absent =
      let here = place kept.all kept.owner s.views kept.tied id p at in let core = kept.core in let k = p.number in let m = hold.slot in
      let found = there kept.mods m (omega (arith, core.stock)) in let t = found.0 in let f = core.standing m t found.1 in
      let own = my_turn kept.all k p p here history extends marks m (get_or s.words (24 + 8 * m) 0) s.homes t t.holder hold has refl f.turn_is in let held = own.1 in
      let now = get_or s.words 0 0 in let past = t.past ++ (row, now) ∷ [] in
      let fits = total_few kept.mods 4294967296 (λ d u e. few_entries 4294967296 u.past (core.standing d u e).rows) in
      let next : (now + 1) % 2 ^ 64 ≡ now + 1 = mod-eq_of_lt (omega (arith, core.stock, core.few_modules, core.counted, fits)) in
      let w = drew p row now in let all : List (SeatView K T) = set kept.all k w in let n : ℕ = (now + 1) % 2 ^ 64 in let words : List ℕ = set s.words 0 n in
      let has' : Hold K = record hold { bound = now + 1; since = hold.since ++ (row, now) ∷ [] } in
      let has_is : w.hold ≡ Some has' = ap (λ (o : Option (Hold K)). drew_in o row now) has in
      let slot_is : slot_of p.hold ≡ m = ap (λ (o : Option (Hold K)). slot_of o) has in
      let draws_are : w.draws ≡ p.draws ++ (m, row, now) ∷ [] = ap (λ (j : ℕ). p.draws ++ (j, row, now) ∷ []) slot_is in
      let t' : Standing K = record t { past = past; bound = now + 1; holder = Some k } in let mods : List (Standing K) = set kept.mods m t' in
      let first : 0 < length s.words = omega (arith, core.wide) in
      let clock_is : get_or words 0 0 ≡ now + 1 = get_or-set_same s.words 0 n 0 first ∙ next in
      let reached = core.drawn.reached k p here in
      let un = held.unnoted open_turn in
      let bound_le : hold.bound ≤ now = (let b = f.bounded.1 in omega (arith, held.bound)) in
      let held' : IsHeld history extends marks m (get_or s.words (24 + 8 * m) 0) s.homes all t' k w has' = record {
        word = held.word;
        home = held.home;
        is = set_at kept.all k p w here;
        holds = has_is;
        slot = refl;
        bound = refl;
        unnoted = λ _. (un.0, sym (append_assoc (history t.last) hold.since ((row, now) ∷ [])) ∙ ap (λ (l : List (ℕ × ℕ)). l ++ (row, now) ∷ []) un.1);
        noted = λ e. absurd (true≢false (sym e ∙ open_turn));
        unmarked = held.unmarked;
        marked = held.marked;
        others = each_other kept.all k p w here (λ j q. j ≢ k → holds_turn m q.hold ≡ false) (λ j q ne e _. held.others j q e ne) (λ ne. absurd (ne refl));
      } in
      let gone : row_entered row t.past ≡ 0 = ap (row_entered row) (sym un.1) ∙ (ap (λ (y : K). row_entered row (history y ++ hold.since)) (sym un.0) ∙ absent) in
      let mine : IsStanding history extends marks m (now + 1) (get_or s.words (24 + 8 * m) 0) s.homes all t' = record {
        bag = λ r x.
            let a = sum_set (λ (q : SeatView K T). drawn_in m r x q.draws) kept.all k p w here in
            let b = sum_snoc (λ (e : ℕ × ℕ). cond (eqb e.0 r && eqb e.1 x) 1 0) t.past (row, now) in
            let c = sum_snoc (λ (d : ℕ × ℕ × ℕ). cond (eqb d.0 m && (eqb d.1 r && eqb d.2 x)) 1 0) p.draws (m, row, now) in
            let same = eq-eqb m m refl in let c' = rw same at c in
            omega (arith, f.bag r x, ap (drawn_in m r x) draws_are);
        rows = λ r. let b = sum_snoc (λ (e : ℕ × ℕ). cond (eqb e.0 r) 1 0) t.past (row, now) in dite (ℕ_discrete row r)
            (λ i. let same = eq-eqb row r i in let b' = rw same at b in let z = ap (λ (j : ℕ). row_entered j t.past) i in let y = is_below r 4294967296 (omega arith) in omega (arith, gone))
            (λ i. let other = ne_eqb row r i in let b' = rw other at b in omega (arith, f.rows r));
        bounded = (each_append (λ (e : ℕ × ℕ). e.1 < now + 1) t.past ((row, now) ∷ []) (each_of (λ (e : ℕ × ℕ). e.1 < t.bound) (λ (e : ℕ × ℕ). e.1 < now + 1) t.past (λ e h. let b = f.bounded.1 in omega arith) f.bounded.0) (omega arith, tt), omega arith);
        seen = λ j q y e g. each_set kept.all k p w here (λ _ q. (y : K) → get_elem? q.saw m ≡ some y → extends y t.last × Each (λ e. get_or q.tops m 0 ≤ e.1) (drop (length (history y)) past))
            (λ j q e y g. let a = f.seen j q y e g in (a.0, each_drop_snoc (λ (e : ℕ × ℕ). get_or q.tops m 0 ≤ e.1) (length (history y)) t.past (row, now) a.1 (f.tops j q e)))
            (λ y g. let a = f.seen k p y here g in (a.0, each_drop_snoc (λ (e : ℕ × ℕ). get_or p.tops m 0 ≤ e.1) (length (history y)) t.past (row, now) a.1 (f.tops k p here))) j q e y g;
        tops = each_set kept.all k p w here (λ _ q. get_or q.tops m 0 ≤ now + 1) (λ j q e. let b = f.tops j q e in omega arith) (let b = f.tops k p here in omega arith);
        made = λ place. same_sum kept.all k p w here (λ q. made_at m place q.made) refl ∙ f.made place;
        owes = same_sum kept.all k p w here (λ q. get_or q.owed m 0) refl ∙ f.owes;
        turn_is = (w, has', held');
      } in (
        record {
          all = all;
          owner = kept.owner;
          mods = mods;
          pool = kept.pool;
          tied = tied_step kept.all kept.owner s.views kept.tied id p w at refl;
          core = core_step history extends marks same_plan stamp_of key s.words words s.homes s.homes kept.all kept.mods mods kept.pool kept.pool core k p w here (length_set s.words 0 n) (length_set kept.mods m t') refl refl refl refl (core.thrifty k p here)
              (subst (λ x. IsDrawn x all) (sym clock_is) (record {
                each_once = λ x.
                    let a = sum_set (λ (q : SeatView K T). stamped x q.draws) kept.all k p w here in
                    let b = sum_snoc (λ (y : ℕ × ℕ × ℕ). cond (eqb y.2 x) 1 0) p.draws (slot_of p.hold, row, now) in
                    omega (arith, core.drawn.each_once x, below_suc x now);
                reached = each_set kept.all k p w here (λ _ q. Each (λ d. d.2 < q.reach) q.draws × (q.reach ≤ now + 1)) (λ j q e. let b = core.drawn.reached j q e in (b.0, (let h = b.1 in omega arith)))
                    (each_append (λ (d : ℕ × ℕ × ℕ). d.2 < now + 1) p.draws ((slot_of p.hold, row, now) ∷ []) (each_of (λ (d : ℕ × ℕ × ℕ). d.2 < p.reach) (λ (d : ℕ × ℕ × ℕ). d.2 < now + 1) p.draws (λ d h. let b = reached.1 in omega arith) reached.0) (omega arith, tt), omega arith);
              }))
              (λ c h. subst (λ x. IsGiven c (get_or key.lengths.value.items c 0) x all) (sym (get_or-set_other s.words 0 (8 + c) n 0 (λ e. omega arith)))
              (keeps_given kept.all k p w here c (get_or key.lengths.value.items c 0) (get_or s.words (8 + c) 0) (λ _. refl) refl (core.given c h)))
              (let sum = sum_set (λ (x : Standing K). length x.past) kept.mods m t t' found.1 in omega (arith, core.counted, clock_is, length-append t.past ((row, now) ∷ [])))
              (λ d u e. let other = sym (get_or-set_other s.words 0 (24 + 8 * d) n 0 (λ e. omega arith)) in ⊎_elim
              (λ (i : (d ≡ m) × (t' ≡ u)). subst (λ (x : ℕ × Standing K). IsStanding history extends marks x.0 (get_or words 0 0) (get_or words (24 + 8 * x.0) 0) s.homes all x.1) (λ j. (sym i.0 j, i.1 j))
              (subst (λ (x : ℕ × ℕ). IsStanding history extends marks m x.0 x.1 s.homes all t') (λ j. (sym clock_is j, sym (get_or-set_other s.words 0 (24 + 8 * m) n 0 (λ e. omega arith)) j)) mine))
              (λ (i : (d ≢ m) × (get_elem? kept.mods d ≡ some u)). let g = core.standing d u i.1 in
              subst (λ (x : ℕ × ℕ). IsStanding history extends marks d x.0 x.1 s.homes all u) (λ j. (sym clock_is j, other j))
              (keeps_standing kept.all k p w here history extends marks d now (now + 1) (get_or s.words (24 + 8 * d) 0) (get_or s.words (24 + 8 * d) 0) s.homes s.homes u (omega arith)
              (λ r x. let c = sum_snoc (λ (y : ℕ × ℕ × ℕ). cond (eqb y.0 d && (eqb y.1 r && eqb y.2 x)) 1 0) p.draws (m, row, now) in let ne = ne_eqb m d (λ e. i.0 (sym e)) in let c' = rw ne at c in omega (arith, ap (drawn_in d r x) draws_are))
              refl refl (λ _. refl) refl u.holder
              (turn_apart kept.all k p w here history extends marks d (get_or s.words (24 + 8 * d) 0) s.homes s.homes u u.holder (ap (holds_turn d) has ∙ ne_eqb m d (λ e. i.0 (sym e))) (ap (holds_turn d) has_is ∙ ne_eqb m d (λ e. i.0 (sym e))) refl g.turn_is) g))
              (at_set kept.mods m d t' u e))
              (λ x. let sum = sum_set (λ (u : Standing K). stamp_entered x u.past) kept.mods m t t' found.1 in let b = sum_snoc (λ (e : ℕ × ℕ). cond (eqb e.1 x) 1 0) t.past (row, now) in omega (arith, core.stamps x, ap (once_below x) clock_is, below_suc x now))
              (words_step history s.words 0 n kept.mods core.words_are m t' (λ d ne. ((λ e. omega arith), λ e. omega arith)) (let o = core.words_are m t found.1 in (get_or-set_other s.words 0 (25 + 8 * m) n 0 (λ e. omega arith) ∙ o.0, get_or-set_other s.words 0 (26 + 8 * m) n 0 (λ e. omega arith) ∙ o.1)))
              (keeps_pool_at kept.all k p w here same_plan stamp_of (length key.opening.value.items) s.words 0 n s.homes s.homes kept.pool (λ j h e. omega arith) (omega (arith, clock_is)) refl refl refl (refl) core.pooled);
        },
        reached.1,
        bound_le,
        omega (arith, core.stock, core.few_modules, core.counted, fits),
      )

  module _ (same : (x : K) → extends x x) (further : (x y z : K) → extends x y → extends y z → extends x z) where
    notes_it : (s : State (Lot K T) (List (SeatView K T))) (kept : IsBoard history extends marks same_plan stamp_of key s) (id : ℕ) (p : SeatView K T) (hold : Hold K) (m v : ℕ) (z : K) → get_elem? s.views id ≡ some (p ∷ []) → p.hold ≡ Some hold → hold.noted ≡ false
        → hold.slot ≡ m → m < length key.opening.value.items → extends hold.taken z → history z ≡ history hold.taken ++ hold.since → v ≡ length (history z)
        → IsBoard history extends marks same_plan stamp_of key (record { words = set s.words (25 + 8 * m) v; homes = s.homes; views = set s.views id (noted p z ∷ []) }) × (get_elem? (noted p z).saw m ≡ some z)
    notes_it s kept id p hold m v z at has open_turn slot within later added count_is =
        let here = place kept.all kept.owner s.views kept.tied id p at in let core = kept.core in let k = p.number in
        let found = there kept.mods m (omega (arith, core.stock)) in let t = found.0 in let f = core.standing m t found.1 in
        let own = my_turn kept.all k p p here history extends marks m (get_or s.words (24 + 8 * m) 0) s.homes t t.holder hold has slot f.turn_is in let held = own.1 in
        let now = get_or s.words 0 0 in let w = noted p z in let all : List (SeatView K T) = set kept.all k w in let words : List ℕ = set s.words (25 + 8 * m) v in
        let has' : Hold K = record hold { noted = true } in
        let has_is : w.hold ≡ Some has' = ap (λ (o : Option (Hold K)). noted_in o) has in
        let slot_is : slot_of p.hold ≡ m = ap (λ (o : Option (Hold K)). slot_of o) has ∙ slot in
        let saw_is : w.saw ≡ set p.saw m z = ap (λ (j : ℕ). set p.saw j z) slot_is in
        let tops_are : w.tops ≡ set p.tops m p.reach = ap (λ (j : ℕ). set p.tops j p.reach) slot_is in
        let un = held.unnoted open_turn in
        let whole : history z ≡ t.past = added ∙ (ap (λ (y : K). history y ++ hold.since) un.0 ∙ un.1) in
        let t' : Standing K = record t { last = z; holder = Some k } in let mods : List (Standing K) = set kept.mods m t' in
        let clock_is : get_or words 0 0 ≡ now = get_or-set_other s.words (25 + 8 * m) 0 v 0 (λ e. omega arith) in
        let turn_is : (d : ℕ) → get_or words (24 + 8 * d) 0 ≡ get_or s.words (24 + 8 * d) 0 = λ d. get_or-set_other s.words (25 + 8 * m) (24 + 8 * d) v 0 (λ e. omega arith) in
        let sees : get_elem? (set p.saw m z) m ≡ some z = (let a = there p.saw m (omega (arith, core.sized k p here)) in set_at p.saw m a.0 z a.1) in
        let top_is : get_or (set p.tops m p.reach) m 0 ≡ p.reach = get_or-set_same p.tops m p.reach 0 (omega (arith, core.sized k p here)) in
        let held' : IsHeld history extends marks m (get_or s.words (24 + 8 * m) 0) s.homes all t' k w has' = record {
          word = held.word;
          home = held.home;
          is = set_at kept.all k p w here;
          holds = has_is;
          slot = slot;
          bound = held.bound;
          unnoted = λ e. absurd (true≢false e);
          noted = λ _. (ap (λ (l : List K). get_elem? l m) saw_is ∙ sees, whole);
          unmarked = held.unmarked;
          marked = λ e. absurd (true≢false (sym (held.marked e).0 ∙ open_turn));
          others = each_other kept.all k p w here (λ j q. j ≢ k → holds_turn m q.hold ≡ false) (λ j q ne e _. held.others j q e ne) (λ ne. absurd (ne refl));
        } in
        let mine : IsStanding history extends marks m now (get_or s.words (24 + 8 * m) 0) s.homes all t' = record {
          bag = λ r x. f.bag r x ∙ sym (same_sum kept.all k p w here (λ q. drawn_in m r x q.draws) refl);
          rows = f.rows;
          bounded = f.bounded;
          seen = λ j q y e g. each_set kept.all k p w here (λ _ q. (y : K) → get_elem? q.saw m ≡ some y → extends y z × Each (λ e. get_or q.tops m 0 ≤ e.1) (drop (length (history y)) t.past))
              (λ j q e y g. let a = f.seen j q y e g in (further y t.last z a.0 (subst (λ (x : K). extends x z) un.0 later), a.1))
              (λ y g. let is : z ≡ y = some-injective z y (sym sees ∙ (ap (λ (l : List K). get_elem? l m) (sym saw_is) ∙ g)) in
              subst (λ (x : K). extends x z × Each (λ e. get_or w.tops m 0 ≤ e.1) (drop (length (history x)) t.past)) is
              (same z, subst (λ (l : List (ℕ × ℕ)). Each (λ e. get_or w.tops m 0 ≤ e.1) (drop (length l) t.past)) (sym whole) (each_past (λ (e : ℕ × ℕ). get_or w.tops m 0 ≤ e.1) t.past))) j q e y g;
          tops = each_set kept.all k p w here (λ _ q. get_or q.tops m 0 ≤ now) f.tops (let b = core.drawn.reached k p here in omega (arith, ap (λ (l : List ℕ). get_or l m 0) tops_are, b.1, top_is));
          made = λ place. same_sum kept.all k p w here (λ q. made_at m place q.made) refl ∙ f.made place;
          owes = same_sum kept.all k p w here (λ q. get_or q.owed m 0) refl ∙ f.owes;
          turn_is = (w, has', held');
        } in (
          record {
            all = all;
            owner = kept.owner;
            mods = mods;
            pool = kept.pool;
            tied = tied_step kept.all kept.owner s.views kept.tied id p w at refl;
            core = core_step history extends marks same_plan stamp_of key s.words words s.homes s.homes kept.all kept.mods mods kept.pool kept.pool core k p w here (length_set s.words (25 + 8 * m) v) (length_set kept.mods m t') refl (length_set p.saw (slot_of p.hold) z) (length_set p.tops (slot_of p.hold) p.reach) refl (core.thrifty k p here)
                (subst (λ x. IsDrawn x all) (sym clock_is) (keeps_drawn kept.all k p w here now refl refl core.drawn))
                (λ c h. subst (λ x. IsGiven c (get_or key.lengths.value.items c 0) x all) (sym (get_or-set_other s.words (25 + 8 * m) (8 + c) v 0 (λ e. omega (arith, core.few_cursors))))
                (keeps_given kept.all k p w here c (get_or key.lengths.value.items c 0) (get_or s.words (8 + c) 0) (λ _. refl) refl (core.given c h)))
                (let sum = sum_set (λ (x : Standing K). length x.past) kept.mods m t t' found.1 in omega (arith, core.counted, clock_is))
                (λ d u e. ⊎_elim
                (λ (i : (d ≡ m) × (t' ≡ u)). subst (λ (x : ℕ × Standing K). IsStanding history extends marks x.0 (get_or words 0 0) (get_or words (24 + 8 * x.0) 0) s.homes all x.1) (λ j. (sym i.0 j, i.1 j))
                (subst (λ (x : ℕ × ℕ). IsStanding history extends marks m x.0 x.1 s.homes all t') (λ j. (sym clock_is j, sym (turn_is m) j)) mine))
                (λ (i : (d ≢ m) × (get_elem? kept.mods d ≡ some u)). let g = core.standing d u i.1 in
                subst (λ (x : ℕ × ℕ). IsStanding history extends marks d x.0 x.1 s.homes all u) (λ j. (sym clock_is j, sym (turn_is d) j))
                (keeps_standing kept.all k p w here history extends marks d now now (get_or s.words (24 + 8 * d) 0) (get_or s.words (24 + 8 * d) 0) s.homes s.homes u (omega arith) (λ _ _. refl)
                (ap (λ (l : List K). get_elem? l d) saw_is ∙ set_else p.saw m d z i.0) (ap (λ (l : List ℕ). get_or l d 0) tops_are ∙ get_or-set_other p.tops m d p.reach 0 i.0) (λ _. refl) refl u.holder
                (turn_apart kept.all k p w here history extends marks d (get_or s.words (24 + 8 * d) 0) s.homes s.homes u u.holder (ap (holds_turn d) has ∙ ne_eqb hold.slot d (λ e. i.0 (sym e ∙ slot))) (ap (holds_turn d) has_is ∙ ne_eqb hold.slot d (λ e. i.0 (sym e ∙ slot))) refl g.turn_is) g))
                (at_set kept.mods m d t' u e))
                (λ x. let sum = sum_set (λ (u : Standing K). stamp_entered x u.past) kept.mods m t t' found.1 in omega (arith, core.stamps x, ap (once_below x) clock_is))
                (words_step history s.words (25 + 8 * m) v kept.mods core.words_are m t' (λ d ne. ((λ e. ne (omega arith)), λ e. ne (omega arith))) (let o = core.words_are m t found.1 in (get_or-set_same s.words (25 + 8 * m) v 0 (omega (arith, core.wide)) ∙ count_is, get_or-set_other s.words (25 + 8 * m) (26 + 8 * m) v 0 (λ e. omega arith) ∙ o.1)))
                (keeps_pool_at kept.all k p w here same_plan stamp_of (length key.opening.value.items) s.words (25 + 8 * m) v s.homes s.homes kept.pool (λ j h e. omega (arith, within)) (omega (arith, clock_is)) refl refl refl (refl) core.pooled);
          },
          ap (λ (l : List K). get_elem? l m) saw_is ∙ sees,
        )

    pub noting : (slots id : ℕ) (p : SeatView K T) (hold : Hold K) (m v : ℕ) (z : K) → p.hold ≡ Some hold → hold.noted ≡ false → hold.slot ≡ m → m < length key.opening.value.items → extends hold.taken z → history z ≡ history hold.taken ++ hold.since → v ≡ length (history z)
        → Allows (IsBoard history extends marks same_plan stamp_of key) slots id (p ∷ [], (m, OfModule z) ∷ []) (entries_at m) (λ _. v) (λ _. Notes (step slots (entries_at m) v 0 none) (p ∷ [], (m, OfModule z) ∷ []) v)
    noting slots id p hold m v z has open_turn slot within later added count_is s kept len at small = let got = notes_it s kept id p hold m v z at has open_turn slot within later added count_is in (
      noted p z ∷ [],
      keeps,
      tt,
      got.0,
      λ d y is. (
        ap (λ (l : List (ℕ × Lot K T)). let r : Sat K T = (noted p (value_or z l) ∷ [], (m, OfModule z) ∷ []) in r) is,
        λ e. subst (λ (x : ℕ × K). get_elem? (noted p x.1).saw x.0 ≡ some x.1) (λ i. ((sym slot ∙ (sym (ap (λ (o : Option (Hold K)). slot_of o) has) ∙ e)) i, value_or z (is i))) got.1,
      ),
    )

    -- a look at the entry word, which notes where the count stands there already
    pub finding_noted : (slots id : ℕ) (p : SeatView K T) (hold : Hold K) (m : ℕ) (z : K) → p.hold ≡ Some hold → hold.noted ≡ false → hold.slot ≡ m → m < length key.opening.value.items → extends hold.taken z → history z ≡ history hold.taken ++ hold.since
        → Allows (IsBoard history extends marks same_plan stamp_of key) slots id (p ∷ [], (m, OfModule z) ∷ []) (entries_at m) (λ n. n) (FindsNoted history (step slots (entries_at m) 0 0 none) (p ∷ [], (m, OfModule z) ∷ []))
    finding_noted slots id p hold m z has open_turn slot within later added s kept len at small = let n = get_or s.words (25 + 8 * m) 0 in dite (ℕ_discrete n (length (history z)))
        (λ e. let got = noting slots id p hold m n z has open_turn slot within later added e s kept len at small in (
          got.0,
          got.1,
          got.2,
          got.3,
          λ d y is. (λ _. got.4 d y is, λ ne. absurd (ne (e ∙ ap (λ (l : List (ℕ × Lot K T)). length (history (value_or z l))) is))),
        ))
        (λ ne. (
          p ∷ [],
          keeps,
          tt,
          subst (λ (x : List ℕ × List (List (SeatView K T))). IsBoard history extends marks same_plan stamp_of key (record { words = x.0; homes = s.homes; views = x.1 }))
              (λ i. (sym (set-get_or s.words (25 + 8 * m) 0) i, sym (set_again s.views id (p ∷ []) at) i)) kept,
          λ d y is. (λ e. absurd (ne (e ∙ sym (ap (λ (l : List (ℕ × Lot K T)). length (history (value_or z l))) is))), λ _. refl),
        ))

  marks_it : (s : State (Lot K T) (List (SeatView K T))) (kept : IsBoard history extends marks same_plan stamp_of key s) (id : ℕ) (p : SeatView K T) (hold : Hold K) (m v : ℕ) (z : K) → get_elem? s.views id ≡ some (p ∷ []) → p.hold ≡ Some hold → hold.noted ≡ true → hold.marked ≡ false
      → hold.slot ≡ m → m < length key.opening.value.items → get_elem? p.saw m ≡ some z → length (marks hold.taken) ≤ length (marks z) → unended (marks hold.taken) ≤ get_or p.owed m 0 + unended (marks z) → total (λ n. n) (marked_by marks p z (Some hold)).owed ≤ 1 → v ≡ length (marks z)
      → IsBoard history extends marks same_plan stamp_of key (record { words = set s.words (26 + 8 * m) v; homes = s.homes; views = set s.views id (marked marks p z ∷ []) }) × (unended (marks z) < 32)
  marks_it s kept id p hold m v z at has is_noted unmarked_yet slot within saw_it longer enough saving count_is =
      let here = place kept.all kept.owner s.views kept.tied id p at in let core = kept.core in let k = p.number in
      let found = there kept.mods m (omega (arith, core.stock)) in let t = found.0 in let f = core.standing m t found.1 in
      let own = my_turn kept.all k p p here history extends marks m (get_or s.words (24 + 8 * m) 0) s.homes t t.holder hold has slot f.turn_is in let held = own.1 in
      let now = get_or s.words 0 0 in let w : SeatView K T = marked_by marks p z (Some hold) in let w_is : marked marks p z ≡ w = ap (marked_by marks p z) has in
      let all : List (SeatView K T) = set kept.all k w in let words : List ℕ = set s.words (26 + 8 * m) v in
      let has' : Hold K = record hold { marked = true } in
      let before = held.unmarked unmarked_yet in
      let done = held.noted is_noted in
      let last_is : z ≡ t.last = some-injective z t.last (sym saw_it ∙ done.0) in
      let fresh_places = places_from hold.slot (length (marks hold.taken)) (length (marks z) - length (marks hold.taken)) in
      let owed_now : ℕ = (get_or p.owed hold.slot 0 + unended (marks z)) - unended (marks hold.taken) in
      let t' : Standing K = record t { listed = length (marks z); owing = unended (marks z); holder = Some k } in let mods : List (Standing K) = set kept.mods m t' in
      let clock_is : get_or words 0 0 ≡ now = get_or-set_other s.words (26 + 8 * m) 0 v 0 (λ e. omega arith) in
      let turn_is : (d : ℕ) → get_or words (24 + 8 * d) 0 ≡ get_or s.words (24 + 8 * d) 0 = λ d. get_or-set_other s.words (26 + 8 * m) (24 + 8 * d) v 0 (λ e. omega arith) in
      let held' : IsHeld history extends marks m (get_or s.words (24 + 8 * m) 0) s.homes all t' k w has' = record {
        word = held.word;
        home = held.home;
        is = set_at kept.all k p w here;
        holds = refl;
        slot = slot;
        bound = held.bound;
        unnoted = λ e. absurd (true≢false (sym is_noted ∙ e));
        noted = λ _. done;
        unmarked = λ e. absurd (true≢false e);
        marked = λ _. (is_noted, ap (λ (y : K). length (marks y)) (sym last_is), ap (λ (y : K). unended (marks y)) (sym last_is));
        others = each_other kept.all k p w here (λ j q. j ≢ k → holds_turn m q.hold ≡ false) (λ j q ne e _. held.others j q e ne) (λ ne. absurd (ne refl));
      } in
      let mine : IsStanding history extends marks m now (get_or s.words (24 + 8 * m) 0) s.homes all t' = record {
        bag = λ r x. f.bag r x ∙ sym (same_sum kept.all k p w here (λ q. drawn_in m r x q.draws) refl);
        rows = f.rows;
        bounded = f.bounded;
        seen = λ j q y e g. each_set kept.all k p w here (λ _ q. (y : K) → get_elem? q.saw m ≡ some y → extends y t.last × Each (λ e. get_or q.tops m 0 ≤ e.1) (drop (length (history y)) t.past)) (λ j q e y g. f.seen j q y e g) (λ y g. f.seen k p y here g) j q e y g;
        tops = each_set kept.all k p w here (λ _ q. get_or q.tops m 0 ≤ now) f.tops (f.tops k p here);
        made = λ place.
            let a = sum_set (λ (q : SeatView K T). made_at m place q.made) kept.all k p w here in
            let b = sum_append (λ (q : ℕ × ℕ). cond (eqb q.0 m && eqb q.1 place) 1 0) p.made fresh_places in
            let c = places_once hold.slot (length (marks hold.taken)) (length (marks z) - length (marks hold.taken)) place in
            let c' = subst (λ (j : ℕ). made_at j place fresh_places + once_below place (length (marks hold.taken)) ≡ once_below place (length (marks hold.taken) + (length (marks z) - length (marks hold.taken)))) slot c in
            let e : length (marks hold.taken) + (length (marks z) - length (marks hold.taken)) ≡ length (marks z) = omega arith in
            omega (arith, f.made place, ap (once_below place) before.0, ap (once_below place) e);
        owes =
            let a = sum_set (λ (q : SeatView K T). get_or q.owed m 0) kept.all k p w here in
            let b = get_or-set_same p.owed hold.slot owed_now 0 (omega (arith, core.sized k p here)) in
            let b' = subst (λ (j : ℕ). get_or (set p.owed hold.slot owed_now) j 0 ≡ owed_now) slot b in
            let c = ap (λ (j : ℕ). get_or p.owed j 0) slot in
            omega (arith, f.owes, before.1);
        turn_is = (w, has', held');
      } in (
        subst (λ (x : SeatView K T). IsBoard history extends marks same_plan stamp_of key (record { words = words; homes = s.homes; views = set s.views id (x ∷ []) })) (sym w_is) (record {
          all = all;
          owner = kept.owner;
          mods = mods;
          pool = kept.pool;
          tied = tied_step kept.all kept.owner s.views kept.tied id p w at refl;
          core = core_step history extends marks same_plan stamp_of key s.words words s.homes s.homes kept.all kept.mods mods kept.pool kept.pool core k p w here (length_set s.words (26 + 8 * m) v) (length_set kept.mods m t') refl refl refl (length_set p.owed hold.slot owed_now) saving
              (subst (λ x. IsDrawn x all) (sym clock_is) (keeps_drawn kept.all k p w here now refl refl core.drawn))
              (λ c h. subst (λ x. IsGiven c (get_or key.lengths.value.items c 0) x all) (sym (get_or-set_other s.words (26 + 8 * m) (8 + c) v 0 (λ e. omega (arith, core.few_cursors))))
              (keeps_given kept.all k p w here c (get_or key.lengths.value.items c 0) (get_or s.words (8 + c) 0) (λ _. refl) refl (core.given c h)))
              (let sum = sum_set (λ (x : Standing K). length x.past) kept.mods m t t' found.1 in omega (arith, core.counted, clock_is))
              (λ d u e. ⊎_elim
              (λ (i : (d ≡ m) × (t' ≡ u)). subst (λ (x : ℕ × Standing K). IsStanding history extends marks x.0 (get_or words 0 0) (get_or words (24 + 8 * x.0) 0) s.homes all x.1) (λ j. (sym i.0 j, i.1 j))
              (subst (λ (x : ℕ × ℕ). IsStanding history extends marks m x.0 x.1 s.homes all t') (λ j. (sym clock_is j, sym (turn_is m) j)) mine))
              (λ (i : (d ≢ m) × (get_elem? kept.mods d ≡ some u)). let g = core.standing d u i.1 in let apart : d ≢ hold.slot = (λ e. i.0 (e ∙ slot)) in
              subst (λ (x : ℕ × ℕ). IsStanding history extends marks d x.0 x.1 s.homes all u) (λ j. (sym clock_is j, sym (turn_is d) j))
              (keeps_standing kept.all k p w here history extends marks d now now (get_or s.words (24 + 8 * d) 0) (get_or s.words (24 + 8 * d) 0) s.homes s.homes u (omega arith) (λ _ _. refl) refl refl
              (λ place. let b = sum_append (λ (q : ℕ × ℕ). cond (eqb q.0 d && eqb q.1 place) 1 0) p.made fresh_places in let o = places_other hold.slot d (length (marks hold.taken)) (length (marks z) - length (marks hold.taken)) place apart in omega arith)
              (get_or-set_other p.owed hold.slot d owed_now 0 apart) u.holder
              (turn_apart kept.all k p w here history extends marks d (get_or s.words (24 + 8 * d) 0) s.homes s.homes u u.holder (ap (holds_turn d) has ∙ ne_eqb hold.slot d (λ e. apart (sym e))) (ne_eqb hold.slot d (λ e. apart (sym e))) refl g.turn_is) g))
              (at_set kept.mods m d t' u e))
              (λ x. let sum = sum_set (λ (u : Standing K). stamp_entered x u.past) kept.mods m t t' found.1 in omega (arith, core.stamps x, ap (once_below x) clock_is))
              (words_step history s.words (26 + 8 * m) v kept.mods core.words_are m t' (λ d ne. ((λ e. ne (omega arith)), λ e. ne (omega arith))) (let o = core.words_are m t found.1 in (get_or-set_other s.words (26 + 8 * m) (25 + 8 * m) v 0 (λ e. omega arith) ∙ o.0, get_or-set_same s.words (26 + 8 * m) v 0 (omega (arith, core.wide)) ∙ count_is)))
              (keeps_pool_at kept.all k p w here same_plan stamp_of (length key.opening.value.items) s.words (26 + 8 * m) v s.homes s.homes kept.pool (λ j h e. omega (arith, within)) (omega (arith, clock_is)) refl refl refl (refl) core.pooled);
        }),
        (let few = few_debts all m (each_set kept.all k p w here (λ _ q. total (λ n. n) q.owed ≤ 1) core.thrifty saving) in let o = mine.owes in let l = length_set kept.all k w in omega (arith, few, core.crew, core.few_seats)),
      )

  pub marking : (slots id : ℕ) (p : SeatView K T) (hold : Hold K) (m v : ℕ) (z : K) → p.hold ≡ Some hold → hold.noted ≡ true → hold.marked ≡ false → hold.slot ≡ m → m < length key.opening.value.items → get_elem? p.saw m ≡ some z
      → length (marks hold.taken) ≤ length (marks z) → unended (marks hold.taken) ≤ get_or p.owed m 0 + unended (marks z) → total (λ n. n) (marked_by marks p z (Some hold)).owed ≤ 1 → v ≡ length (marks z)
      → Allows (IsBoard history extends marks same_plan stamp_of key) slots id (p ∷ [], (m, OfModule z) ∷ []) (marks_at m) (λ _. v) (λ _. Marks marks (step slots (marks_at m) v 0 none) (p ∷ [], (m, OfModule z) ∷ []) v)
  marking slots id p hold m v z has is_noted unmarked_yet slot within saw_it longer enough saving count_is s kept len at small = let got = marks_it s kept id p hold m v z at has is_noted unmarked_yet slot within saw_it longer enough saving count_is in (
    marked marks p z ∷ [],
    keeps,
    tt,
    got.0,
    λ d y is. (ap (λ (l : List (ℕ × Lot K T)). let r : Sat K T = (marked marks p (value_or z l) ∷ [], (m, OfModule z) ∷ []) in r) is, subst (λ (x : K). unended (marks x) < 32) (ap (value_or z) is) got.1),
  )

  -- a look at the mark word, which notes where the count stands there already
  pub finding_marked : (slots id : ℕ) (p : SeatView K T) (hold : Hold K) (m : ℕ) (z : K) → p.hold ≡ Some hold → hold.noted ≡ true → hold.marked ≡ false → hold.slot ≡ m → m < length key.opening.value.items → get_elem? p.saw m ≡ some z
      → length (marks hold.taken) ≤ length (marks z) → unended (marks hold.taken) ≤ get_or p.owed m 0 + unended (marks z) → total (λ n. n) (marked_by marks p z (Some hold)).owed ≤ 1
      → Allows (IsBoard history extends marks same_plan stamp_of key) slots id (p ∷ [], (m, OfModule z) ∷ []) (marks_at m) (λ n. n) (FindsMarked marks (step slots (marks_at m) 0 0 none) (p ∷ [], (m, OfModule z) ∷ []))
  finding_marked slots id p hold m z has is_noted unmarked_yet slot within saw_it longer enough saving s kept len at small = let n = get_or s.words (26 + 8 * m) 0 in dite (ℕ_discrete n (length (marks z)))
      (λ e. let got = marking slots id p hold m n z has is_noted unmarked_yet slot within saw_it longer enough saving e s kept len at small in (
        got.0,
        got.1,
        got.2,
        got.3,
        λ d y is. (λ _. got.4 d y is, λ ne. absurd (ne (e ∙ ap (λ (l : List (ℕ × Lot K T)). length (marks (value_or z l))) is))),
      ))
      (λ ne. (
        p ∷ [],
        keeps,
        tt,
        subst (λ (x : List ℕ × List (List (SeatView K T))). IsBoard history extends marks same_plan stamp_of key (record { words = x.0; homes = s.homes; views = x.1 }))
            (λ i. (sym (set-get_or s.words (26 + 8 * m) 0) i, sym (set_again s.views id (p ∷ []) at) i)) kept,
        λ d y is. (λ e. absurd (ne (e ∙ sym (ap (λ (l : List (ℕ × Lot K T)). length (marks (value_or z l))) is))), λ _. refl),
      ))

  pub marking_one : (slots id : ℕ) (me : Sat K T) (hold : Hold K) (m v : ℕ) (z : K) → me ≡ (only me.0 ∷ [], (m, OfModule z) ∷ []) → (only me.0).hold ≡ Some hold → hold.noted ≡ true → hold.marked ≡ false → hold.slot ≡ m → m < length key.opening.value.items → get_elem? (only me.0).saw m ≡ some z
      → length (marks hold.taken) ≤ length (marks z) → unended (marks hold.taken) ≤ get_or (only me.0).owed m 0 + unended (marks z) → total (λ n. n) (marked_by marks (only me.0) z (Some hold)).owed ≤ 1 → v ≡ length (marks z)
      → Allows (IsBoard history extends marks same_plan stamp_of key) slots id me (marks_at m) (λ _. v) (λ _. Marks marks (step slots (marks_at m) v 0 none) me v)
  marking_one slots id me hold m v z one has is_noted unmarked_yet slot within saw_it longer enough saving count_is = subst (λ (u : Sat K T). Allows (IsBoard history extends marks same_plan stamp_of key) slots id u (marks_at m) (λ _. v) (λ _. Marks marks (step slots (marks_at m) v 0 none) u v)) (sym one)
      (marking slots id (only me.0) hold m v z has is_noted unmarked_yet slot within saw_it longer enough saving count_is)

  pub finding_marked_one : (slots id : ℕ) (me : Sat K T) (hold : Hold K) (m : ℕ) (z : K) → me ≡ (only me.0 ∷ [], (m, OfModule z) ∷ []) → (only me.0).hold ≡ Some hold → hold.noted ≡ true → hold.marked ≡ false → hold.slot ≡ m → m < length key.opening.value.items → get_elem? (only me.0).saw m ≡ some z
      → length (marks hold.taken) ≤ length (marks z) → unended (marks hold.taken) ≤ get_or (only me.0).owed m 0 + unended (marks z) → total (λ n. n) (marked_by marks (only me.0) z (Some hold)).owed ≤ 1
      → Allows (IsBoard history extends marks same_plan stamp_of key) slots id me (marks_at m) (λ n. n) (FindsMarked marks (step slots (marks_at m) 0 0 none) me)
  finding_marked_one slots id me hold m z one has is_noted unmarked_yet slot within saw_it longer enough saving = subst (λ (u : Sat K T). Allows (IsBoard history extends marks same_plan stamp_of key) slots id u (marks_at m) (λ n. n) (FindsMarked marks (step slots (marks_at m) 0 0 none) u)) (sym one)
      (finding_marked slots id (only me.0) hold m z has is_noted unmarked_yet slot within saw_it longer enough saving)

  gives_it : (s : State (Lot K T) (List (SeatView K T))) (kept : IsBoard history extends marks same_plan stamp_of key s) (id : ℕ) (p : SeatView K T) (hold : Hold K) (m : ℕ) (z : K) → get_elem? s.views id ≡ some (p ∷ []) → p.hold ≡ Some hold → hold.noted ≡ true → hold.marked ≡ true
      → hold.slot ≡ m → m < length key.opening.value.items → get_elem? p.saw m ≡ some z
      → IsBoard history extends marks same_plan stamp_of key (record { words = set s.words (24 + 8 * m) (2 * (unended (marks z) + 32 * hold.bound)); homes = set s.homes m (some (OfModule z)); views = set s.views id (gave p ∷ []) })
  gives_it s kept id p hold m z at has is_noted is_marked slot within saw_it =
      let here = place kept.all kept.owner s.views kept.tied id p at in let core = kept.core in let k = p.number in
      let found = there kept.mods m (omega (arith, core.stock)) in let t = found.0 in let f = core.standing m t found.1 in
      let own = my_turn kept.all k p p here history extends marks m (get_or s.words (24 + 8 * m) 0) s.homes t t.holder hold has slot f.turn_is in let held = own.1 in
      let now = get_or s.words 0 0 in let w = gave p in let all : List (SeatView K T) = set kept.all k w in let n : ℕ = 2 * (unended (marks z) + 32 * hold.bound) in let words : List ℕ = set s.words (24 + 8 * m) n in
      let homes : List (maybe.Option (Lot K T)) = set s.homes m (some (OfModule z)) in
      let done = held.noted is_noted in
      let last_is : t.last ≡ z = some-injective t.last z (sym done.0 ∙ saw_it) in
      let t' : Standing K = record t { holder = None } in let mods : List (Standing K) = set kept.mods m t' in
      let in_row : 24 + 8 * m < length s.words = omega (arith, core.wide) in
      let turn_is : get_or words (24 + 8 * m) 0 ≡ n = get_or-set_same s.words (24 + 8 * m) n 0 in_row in
      let clock_is : get_or words 0 0 ≡ now = get_or-set_other s.words (24 + 8 * m) 0 n 0 (λ e. omega arith) in
      let free : IsFree history extends marks m n homes all t' = record {
        word = (let a = (held.marked is_marked).2 in let b = ap (λ (y : K). unended (marks y)) last_is in let e : 2 * (unended (marks z) + 32 * hold.bound) ≡ 2 * (t.owing + 32 * t.bound) = omega (arith, held.bound) in e);
        home = set_at s.homes m none (some (OfModule z)) held.home ∙ ap (λ (y : K). some (some (OfModule y))) (sym last_is);
        whole = done.1;
        marks_are = (let a = held.marked is_marked in (a.1, a.2));
        nobody = each_other kept.all k p w here (λ j q. holds_turn m q.hold ≡ false) (λ j q ne e. held.others j q e ne) refl;
      } in record {
        all = all;
        owner = kept.owner;
        mods = mods;
        pool = kept.pool;
        tied = tied_step kept.all kept.owner s.views kept.tied id p w at refl;
        core = core_step history extends marks same_plan stamp_of key s.words words s.homes homes kept.all kept.mods mods kept.pool kept.pool core k p w here (length_set s.words (24 + 8 * m) n) (length_set kept.mods m t') refl refl refl refl (core.thrifty k p here)
            (subst (λ x. IsDrawn x all) (sym clock_is) (keeps_drawn kept.all k p w here now refl refl core.drawn))
            (λ c h. subst (λ x. IsGiven c (get_or key.lengths.value.items c 0) x all) (sym (get_or-set_other s.words (24 + 8 * m) (8 + c) n 0 (λ e. omega (arith, core.few_cursors))))
            (keeps_given kept.all k p w here c (get_or key.lengths.value.items c 0) (get_or s.words (8 + c) 0) (λ _. refl) refl (core.given c h)))
            (let sum = sum_set (λ (x : Standing K). length x.past) kept.mods m t t' found.1 in omega (arith, core.counted, clock_is))
            (λ d u e. ⊎_elim
            (λ (i : (d ≡ m) × (t' ≡ u)). subst (λ (x : ℕ × Standing K). IsStanding history extends marks x.0 (get_or words 0 0) (get_or words (24 + 8 * x.0) 0) homes all x.1) (λ j. (sym i.0 j, i.1 j))
            (subst (λ (x : ℕ × ℕ). IsStanding history extends marks m x.0 x.1 homes all t') (λ j. (sym clock_is j, sym turn_is j))
            (keeps_standing kept.all k p w here history extends marks m now now (get_or s.words (24 + 8 * m) 0) n s.homes homes t (omega arith) (λ _ _. refl) refl refl (λ _. refl) refl None free f)))
            (λ (i : (d ≢ m) × (get_elem? kept.mods d ≡ some u)). let g = core.standing d u i.1 in let other = sym (get_or-set_other s.words (24 + 8 * m) (24 + 8 * d) n 0 (other_turn m d i.0)) in
            subst (λ (x : ℕ × ℕ). IsStanding history extends marks d x.0 x.1 homes all u) (λ j. (sym clock_is j, other j))
            (keeps_standing kept.all k p w here history extends marks d now now (get_or s.words (24 + 8 * d) 0) (get_or s.words (24 + 8 * d) 0) s.homes homes u (omega arith) (λ _ _. refl) refl refl (λ _. refl) refl u.holder
            (turn_apart kept.all k p w here history extends marks d (get_or s.words (24 + 8 * d) 0) s.homes homes u u.holder (ap (holds_turn d) has ∙ ne_eqb hold.slot d (λ e. i.0 (sym e ∙ slot))) refl (set_else s.homes m d (some (OfModule z)) i.0) g.turn_is) g))
            (at_set kept.mods m d t' u e))
            (λ x. let sum = sum_set (λ (u : Standing K). stamp_entered x u.past) kept.mods m t t' found.1 in omega (arith, core.stamps x, ap (once_below x) clock_is))
            (words_step history s.words (24 + 8 * m) n kept.mods core.words_are m t' (λ d ne. ((λ e. omega arith), λ e. omega arith)) (let o = core.words_are m t found.1 in (get_or-set_other s.words (24 + 8 * m) (25 + 8 * m) n 0 (λ e. omega arith) ∙ o.0, get_or-set_other s.words (24 + 8 * m) (26 + 8 * m) n 0 (λ e. omega arith) ∙ o.1)))
            (keeps_pool_at kept.all k p w here same_plan stamp_of (length key.opening.value.items) s.words (24 + 8 * m) n s.homes homes kept.pool (λ j h e. omega (arith, within)) (omega (arith, clock_is)) refl refl refl (set_else s.homes m (length key.opening.value.items) (some (OfModule z)) (λ e. omega (arith, within))) core.pooled);
      }

  pub giving : (slots id : ℕ) (p : SeatView K T) (hold : Hold K) (m : ℕ) (z : K) → p.hold ≡ Some hold → hold.noted ≡ true → hold.marked ≡ true → hold.slot ≡ m → m < length key.opening.value.items → get_elem? p.saw m ≡ some z
      → Allows (IsBoard history extends marks same_plan stamp_of key) slots id (p ∷ [], (m, OfModule z) ∷ []) (turn_at m) (λ _. 2 * (unended (marks z) + 32 * hold.bound)) (λ _. Gives (step slots (turn_at m) (2 * (unended (marks z) + 32 * hold.bound)) 0 none) (p ∷ [], (m, OfModule z) ∷ []) (2 * (unended (marks z) + 32 * hold.bound)))
  giving slots id p hold m z has is_noted is_marked slot within saw_it s kept len at small = (gave p ∷ [], gives, tt, gives_it s kept id p hold m z at has is_noted is_marked slot within saw_it, refl)

  pub drawing : (slots id : ℕ) (p : SeatView K T) (held : List (ℕ × Lot K T)) (hold : Hold K) (row : ℕ) → p.hold ≡ Some hold → hold.noted ≡ false → hold.slot < length key.opening.value.items → row < 4294967296 → row_entered row (history hold.taken ++ hold.since) ≡ 0
      → Allows (IsBoard history extends marks same_plan stamp_of key) slots id (p ∷ [], held) clock (λ n. (n + 1) % 2 ^ 64) (Draws row (step slots clock 1 0 none) (p ∷ [], held))
  drawing slots id p held hold row has open_turn within small absent s kept len at fits = let got = draws_it s kept id p hold row at has open_turn within small absent in
      (drew p row (get_or s.words 0 0) ∷ [], keeps, tt, got.0, (refl, got.1, got.3, λ h e. subst (λ (x : Hold K). x.bound ≤ get_or s.words 0 0) (some_same hold h (sym has ∙ e)) got.2))

  pub taking_one : (slots id : ℕ) (me : Sat K T) (m open_keys bound : ℕ) → open_keys < 32 → me ≡ (only me.0 ∷ [], []) → (only me.0).hold ≡ None → m < length key.opening.value.items
      → Allows (IsBoard history extends marks same_plan stamp_of key) slots id me (turn_at m) (λ n. either (eqb n (2 * (open_keys + 32 * bound))) (2 * (open_keys + 32 * bound) + 1) n) (Takes history extends (step slots (turn_at m) (2 * (open_keys + 32 * bound)) (2 * (open_keys + 32 * bound) + 1) none) me)
  taking_one slots id me m open_keys bound few_open one idle within = subst (λ (v : Sat K T). Allows (IsBoard history extends marks same_plan stamp_of key) slots id v (turn_at m) (λ n. either (eqb n (2 * (open_keys + 32 * bound))) (2 * (open_keys + 32 * bound) + 1) n) (Takes history extends (step slots (turn_at m) (2 * (open_keys + 32 * bound)) (2 * (open_keys + 32 * bound) + 1) none) v)) (sym one)
      (taking slots id (only me.0) m open_keys bound few_open idle within)

  pub drawing_one : (slots id : ℕ) (me : Sat K T) (hold : Hold K) (row : ℕ) → me ≡ (only me.0 ∷ [], me.1) → (only me.0).hold ≡ Some hold → hold.noted ≡ false → hold.slot < length key.opening.value.items → row < 4294967296 → row_entered row (history hold.taken ++ hold.since) ≡ 0
      → Allows (IsBoard history extends marks same_plan stamp_of key) slots id me clock (λ n. (n + 1) % 2 ^ 64) (Draws row (step slots clock 1 0 none) me)
  drawing_one slots id me hold row one has open_turn within small absent = subst (λ (v : Sat K T). Allows (IsBoard history extends marks same_plan stamp_of key) slots id v clock (λ n. (n + 1) % 2 ^ 64) (Draws row (step slots clock 1 0 none) v)) (sym one)
      (drawing slots id (only me.0) me.1 hold row has open_turn within small absent)

  pub noting_one : ((x : K) → extends x x) → ((x y z : K) → extends x y → extends y z → extends x z) → (slots id : ℕ) (me : Sat K T) (hold : Hold K) (m v : ℕ) (z : K) → me ≡ (only me.0 ∷ [], (m, OfModule z) ∷ []) → (only me.0).hold ≡ Some hold → hold.noted ≡ false → hold.slot ≡ m
      → m < length key.opening.value.items → extends hold.taken z → history z ≡ history hold.taken ++ hold.since → v ≡ length (history z)
      → Allows (IsBoard history extends marks same_plan stamp_of key) slots id me (entries_at m) (λ _. v) (λ _. Notes (step slots (entries_at m) v 0 none) me v)
  noting_one same further slots id me hold m v z one has open_turn slot within later added count_is = subst (λ (u : Sat K T). Allows (IsBoard history extends marks same_plan stamp_of key) slots id u (entries_at m) (λ _. v) (λ _. Notes (step slots (entries_at m) v 0 none) u v)) (sym one)
      (noting same further slots id (only me.0) hold m v z has open_turn slot within later added count_is)

  pub finding_noted_one : ((x : K) → extends x x) → ((x y z : K) → extends x y → extends y z → extends x z) → (slots id : ℕ) (me : Sat K T) (hold : Hold K) (m : ℕ) (z : K) → me ≡ (only me.0 ∷ [], (m, OfModule z) ∷ []) → (only me.0).hold ≡ Some hold → hold.noted ≡ false → hold.slot ≡ m
      → m < length key.opening.value.items → extends hold.taken z → history z ≡ history hold.taken ++ hold.since
      → Allows (IsBoard history extends marks same_plan stamp_of key) slots id me (entries_at m) (λ n. n) (FindsNoted history (step slots (entries_at m) 0 0 none) me)
  finding_noted_one same further slots id me hold m z one has open_turn slot within later added = subst (λ (u : Sat K T). Allows (IsBoard history extends marks same_plan stamp_of key) slots id u (entries_at m) (λ n. n) (FindsNoted history (step slots (entries_at m) 0 0 none) u)) (sym one)
      (finding_noted same further slots id (only me.0) hold m z has open_turn slot within later added)

  pub giving_one : (slots id : ℕ) (me : Sat K T) (hold : Hold K) (m word : ℕ) (z : K) → me ≡ (only me.0 ∷ [], (m, OfModule z) ∷ []) → (only me.0).hold ≡ Some hold → hold.noted ≡ true → hold.marked ≡ true → hold.slot ≡ m → m < length key.opening.value.items → get_elem? (only me.0).saw m ≡ some z → word ≡ 2 * (unended (marks z) + 32 * hold.bound)
      → Allows (IsBoard history extends marks same_plan stamp_of key) slots id me (turn_at m) (λ _. word) (λ _. Gives (step slots (turn_at m) (word) 0 none) me (word))
  giving_one slots id me hold m word z one has is_noted is_marked slot within saw_it same = subst (λ (x : Sat K T × ℕ). Allows (IsBoard history extends marks same_plan stamp_of key) slots id x.0 (turn_at m) (λ _. x.1) (λ _. Gives (step slots (turn_at m) (x.1) 0 none) x.0 (x.1))) (λ i. (sym one i, sym same i))
      (giving slots id (only me.0) hold m z has is_noted is_marked slot within saw_it)
