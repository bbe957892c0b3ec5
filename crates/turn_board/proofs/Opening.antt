-- A new board keeps the rule.
use Rattle.std.proofs.Common.{◌≡◌, ◌≢◌, ℕ, zero, suc, ◌+◌, ◌*◌, ◌<◌, ◌≤◌, List, [], ◌∷◌, ◌++◌, length, get_or, min, sym, refl, ap, ◌∙◌, subst, arith, map, replicate, true, Bool, Option, Some, None, drop}
use Rattle.std.proofs.lemmas.List.{length-map}
use Rattle.turn_board.proofs.Rosters.{each_at}
use Rattle.turn_board.proofs.Rows.{each_drop_nil}
use mathlib.Core.Option.{some, some-injective, some-ne-none}
use lib.ListN.{get_elem?}
use Rattle.std.proofs.lemmas.Bool.Decides.{nat_tests}
use Rattle.atomic_table.proofs.Lists.{at_map, at_longer, at_last}
use Rattle.atomic_table.specs.Table.{opening, Splits}
use Rattle.turn_board.specs.declared.view.SeatView.{SeatView}
use Rattle.turn_board.specs.declared.lot.Lot.{Lot}
use Rattle.turn_board.specs.declared.lot.Lot.TheVariants.{OfModule, OfPool}
use Rattle.turn_board.specs.declared.view.Terms.{Terms}
use Rattle.turn_board.specs.declared.pool.Move.{Move}
use Rattle.turn_board.specs.Pools.{PoolState, IsLaterPool}
use Rattle.turn_board.proofs.Frames.{some_same}
use Rattle.turn_board.proofs.PoolKeeping.{later_same}
use Rattle.turn_board.specs.Sums.{Each, total, once_below}
use Rattle.turn_board.specs.Views.{fresh, seats_from, stamped, drawn_in, stamp_entered, made_at, moved_at, unended, holds_turn, claimed, dried}
use Rattle.turn_board.specs.Plays.{behind_first, first_alone}
use Rattle.turn_board.proofs.Keeping.{splits}
use Rattle.turn_board.specs.Rule.{Standing, IsStanding, IsPooled, IsDrawn, IsGiven, IsBoard}

module _ {K T : Type 0} (lengths : List ℕ) (saw : List K) (pool : Option (PoolState T)) where
  pub at_from : (k n i : ℕ) → i < n → get_elem? (seats_from lengths saw pool k n) i ≡ some (fresh lengths saw pool (k + i))
  at_from k zero i h = absurd (omega arith)
  at_from k (suc n) zero h = ap (λ j. some (fresh lengths saw pool j)) (let e : k ≡ k + 0 = omega arith in e)
  at_from k (suc n) (suc i) h = at_from (k + 1) n i (omega arith) ∙ ap (λ j. some (fresh lengths saw pool j)) (let e : (k + 1) + i ≡ k + suc i = omega arith in e)

  pub from_at : (k n i : ℕ) (p : SeatView K T) → get_elem? (seats_from lengths saw pool k n) i ≡ some p → fresh lengths saw pool (k + i) ≡ p
  from_at k zero i p e = absurd (some-ne-none p (sym e))
  from_at k (suc n) zero p e = ap (fresh lengths saw pool) (let e : k + 0 ≡ k = omega arith in e) ∙ some-injective (fresh lengths saw pool k) p e
  from_at k (suc n) (suc i) p e = ap (fresh lengths saw pool) (let e : k + suc i ≡ (k + 1) + i = omega arith in e) ∙ from_at (k + 1) n i p e

  pub each_from : (P : SeatView K T → Type 0) (k n : ℕ) → ((i : ℕ) → i < n → P (fresh lengths saw pool (k + i))) → Each P (seats_from lengths saw pool k n)
  each_from P k zero h = tt
  each_from P k (suc n) h = (
    subst (λ j. P (fresh lengths saw pool j)) (let e : k + 0 ≡ k = omega arith in e) (h 0 (omega arith)),
    each_from P (k + 1) n (λ i l. subst (λ j. P (fresh lengths saw pool j)) (let e : k + suc i ≡ (k + 1) + i = omega arith in e) (h (suc i) (omega arith))),
  )

  pub length_from : (k n : ℕ) → length (seats_from lengths saw pool k n) ≡ n
  length_from k zero = refl
  length_from k (suc n) = ap suc (length_from (k + 1) n)

  pub total_from : (f : SeatView K T → ℕ) (k n : ℕ) → ((i : ℕ) → f (fresh lengths saw pool i) ≡ 0) → total f (seats_from lengths saw pool k n) ≡ 0
  total_from f k zero h = refl
  total_from f k (suc n) h = let a = h k in let b = total_from f (k + 1) n h in omega arith

  pub from_snoc : (k n m : ℕ) → m ≡ n + 1 → seats_from lengths saw pool k m ≡ seats_from lengths saw pool k n ++ fresh lengths saw pool (k + n) ∷ []
  from_snoc k n zero e = absurd (omega arith)
  from_snoc k zero (suc zero) e = ap (λ j. fresh lengths saw pool j ∷ []) (let z : k ≡ k + 0 = omega arith in z)
  from_snoc k zero (suc (suc m)) e = absurd (omega arith)
  from_snoc k (suc n) (suc m) e = let rest = from_snoc (k + 1) n m (omega arith) in let z : (k + 1) + n ≡ k + suc n = omega arith in
      let rest' = rest ∙ ap (λ j. seats_from lengths saw pool (k + 1) n ++ fresh lengths saw pool j ∷ []) z in λ i. fresh lengths saw pool k ∷ rest' i

  -- what is left where the first of them leaves
  pub next_from : (k n m : ℕ) → m ≡ n + 1 → seats_from lengths saw pool k m ≡ fresh lengths saw pool k ∷ seats_from lengths saw pool (k + 1) n
  next_from k n zero e = absurd (omega arith)
  next_from k n (suc m) e = ap (λ j. fresh lengths saw pool k ∷ seats_from lengths saw pool (k + 1) j) (let z : m ≡ n = omega arith in z)

zeros : (n i : ℕ) → get_or (replicate {A = ℕ} n 0) i 0 ≡ zero
zeros zero i = refl
zeros (suc n) zero = refl
zeros (suc n) (suc i) = zeros n i

length_zeros : (n : ℕ) → length (replicate {A = ℕ} n 0) ≡ n
length_zeros zero = refl
length_zeros (suc n) = ap suc (length_zeros n)

map_at : {X Y : Type 0} (f : X → Y) (l : List X) (i : ℕ) (y : Y) → get_elem? (map f l) i ≡ some y → (x : X) × (get_elem? l i ≡ some x) × (f x ≡ y)
map_at f [] i y e = absurd (some-ne-none y (sym e))
map_at f (x ∷ xs) zero y e = (x, refl, some-injective (f x) y e)
map_at f (x ∷ xs) (suc i) y e = map_at f xs i y e

pub zeros_at : {X : Type 0} (l : List X) (i : ℕ) → get_or (map {B = ℕ} (λ _. zero) l) i 0 ≡ zero
zeros_at [] i = refl
zeros_at (x ∷ xs) zero = refl
zeros_at (x ∷ xs) (suc i) = zeros_at xs i

pub no_debts : {X : Type 0} (l : List X) → total (λ n. n) (map {B = ℕ} (λ _. zero) l) ≡ zero
no_debts [] = refl
no_debts (x ∷ xs) = let r = no_debts xs in omega arith

no_past : {K : Type 0} (l : List K) → total (λ t. length t.past) (map {B = Standing K} (λ y. record { past = []; last = y; bound = 0; listed = 0; owing = 0; holder = None }) l) ≡ 0
no_past [] = refl
no_past (x ∷ xs) = let r = no_past xs in omega arith

no_stamps : {K : Type 0} (x : ℕ) (l : List K) → total (λ t. stamp_entered x t.past) (map {B = Standing K} (λ y. record { past = []; last = y; bound = 0; listed = 0; owing = 0; holder = None }) l) ≡ 0
no_stamps x [] = refl
no_stamps x (y ∷ ys) = let r = no_stamps x ys in omega arith

only_one : {X : Type 0} {x : X} (id : ℕ) (v : X) → get_elem? (x ∷ []) id ≡ some v → (id ≡ 0) × (x ≡ v)
only_one {X} {x} zero v e = (refl, some-injective x v e)
only_one {X} {x} (suc id) v e = absurd (some-ne-none v (sym e))

none_below : (x : ℕ) → once_below x 0 ≡ 0
none_below x = grind (arith, nat_tests)

module _ {K T : Type 0} (history : K → List (ℕ × ℕ)) (extends : K → K → Type 0) (marks : K → List Bool) (same_plan : T → T → Type 0) (stamp_of : T → ℕ) (key : Terms K T) where
  pub opens : (words : List ℕ) (homes : List (Lot K T)) → words ≡ replicate (32 + 8 * length key.opening.value.items) 0 → homes ≡ map {B = Lot K T} OfModule key.opening.value.items ++ OfPool key.pool.value ∷ []
      → key.seats ≤ 17 → length key.lengths.value.items ≤ 16 → ((c : ℕ) → get_or key.lengths.value.items c 0 < 4294967296) → length key.opening.value.items ≤ 16 → Each (λ y. (history y ≡ []) × (marks y ≡ [])) key.opening.value.items → key.pool.value.moves ≡ [] → ((x : K) → extends x x) → ((x : T) → same_plan x x)
      → IsBoard history extends marks same_plan stamp_of key (opening words homes (seats_from key.lengths.value.items key.opening.value.items (Some key.pool.value) 0 key.seats))
  opens words homes words_are homes_are seats cursors small modules empty still same same_pool =
      let lengths = key.lengths.value.items in let saw = key.opening.value.items in let pool : Option (PoolState T) = Some key.pool.value in let all : List (SeatView K T) = seats_from lengths saw pool 0 key.seats in
      let at : (i : ℕ) → i < key.seats → get_elem? all i ≡ some (fresh lengths saw pool (0 + i)) = λ i h. at_from lengths saw pool 0 key.seats i h in
      let word : (i : ℕ) → get_or words i 0 ≡ 0 = λ i. ap (λ (l : List ℕ). get_or l i 0) words_are ∙ zeros (32 + 8 * length key.opening.value.items) i in
      let mods : List (Standing K) = map (λ y. record { past = []; last = y; bound = 0; listed = 0; owing = 0; holder = None }) saw in
      let zero_plus : (i : ℕ) → 0 + i ≡ i = λ i. omega arith in
      record {
        all = all;
        owner = λ _. 0;
        mods = mods;
        pool = record { last = key.pool.value; holder = None };
        tied = record {
          found = λ id v e. subst (λ (x : List (SeatView K T)). Each (λ p. (get_elem? all p.number ≡ some p) × (0 ≡ id)) x) (only_one id v e).1
              (each_from lengths saw pool (λ p. (get_elem? all p.number ≡ some p) × (0 ≡ id)) 0 key.seats (λ i h. (ap (get_elem? all) (zero_plus i) ∙ at i h, sym (only_one id v e).0)));
          sums = λ f. omega arith;
          numbered = λ k p e. ap (λ (q : SeatView K T). q.number) (sym (from_at lengths saw pool 0 key.seats k p e)) ∙ zero_plus k;
        };
        core = record {
          wide = ap length words_are ∙ length_zeros (32 + 8 * length key.opening.value.items);
          crew = length_from lengths saw pool 0 key.seats;
          few_seats = seats;
          few_cursors = cursors;
          few_modules = modules;
          stock = length-map saw _;
          sized = λ k p e. subst (λ (q : SeatView K T). (length q.saw ≡ length saw) × (length q.tops ≡ length saw) × (length q.owed ≡ length saw)) (from_at lengths saw pool 0 key.seats k p e) (refl, length-map saw _, length-map saw _);
          told = λ k p e. ap (λ (q : SeatView K T). q.lengths) (sym (from_at lengths saw pool 0 key.seats k p e));
          drawn = subst (λ n. IsDrawn n all) (sym (word 0)) (record {
            each_once = λ x. total_from lengths saw pool (λ p. stamped x p.draws) 0 key.seats (λ _. refl) ∙ sym (none_below x);
            reached = λ k p e. subst (λ (q : SeatView K T). Each (λ d. d.2 < q.reach) q.draws × (q.reach ≤ 0)) (from_at lengths saw pool 0 key.seats k p e) (tt, omega arith);
          });
          thrifty = λ k p e. subst (λ (q : SeatView K T). total (λ n. n) q.owed ≤ 1) (from_at lengths saw pool 0 key.seats k p e) (omega (arith, no_debts saw));
          counted = no_past saw ∙ sym (word 0);
          stamps = λ x. no_stamps x saw ∙ sym (ap (once_below x) (word 0) ∙ none_below x);
          words_are = λ m t e. let from = map_at (λ y. let u : Standing K = record { past = []; last = y; bound = 0; listed = 0; owing = 0; holder = None } in u) saw m t e in
              subst (λ (u : Standing K). (get_or words (25 + 8 * m) 0 ≡ length (history u.last)) × (get_or words (26 + 8 * m) 0 ≡ u.listed)) from.2
              (word (25 + 8 * m) ∙ sym (ap length (each_at (λ y. (history y ≡ []) × (marks y ≡ [])) saw m from.0 from.1 empty).0), word (26 + 8 * m));
          standing = λ m t e. let from = map_at (λ y. let u : Standing K = record { past = []; last = y; bound = 0; listed = 0; owing = 0; holder = None } in u) saw m t e in
              subst (λ (u : Standing K). IsStanding history extends marks m (get_or words 0 0) (get_or words (24 + 8 * m) 0) (map some homes) all u) from.2 (record {
                bag = λ row stamp. sym (total_from lengths saw pool (λ p. drawn_in m row stamp p.draws) 0 key.seats (λ _. refl));
                rows = λ row. omega arith;
                bounded = (tt, omega arith);
                seen = λ k p y f g. subst (λ (z : K). extends z from.0 × Each (λ (e : ℕ × ℕ). get_or p.tops m 0 ≤ e.1) (drop (length (history z)) []))
                    (some-injective from.0 y (sym from.1 ∙ (ap (λ (q : SeatView K T). get_elem? q.saw m) (from_at lengths saw pool 0 key.seats k p f) ∙ g))) (same from.0, each_drop_nil (λ (e : ℕ × ℕ). get_or p.tops m 0 ≤ e.1) (length (history from.0)));
                tops = λ k p f. subst (λ (q : SeatView K T). get_or q.tops m 0 ≤ get_or words 0 0) (from_at lengths saw pool 0 key.seats k p f) (omega (arith, zeros_at saw m));
                made = λ place. total_from lengths saw pool (λ p. made_at m place p.made) 0 key.seats (λ _. refl) ∙ sym (none_below place);
                owes = total_from lengths saw pool (λ p. get_or p.owed m 0) 0 key.seats (λ _. zeros_at saw m);
                turn_is = record {
                  word = word (24 + 8 * m);
                  home = subst (λ (l : List (Lot K T)). get_elem? (map some l) m ≡ some (some (OfModule from.0))) (sym homes_are) (at_map some (map {B = Lot K T} OfModule saw ++ OfPool key.pool.value ∷ []) m (OfModule from.0) (at_longer (map {B = Lot K T} OfModule saw) (OfPool key.pool.value ∷ []) m (OfModule from.0) (at_map OfModule saw m from.0 from.1)));
                  whole = (each_at (λ y. (history y ≡ []) × (marks y ≡ [])) saw m from.0 from.1 empty).0;
                  marks_are = (let z = (each_at (λ y. (history y ≡ []) × (marks y ≡ [])) saw m from.0 from.1 empty).1 in (ap length z, ap unended z));
                  nobody = λ k p f. ap (λ (q : SeatView K T). holds_turn m q.hold) (sym (from_at lengths saw pool 0 key.seats k p f));
                };
              });
          given = λ c h. subst (λ n. IsGiven c (get_or lengths c 0) n all) (sym (word (8 + c))) (record {
            small = small c;
            each_once = λ x. total_from lengths saw pool (λ p. claimed c x p.claims) 0 key.seats (λ _. refl) ∙ sym (ap (once_below x) (let e : min 0 (get_or lengths c 0) ≡ 0 = omega arith in e) ∙ none_below x);
            dry_at = λ k p e d. absurd (let z : 0 < dried c (fresh lengths saw pool (0 + k)).dry = subst (λ (q : SeatView K T). 0 < dried c q.dry) (sym (from_at lengths saw pool 0 key.seats k p e)) d in omega arith);
            past = omega arith;
            dry_once = λ k p e. subst (λ (q : SeatView K T). dried c q.dry ≤ 1) (from_at lengths saw pool 0 key.seats k p e) (omega arith);
          });
          pooled = subst (λ (x : ℕ × ℕ × ℕ × ℕ). IsPooled same_plan stamp_of (length saw) x.0 x.1 x.2 x.3 (map some homes) all (record { last = key.pool.value; holder = None })) (λ i. (sym (word 0) i, sym (word (24 + 8 * length saw)) i, sym (word (25 + 8 * length saw)) i, sym (word (26 + 8 * length saw)) i)) (record {
            counted = sym (ap length still);
            moved = λ place. total_from lengths saw pool (λ p. moved_at place p.moves) 0 key.seats (λ _. refl) ∙ sym (ap (λ (l : List (Move T)). once_below place (length l)) still ∙ none_below place);
            stand = λ k p e. subst (λ (q : SeatView K T). Each (λ (x : ℕ × Move T). get_elem? key.pool.value.moves x.0 ≡ some x.1) q.moves) (from_at lengths saw pool 0 key.seats k p e) tt;
            seen = λ k p y e g. subst (λ (x : PoolState T). IsLaterPool same_plan x key.pool.value) (some_same key.pool.value y (ap (λ (q : SeatView K T). q.pool_saw) (from_at lengths saw pool 0 key.seats k p e) ∙ g)) (later_same same_plan same_pool key.pool.value);
            below = subst (λ (l : List (Move T)). Each (λ (v : Move T). v.put ≡ true → stamp_of v.item < 0) l) (sym still) tt;
            top_is = omega arith;
            turn_is = record {
              word = refl;
              home = subst (λ (l : List (Lot K T)). get_elem? (map some l) (length saw) ≡ some (some (OfPool key.pool.value))) (sym homes_are) (at_map some (map {B = Lot K T} OfModule saw ++ OfPool key.pool.value ∷ []) (length saw) (OfPool key.pool.value) (at_last (map {B = Lot K T} OfModule saw) (OfPool key.pool.value) (length saw) (length-map saw _)));
              nobody = λ k p f. ap (λ (q : SeatView K T). q.pooling) (sym (from_at lengths saw pool 0 key.seats k p f));
            };
          });
        };
      }

  -- the first of the seats leaves
  pub parts : (id : ℕ) (v : List (SeatView K T)) (lengths : List ℕ) (saw : List K) (pool : Option (PoolState T)) (k n : ℕ) → v ≡ fresh lengths saw pool k ∷ seats_from lengths saw pool (k + 1) n → Splits (IsBoard history extends marks same_plan stamp_of key) id v (behind_first v) (first_alone v)
  parts id v lengths saw pool k n e = subst (λ (u : List (SeatView K T)). Splits (IsBoard history extends marks same_plan stamp_of key) id u (behind_first u) (first_alone u)) (sym e)
      (splits history extends marks same_plan stamp_of key id (fresh lengths saw pool k) (seats_from lengths saw pool (k + 1) n) (each_from lengths saw pool (λ q. q.number ≢ k) (k + 1) n (λ i h same. omega arith)))
