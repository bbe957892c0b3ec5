-- What is known once one token has all seats.
use Rattle.std.proofs.Common.{◌≡◌, ℕ, ◌+◌, ◌*◌, ◌<◌, ◌≤◌, List, [], ◌∷◌, length, get_or, cond, sym, refl, ap, ◌∙◌, subst, arith, eq-eqb, Bool, Option, Some, None, zero, suc, drop}
use mathlib.Core.Option.{some, some-injective, some-ne-none}
use lib.ListN.{get_elem?}
use Rattle.atomic_table.specs.Table.{State}
use Rattle.turn_board.specs.declared.view.SeatView.{SeatView}
use Rattle.turn_board.specs.declared.lot.Lot.{Lot}
use Rattle.turn_board.specs.declared.lot.Lot.TheVariants.{OfModule, OfPool}
use Rattle.turn_board.specs.declared.view.Hold.{Hold}
use Rattle.turn_board.specs.declared.view.Terms.{Terms}
use Rattle.turn_board.specs.Sums.{Each, total, once_below}
use Rattle.turn_board.specs.Views.{stamped, drawn_in, entered, stamp_entered, made_at, moved_at, unended, holds_turn, claimed, dried}
use Rattle.turn_board.specs.declared.view.PoolHold.{PoolHold}
use Rattle.turn_board.specs.declared.pool.Move.{Move}
use Rattle.turn_board.specs.Pools.{PoolState, IsLaterPool}
use Rattle.turn_board.specs.Boards.{IsClosing, Completes}
use Rattle.turn_board.specs.Rule.{Standing, IsFree, IsTurn, PoolStanding, IsPoolFree, IsPoolTurn, IsBoard}
use Rattle.turn_board.proofs.Rosters.{there, tied_whole, each_of, zero_sums, at_below}

pub read_at : {X : Type 0} (l : List X) (i : ℕ) (d x : X) → get_elem? l i ≡ some x → get_or l i d ≡ x
read_at [] i d x e = absurd (some-ne-none x (sym e))
read_at (y ∷ ys) zero d x e = some-injective y x e
read_at (y ∷ ys) (suc i) d x e = read_at ys i d x e

same_totals : {X Y : Type 0} (f : X → ℕ) (g : Y → ℕ) (xs : List X) (ys : List Y) → length xs ≡ length ys → ((i : ℕ) (x : X) (y : Y) → get_elem? xs i ≡ some x → get_elem? ys i ≡ some y → f x ≡ g y) → total f xs ≡ total g ys
same_totals f g [] [] len h = refl
same_totals f g [] (y ∷ ys) len h = absurd (omega arith)
same_totals f g (x ∷ xs) [] len h = absurd (omega arith)
same_totals f g (x ∷ xs) (y ∷ ys) len h = let one = h 0 x y refl refl in let rest = same_totals f g xs ys (omega arith) (λ i a b e k. h (suc i) a b e k) in omega arith

no_total : {X : Type 0} (f : X → ℕ) (xs : List X) → Each (λ x. f x ≡ 0) xs → total f xs ≡ 0
no_total f [] e = refl
no_total f (x ∷ xs) e = let a = e.0 in let b = no_total f xs e.1 in omega arith

-- 1 where it is a turn
abbrev has_pool : {T : Type 0} → Option (PoolHold T) → ℕ
has_pool None = 0
has_pool (Some h) = 1

module _ {K T : Type 0} (history : K → List (ℕ × ℕ)) (extends : K → K → Type 0) (marks : K → List Bool) (same_plan : T → T → Type 0) (stamp_of : T → ℕ) (key : Terms K T) where
  module _ (s : State (Lot K T) (List (SeatView K T))) (kept : IsBoard history extends marks same_plan stamp_of key s) (id : ℕ) (v : List (SeatView K T)) (at : get_elem? s.views id ≡ some v) (many : length v ≡ key.seats) (idle : Each (λ p. p.hold ≡ None) v) (still : Each (λ p. p.pooling ≡ None) v) where
    whole : (f : SeatView K T → ℕ) → total f v ≡ total f kept.all
    whole f = tied_whole kept.all kept.owner s.views kept.tied id v at (many ∙ sym kept.core.crew) f

    is_free : (m turn : ℕ) (t : Standing K) (o : Option ℕ) → IsTurn history extends marks m turn s.homes kept.all t o → IsFree history extends marks m turn s.homes kept.all t
    is_free m turn t None f = f
    is_free m turn t (Some h) (p, hold, f) = absurd (
        let none_of = no_total (λ (q : SeatView K T). cond (holds_turn m q.hold) 1 0) v (each_of (λ (q : SeatView K T). q.hold ≡ None) (λ (q : SeatView K T). cond (holds_turn m q.hold) 1 0 ≡ 0) v (λ q e. ap (λ (o : Option (Hold K)). cond (holds_turn m o) 1 0) e) idle) in
        let one = zero_sums (λ (q : SeatView K T). cond (holds_turn m q.hold) 1 0) kept.all p h f.is in
        let is_one : cond (holds_turn m p.hold) 1 0 ≡ 1 = ap (λ (o : Option (Hold K)). cond {A = ℕ} (holds_turn m o) 1 0) f.holds ∙ ap (λ (b : Bool). cond {A = ℕ} b 1 0) (eq-eqb hold.slot m f.slot) in
        omega (arith, whole (λ (q : SeatView K T). cond (holds_turn m q.hold) 1 0)))

    pool_free : (m turn top : ℕ) (t : PoolStanding T) (o : Option ℕ) → IsPoolTurn same_plan stamp_of m turn top s.homes kept.all t o → IsPoolFree same_plan stamp_of m turn s.homes kept.all t
    pool_free m turn top t None f = f
    pool_free m turn top t (Some h) (p, hold, f) = absurd (
        let none_of = no_total (λ (q : SeatView K T). has_pool q.pooling) v (each_of (λ (q : SeatView K T). q.pooling ≡ None) (λ (q : SeatView K T). has_pool q.pooling ≡ 0) v (λ q e. ap (λ (o : Option (PoolHold T)). has_pool o) e) still) in
        let one = zero_sums (λ (q : SeatView K T). has_pool q.pooling) kept.all p h f.is in
        let is_one : has_pool p.pooling ≡ 1 = ap (λ (o : Option (PoolHold T)). has_pool o) f.holds in
        omega (arith, whole (λ (q : SeatView K T). has_pool q.pooling)))

    -- the pool as it stands at home
    pub pool_home : get_elem? s.homes (length key.opening.value.items) ≡ some (some (OfPool kept.pool.last))
    pool_home = let m = length key.opening.value.items in (pool_free m (get_or s.words (24 + 8 * m) 0) (get_or s.words (26 + 8 * m) 0) kept.pool kept.pool.holder kept.core.pooled.turn_is).home

    -- the module m as it stands at home
    pub at_home : (m : ℕ) → m < length key.opening.value.items → (y : K) × (get_elem? s.homes m ≡ some (some (OfModule y)))
    at_home m h = let found = there kept.mods m (omega (arith, kept.core.stock)) in let f = kept.core.standing m found.0 found.1 in let free = is_free m (get_or s.words (24 + 8 * m) 0) found.0 found.0.holder f.turn_is in (found.0.last, free.home)

    pub closes : (modules : List K) (pool : PoolState T) → length modules ≡ length key.opening.value.items → ((m : ℕ) (y : K) → m < length key.opening.value.items → get_elem? s.homes m ≡ some (some (OfModule y)) → get_elem? modules m ≡ some y)
        → ((p : PoolState T) → get_elem? s.homes (length key.opening.value.items) ≡ some (some (OfPool p)) → p ≡ pool)
        → IsClosing history extends marks same_plan key.lengths.value.items (get_or s.words 0 0) v modules pool
    closes modules pool count same same_pool = let core = kept.core in
        let In : SeatView K T → Type 0 = λ p. (get_elem? kept.all p.number ≡ some p) × (kept.owner p.number ≡ id) in
        let found : (m : ℕ) → m < length key.opening.value.items → (t : Standing K) × (get_elem? kept.mods m ≡ some t) = λ m h. there kept.mods m (omega (arith, core.stock)) in
        let free : (m : ℕ) (t : Standing K) → get_elem? kept.mods m ≡ some t → IsFree history extends marks m (get_or s.words (24 + 8 * m) 0) s.homes kept.all t = λ m t e. is_free m (get_or s.words (24 + 8 * m) 0) t t.holder (core.standing m t e).turn_is in
        let stands : (m : ℕ) (y : K) (t : Standing K) → get_elem? modules m ≡ some y → get_elem? kept.mods m ≡ some t → t.last ≡ y
        = λ m y t e f. let h : m < length key.opening.value.items = (let b = at_below modules m y e in omega arith) in some-injective t.last y (sym (same m t.last h (free m t f).home) ∙ e) in
        let pool_is : kept.pool.last ≡ pool = same_pool kept.pool.last pool_home in
        record {
          draws = λ x. whole (λ p. stamped x p.draws) ∙ core.drawn.each_once x;
          stamps = λ x. same_totals (λ y. stamp_entered x (history y)) (λ t. stamp_entered x t.past) modules kept.mods (count ∙ sym core.stock) (λ m y t e f. ap (stamp_entered x) (ap history (sym (stands m y t e f)) ∙ (free m t f).whole)) ∙ core.stamps x;
          cursors = λ c h. let g = core.given c h in (
            get_or s.words (8 + c) 0,
            (λ x. whole (λ p. claimed c x p.claims) ∙ g.each_once x),
            each_of In (λ p. 0 < dried c p.dry → get_or key.lengths.value.items c 0 ≤ get_or s.words (8 + c) 0) v (λ p e. g.dry_at p.number p e.0) (kept.tied.found id v at),
          );
          completes = each_of In (Completes history extends modules) v
              (λ p here m y e. let h : m < length key.opening.value.items = (let b = at_below modules m y e in omega arith) in let t = found m h in let f = core.standing m t.0 t.1 in
              let is = stands m y t.0 e t.1 in let all_in : history y ≡ t.0.past = ap history (sym is) ∙ (free m t.0 t.1).whole in (
                (λ x g. let a = f.seen p.number p x here.0 g in (subst (extends x) is a.0, subst (λ (l : List (ℕ × ℕ)). Each (λ e. get_or p.tops m 0 ≤ e.1) (drop (length (history x)) l)) (sym all_in) a.1)),
                λ row stamp. let a = zero_sums (λ (q : SeatView K T). drawn_in m row stamp q.draws) kept.all p p.number here.0 in let b = ap (entered row stamp) all_in in omega (arith, f.bag row stamp),
              ))
              (kept.tied.found id v at);
          entries = λ m y e row stamp. let h : m < length key.opening.value.items = (let b = at_below modules m y e in omega arith) in let t = found m h in
              ap (entered row stamp) (ap history (sym (stands m y t.0 e t.1)) ∙ (free m t.0 t.1).whole) ∙ ((core.standing m t.0 t.1).bag row stamp ∙ sym (whole (λ p. drawn_in m row stamp p.draws)));
          made = λ m y e place. let h : m < length key.opening.value.items = (let b = at_below modules m y e in omega arith) in let t = found m h in let is = stands m y t.0 e t.1 in
              whole (λ p. made_at m place p.made) ∙ ((core.standing m t.0 t.1).made place ∙ ap (once_below place) (sym (free m t.0 t.1).marks_are.0 ∙ ap (λ (x : K). length (marks x)) is));
          owed = λ m y e. let h : m < length key.opening.value.items = (let b = at_below modules m y e in omega arith) in let t = found m h in let is = stands m y t.0 e t.1 in
              whole (λ p. get_or p.owed m 0) ∙ ((core.standing m t.0 t.1).owes ∙ (sym (free m t.0 t.1).marks_are.1 ∙ ap (λ (x : K). unended (marks x)) is));
          counted = same_totals (λ y. length (history y)) (λ t. length t.past) modules kept.mods (count ∙ sym core.stock) (λ m y t e f. ap length (ap history (sym (stands m y t e f)) ∙ (free m t f).whole)) ∙ core.counted;
          moved = λ place. whole (λ p. moved_at place p.moves) ∙ (core.pooled.moved place ∙ ap (λ (x : PoolState T). once_below place (length x.moves)) pool_is);
          stand = each_of In (λ p. Each (λ (q : ℕ × Move T). get_elem? pool.moves q.0 ≡ some q.1) p.moves) v
              (λ p here. subst (λ (x : PoolState T). Each (λ (q : ℕ × Move T). get_elem? x.moves q.0 ≡ some q.1) p.moves) pool_is (core.pooled.stand p.number p here.0)) (kept.tied.found id v at);
          later = each_of In (λ p. (x : PoolState T) → p.pool_saw ≡ Some x → IsLaterPool same_plan x pool) v
              (λ p here x e. subst (IsLaterPool same_plan x) pool_is (core.pooled.seen p.number p x here.0 e)) (kept.tied.found id v at);
        }
