-- Each step of the core leaves less to do.
use Rattle.std.proofs.Common.{◌≡◌, ◌⊎◌, inl, inr, ⊎_elim, ℕ, zero, suc, ◌+◌, ◌-◌, ◌*◌, ◌<◌, ◌≤◌, Bool, true, false, cond, List, [], ◌∷◌, ◌++◌, length, get_or, Option, Some, None, refl, ap, sym, ◌∙◌, arith, subst}
use Rattle.std.specs.Prelude.{◌≢◌, ◌^◌, ◌==◌, ◌&&◌, ◌||◌, not, map, filter, take, All, Contains, slice_get, slice_set, slice_index}
use Rattle.std.specs.List.{AllByRecursion, IsDistinct, list_any, range_with_len, remove, sum_by}
use Rattle.std.specs.Option.{option_map_or}
use Rattle.std.specs.Ordering.{is_eq}
use Rattle.std.specs.declared.cmp.Ordering.{Ordering}
use Rattle.std.specs.declared.cmp.Ordering.TheVariants.{Less, Equal, Greater}
use Rattle.std.proofs.Math.Dec.{eqb}
use Rattle.std.proofs.Math.Nat.{pow-zero, pow-succ', pow-suc, suc-mul, mul-le-mul_right, le-mul_of_pos_right}
use Rattle.std.proofs.lemmas.Bool.{cases_eq, and_parts, and_from, eq-eqb, eqb-true, ne_eqb, false≢true}
use Rattle.std.proofs.lemmas.Cmp.{tied_itself}
use Rattle.std.proofs.lemmas.Option.{slice_get_within, get_or_from_slice_get}
use Rattle.std.proofs.lemmas.List.{append-nil, length-map, get_or-set_same, get_or-set_other}
use Rattle.std.proofs.lemmas.List.Elements.{All-cons, All-head, All-tail, All-take, All-filter, All-weaker, Contains-append_right}
use Rattle.std.proofs.lemmas.List.Filters.{length-filter_both}
use Rattle.std.proofs.lemmas.List.FromFn.{length-range_with_len}
use Rattle.std.proofs.lemmas.List.Folds.{list_any-append}
use Rattle.std.proofs.lemmas.List.Sums.{sum_by-cons, sum_by-append, sum_by-le, sum_by-le-sum_by, sum_by-remove, sum_by-set}
use Rattle.std.proofs.lemmas.Map.Steps.{length-le_from_distinct_below}
use Rattle.sq_value.specs.Rank.{Rank, rank_cmp}
use Rattle.sq_value.specs.Relation.{Relation}
use Rattle.sq_value.specs.declared.value.Value.{Value}
use Rattle.sq_value.specs.declared.value.Truth.{Truth}
use Rattle.sq_value.proofs.OrderLemmas.{rank_cmp_total, rank_cmp-Equal}
use Rattle.sq_expr.specs.declared.block.AliasUse.{AliasUse}
use Rattle.sq_expr.specs.declared.block.Block.{Block}
use Rattle.bag_meaning.specs.Bag.{sizes_of}
use Rattle.bag_meaning.specs.Credit.{is_built}
use Rattle.bag_meaning.specs.declared.combo.Built.{Built}
use Rattle.tuple_span.specs.Parts.{part_of}
use Rattle.tuple_span.specs.declared.route.Route.{Route}
use Rattle.tuple_span.specs.declared.route.Route.TheVariants.{Select, Build, Probe}
use Rattle.eddy_meaning.specs.Tuple.{Tuple}
use Rattle.eddy_meaning.specs.Log.{IsInRange, IsBuildLog, rows_built}
use Rattle.eddy_meaning.specs.Faithful.{IsFaithful, is_finished}
use Rattle.eddy_meaning.specs.Hops.{HasHops, hop_bound}
use Rattle.eddy_meaning.specs.Keys.{Mark, has_key, value_at, rows_of_key}
use Rattle.eddy_meaning.specs.Route.{single, hopped, mark_all, mark_done, with_stamp, joined, holds_at, hold_all, conjuncts_of, came, came_of_build, probed}
use Rattle.eddy_meaning.specs.Act.{unfinished, pending_after}
use Rattle.eddy_meaning.proofs.ListLemmas.{AreDistinct}
use Rattle.eddy_meaning.proofs.LogLemmas.{AreDistinct-rows_built, HasNoRepeat-take}
use Rattle.eddy_meaning.proofs.MatchLemmas.{All-at, Contains-nil, Contains-here, Contains-there, Contains-cons_cases, Contains-range}
use Rattle.eddy_meaning.proofs.CountLemmas.{came_hops}
use Rattle.eddy_meaning.proofs.HopLemmas.{hops_below}
use Rattle.eddy_runs.specs.declared.event.Event.{Event}
use Rattle.eddy_runs.specs.declared.event.Event.TheVariants as event
use Rattle.eddy_runs.specs.State.{State, Asked, IsAsked, AskedAfter, IsNewKey, IsStep}
use Rattle.eddy_runs.specs.Reached.{IsReached}
use Rattle.eddy_runs.specs.Work.{longest, worth, scan_left, key_rows, asked_left, is_asked, unasked_left, work_left}

-- a sum of terms that are no greater, one of them less by so much
sum_falls : {X : Type 0} (f g : X → ℕ) (xs : List X) (x : X) (d : ℕ) → Contains xs x → ((y : X) → f y ≤ g y) → f x + d ≤ g x → sum_by f xs + d ≤ sum_by g xs
sum_falls f g [] x d in' le at = absurd (Contains-nil x in')
sum_falls {X} f g (y ∷ ys) x d in' le at =
    ⊎_elim (λ here.
    let at' : f y + d ≤ g y = subst (λ (z : X). f z + d ≤ g z) (sym here) at in
    omega (arith, at', sum_by-cons f y ys, sum_by-cons g y ys, sum_by-le-sum_by f g ys le))
    (λ there. let rest = sum_falls f g ys x d there le at in let first = le y in omega (arith, rest, first, sum_by-cons f y ys, sum_by-cons g y ys))
    (Contains-cons_cases x y ys in')

-- a sum in which one term was written anew
sum_set : {X : Type 0} (f : X → ℕ) (xs : List X) (i : ℕ) (k l : X) → slice_get xs i ≡ Some k → sum_by f (slice_set xs i l) + f k ≡ sum_by f xs + f l
sum_set {X} f xs i k l at =
    subst (λ (x : X). sum_by f (slice_set xs i l) + f x ≡ sum_by f xs + f l) (get_or_from_slice_get xs i k k at) (sum_by-set f xs i l k (slice_get_within xs i k at))

any_set : {X : Type 0} (p : X → Bool) (xs : List X) (i : ℕ) (k l : X) → slice_get xs i ≡ Some k → p l ≡ p k → list_any p (slice_set xs i l) ≡ list_any p xs
any_set p [] i k l at e = refl
any_set {X} p (x ∷ xs) zero k l at e = let same : x ≡ k = cc in ap (λ (b : Bool). b || list_any p xs) (e ∙ ap p (sym same))
any_set {X} p (x ∷ xs) (suc i) k l at e = ap (λ (b : Bool). p x || b) (any_set p xs i k l at e)

-- no size is greater than the longest
size_le : (ns : List ℕ) (a : ℕ) → slice_index ns a ≤ longest ns
size_le [] a = omega arith
size_le (n ∷ ns) zero = omega arith
size_le (n ∷ ns) (suc a) = let rest = size_le ns a in omega (arith, rest)

or_false : (a b : Bool) → (a || b) ≡ false → (a ≡ false) × (b ≡ false)
or_false true b e = absurd (false≢true (sym e))
or_false false b e = (refl, e)

-- numbers below another, none twice, are no more than it
none_equal : (x : ℕ) (ys : List ℕ) → list_any (λ (y : ℕ). y == x) ys ≡ false → AllByRecursion (λ y. eqb x y ≡ false) ys
none_equal x [] e = tt
none_equal x (y ∷ ys) e =
    let both = or_false (y == x) (list_any (λ (z : ℕ). z == x) ys) e in (
      ne_eqb x y (λ same. false≢true (sym both.0 ∙ eq-eqb y x (sym same))),
      none_equal x ys both.1,
    )

distinct : (rs : List ℕ) → AreDistinct rs → IsDistinct eqb rs
unfolding IsDistinct
distinct [] h = tt
distinct (r ∷ rs) h = (none_equal r rs h.0, distinct rs h.1)

one_below : (n q : ℕ) (rs : List ℕ) → All (λ (r : ℕ). r < n) rs → list_any (eqb q) rs ≡ true → q < n
one_below n q [] low e = absurd (false≢true e)
one_below n q (r ∷ rs) low e = by (eqb q r) (eqb-true q r) (one_below n q rs (All-tail (λ (x : ℕ). x < n) r rs low)) e
  where
    by : (b : Bool) → (b ≡ true → q ≡ r) → (list_any (eqb q) rs ≡ true → q < n) → (b || list_any (eqb q) rs) ≡ true → q < n
    by true same rest e = subst (λ (x : ℕ). x < n) (sym (same refl)) (All-head (λ (x : ℕ). x < n) r rs low)
    by false same rest e = rest e

few : (n : ℕ) (rs : List ℕ) → AreDistinct rs → All (λ (r : ℕ). r < n) rs → length rs ≤ n
few n rs h low = length-le_from_distinct_below rs n (distinct rs h) (λ q e. one_below n q rs low e)

-- a power of a number above 0
pow_some : (b k : ℕ) → 1 ≤ (b + 1) ^ k
pow_some b zero = omega (arith, pow-zero (b + 1))
pow_some b (suc k) =
    let more = le-mul_of_pos_right {m = b + 1} ((b + 1) ^ k) (omega arith) in
    omega (arith, pow_some b k, more, pow-suc (b + 1) k)

pow_next : (b k : ℕ) → (b + 1) ^ (k + 1) ≡ b * (b + 1) ^ k + (b + 1) ^ k
pow_next b k =
    let more : k + 1 ≡ suc k = omega arith in
    let next : b + 1 ≡ suc b = omega arith in
    ap (λ (n : ℕ). (b + 1) ^ n) more ∙ pow-succ' (b + 1) k ∙ ap (λ (n : ℕ). n * (b + 1) ^ k) next ∙ suc-mul b ((b + 1) ^ k)

-- of so much less, so many times less
times_less : (a b w : ℕ) → a + 1 ≤ b → a * w + w ≤ b * w
times_less a b w le =
    let next : suc a ≡ a + 1 = omega arith in
    let more = mul-le-mul_right {m = suc a} {n = b} w (omega arith) in
    omega (arith, more, suc-mul a w)

module _ (block : Block) (tables : List Relation) where
  abbrev R : ℕ
  R = longest (sizes_of block tables)

  abbrev W : ℕ
  W = worth block tables 0

  abbrev size : ℕ → ℕ
  size alias = slice_index (sizes_of block tables) alias

  -- what a tuple is worth beside one with a hop more
  worth_more : (hops : ℕ) → hops + 1 ≤ hop_bound block → worth block tables hops ≡ R * worth block tables (hops + 1) + worth block tables (hops + 1)
  worth_more hops low =
      let same : hop_bound block - hops ≡ (hop_bound block - (hops + 1)) + 1 = omega arith in
      ap (λ (n : ℕ). (R + 1) ^ n) same ∙ pow_next R (hop_bound block - (hops + 1))

  worth_some : (hops : ℕ) → 1 ≤ worth block tables hops
  worth_some hops = pow_some R (hop_bound block - hops)

  -- a row that comes is worth less than its coming
  arrival_less : 1 ≤ R → worth block tables 1 + 1 ≤ W
  arrival_less some =
      let more = worth_more 0 (omega arith) in
      let least = mul-le-mul_right {m = 1} {n = R} (worth block tables 1) some in
      let one = worth_some 1 in
      let single' = suc-mul 0 (worth block tables 1) in
      let next : worth block tables (0 + 1) ≡ worth block tables 1 = refl in
      omega (arith, more, least, one, single')

  -- the rows of an alias that are built are no more than its table has
  rows_below : (alias : ℕ) (log : List Built) → All (IsInRange block tables) log → All (λ (r : ℕ). r < size alias) (rows_built alias log)
  rows_below alias [] h = λ k d low. absurd (omega (arith, low))
  rows_below alias (b ∷ log) h = by (b.alias == alias) (eqb-true b.alias alias) (rows_below alias log (All-tail (IsInRange block tables) b log h))
    where
      by : (same : Bool) → (same ≡ true → b.alias ≡ alias) → All (λ (r : ℕ). r < size alias) (rows_built alias log)
          → All (λ (r : ℕ). r < size alias) (map (λ (x : Built). x.row) (cond same (b ∷ filter (λ (x : Built). x.alias == alias) log) (filter (λ (x : Built). x.alias == alias) log)))
      by true is rest = All-cons (λ (r : ℕ). r < size alias) b.row (rows_built alias log) (subst (λ (a : ℕ). b.row < size a) (is refl) (All-head (IsInRange block tables) b log h).row) rest
      by false is rest = rest

  few_rows : (alias k : ℕ) (log : List Built) → IsBuildLog block tables log → length (rows_built alias (take k log)) ≤ R
  few_rows alias k log h =
      let low = few (size alias) (rows_built alias (take k log)) (AreDistinct-rows_built alias (take k log) (HasNoRepeat-take k log h.no_repeat))
      (rows_below alias (take k log) (All-take (IsInRange block tables) k log h.in_range)) in
      omega (arith, low, size_le (sizes_of block tables) alias)

  -- a tuple that is faithful has a row of some table
  some_row : (gives : ℕ → Value → Value → Truth) (log : List Built) (t : Tuple) → IsFaithful gives block tables log t → 1 ≤ R
  some_row gives log t h = by t.stamp (λ none. row_of none) (λ stamp e. stands stamp e) refl
    where
      from : (a r : ℕ) → part_of t.parts a ≡ Some r → 1 ≤ R
      from a r e = let low = (h.sound.in_range a r e).1 in omega (arith, low, size_le (sizes_of block tables) a)

      row_of : t.stamp ≡ None → 1 ≤ R
      row_of none = let one = h.sound.single none in from one.0 one.1 one.2.part

      stands : (stamp : ℕ) → t.stamp ≡ Some stamp → 1 ≤ R
      stands stamp e = let at = h.stands stamp e in from at.latest.alias at.latest.row at.own

      by : (o : Option ℕ) → (t.stamp ≡ None → 1 ≤ R) → ((stamp : ℕ) → t.stamp ≡ Some stamp → 1 ≤ R) → t.stamp ≡ o → 1 ≤ R
      by None none some e = none e
      by (Some stamp) none some e = some stamp e

  length_filter : {X : Type 0} (p : X → Bool) (xs : List X) → length (filter p xs) ≤ length xs
  length_filter {X} p xs = let both = length-filter_both p (λ (x : X). not (p x)) (λ x. refl) xs in omega (arith, both)

  -- no more tuples come of a route than the longest table has rows
  few_came : (gives : ℕ → Value → Value → Truth) (log : List Built) (t : Tuple) (route : Route) → IsBuildLog block tables log → 1 ≤ R → length (came gives block tables log t route) ≤ R
  few_came gives log t (Select p) built some = by (holds_at gives block tables t.parts p)
    where
      by : (b : Bool) → length (cond b (hopped (mark_done p t) ∷ []) []) ≤ R
      by true = some
      by false = omega arith
  few_came gives log t (Build alias) built some = by (part_of t.parts alias)
    where
      one : (b : Bool) → length (cond b [] (hopped (with_stamp (length log) t) ∷ [])) ≤ R
      one true = omega arith
      one false = some

      by : (o : Option ℕ) → length (option_map_or (came_of_build log t alias) o []) ≤ R
      by None = omega arith
      by (Some row) = one (is_built log alias row)
  few_came gives log t (Probe alias v) built some = by t.stamp
    where
      by : (o : Option ℕ) → length (option_map_or (λ stamp. probed gives block tables (rows_built alias (take stamp log)) t alias (conjuncts_of v)) o []) ≤ R
      by None = omega arith
      by (Some stamp) =
          let test = λ (row : ℕ). hold_all gives block tables (slice_set t.parts alias (Some row)) (conjuncts_of v) in
          let rows = rows_built alias (take stamp log) in
          let long = length-map (filter test rows) (λ (row : ℕ). hopped (mark_all (conjuncts_of v) (joined alias row t))) in
          omega (arith, long, length_filter test rows, few_rows alias stamp log built)

  -- what goes on of a routing is worth less than the routed tuple
  routing_less : (gives : ℕ → Value → Value → Truth) (log : List Built) (pending : List Tuple) (place : ℕ) (t : Tuple) (route : Route) → IsBuildLog block tables log
      → IsFaithful gives block tables log t → HasHops t → is_finished block t ≡ false → slice_get pending place ≡ Some t
      → sum_by (λ (u : Tuple). worth block tables u.hops) (pending_after block pending place (came gives block tables log t route)) + 1 ≤ sum_by (λ (u : Tuple). worth block tables u.hops) pending
  routing_less gives log pending place t route built faithful hops going at =
      let f = λ (u : Tuple). worth block tables u.hops in
      let cs = came gives block tables log t route in
      let X = worth block tables (t.hops + 1) in
      let worth_of = worth_more t.hops (hops_below block tables t faithful.sound hops going) in
      let each : All (λ (c : Tuple). f c ≤ X) (unfinished block cs) = All-filter (λ (c : Tuple). not (is_finished block c)) (λ (c : Tuple). f c ≤ X) cs
      (All-weaker (λ (c : Tuple). c.hops ≡ t.hops + 1) (λ (c : Tuple). f c ≤ X) (λ c e. let same : f c ≡ X = ap (worth block tables) e in omega (arith, same)) cs (came_hops gives block tables log t route)) in
      let sums = sum_by-le f X (unfinished block cs) each in
      let fewer : length (unfinished block cs) ≤ R =
      let all = length_filter (λ (c : Tuple). not (is_finished block c)) cs in omega (arith, all, few_came gives log t route built (some_row gives log t faithful)) in
      let most = mul-le-mul_right {m = length (unfinished block cs)} {n = R} X fewer in
      let removed = sum_by-remove f pending place t (slice_get_within pending place t at) in
      let is : f (get_or pending place t) ≡ f t = ap f (get_or_from_slice_get pending place t t at) in
      let split = sum_by-append f (remove pending place) (unfinished block cs) in
      let one = worth_some (t.hops + 1) in
      omega (arith, worth_of, sums, most, removed, is, split, one)

  -- a key that was asked for is found
  equal_from : (o : Ordering) → is_eq o ≡ true → o ≡ Equal
  equal_from Less e = absurd (false≢true e)
  equal_from Equal e = refl
  equal_from Greater e = absurd (false≢true e)

  asked_from : (asked : List Asked) (alias : ℕ) (key : Rank) → is_asked asked record { alias = alias; key = key } ≡ true → IsAsked asked alias key
  asked_from [] alias key e = absurd (false≢true e)
  asked_from (k ∷ ks) alias key e = by ((k.alias == alias) && is_eq (rank_cmp k.key key)) (and_parts (k.alias == alias) (is_eq (rank_cmp k.key key))) (asked_from ks alias key) e
    where
      by : (b : Bool) → (b ≡ true → ((k.alias == alias) ≡ true) × (is_eq (rank_cmp k.key key) ≡ true)) → (is_asked ks record { alias = alias; key = key } ≡ true → IsAsked ks alias key)
          → (b || is_asked ks record { alias = alias; key = key }) ≡ true → IsAsked (k ∷ ks) alias key
      by true parts rest e =
          let p = parts refl in
          record { k = k; in' = Contains-here k ks; of = eqb-true k.alias alias p.0; is = rank_cmp-Equal k.key key (equal_from (rank_cmp k.key key) p.1) }
      by false parts rest e = let r = rest e in record { k = r.k; in' = Contains-there r.k k ks r.in'; of = r.of; is = r.is }

  not_asked : (asked : List Asked) (alias : ℕ) (key : Rank) → (IsAsked asked alias key → ⊥) → is_asked asked record { alias = alias; key = key } ≡ false
  not_asked asked alias key absent = by (is_asked asked record { alias = alias; key = key }) (asked_from asked alias key)
    where
      by : (b : Bool) → (b ≡ true → IsAsked asked alias key) → b ≡ false
      by true from = absurd (absent (from refl))
      by false from = refl

  or_right : (a b : Bool) → b ≡ true → (a || b) ≡ true
  or_right true b e = refl
  or_right false b e = e

  or_left : (a b : Bool) → a ≡ true → (a || b) ≡ true
  or_left true b e = refl
  or_left false b e = absurd (false≢true e)

  asked_now : (asked : List Asked) (k : Asked) → is_asked (asked ++ k ∷ []) record { alias = k.alias; key = k.key } ≡ true
  asked_now asked k =
      let test = λ (l : Asked). (l.alias == k.alias) && is_eq (rank_cmp l.key k.key) in
      list_any-append test asked (k ∷ []) ∙ or_right (list_any test asked) (list_any test (k ∷ []))
      (or_left (test k) false (and_from (k.alias == k.alias) (is_eq (rank_cmp k.key k.key)) (eq-eqb k.alias k.alias refl) (ap is_eq (tied_itself rank_cmp_total k.key))))

  -- what is left of a key that isn't asked for yet doesn't grow
  unasked_less : (asked more : List Asked) (m : Mark) → unasked_left block tables (asked ++ more) m ≤ unasked_left block tables asked m
  unasked_less asked more m = by (is_asked asked m) (is_asked (asked ++ more) m) (λ e. list_any-append test asked more ∙ or_left (list_any test asked) (list_any test more) e)
    where
      test : Asked → Bool
      test l = (l.alias == m.alias) && is_eq (rank_cmp l.key m.key)

      by : (a b : Bool) → (a ≡ true → b ≡ true) → cond b 0 (key_rows block tables m * W + 1) ≤ cond a 0 (key_rows block tables m * W + 1)
      by true true f = omega arith
      by true false f = absurd (false≢true (f refl))
      by false true f = omega arith
      by false false f = omega arith

  -- a key that is asked for anew takes over what was left of it
  keys_less : (keys : List Mark) (t : Tuple) (route : Route) (old new : List Asked) → AskedAfter block tables t route old new
      → ((alias : ℕ) (key : Rank) → IsAsked new alias key → Contains keys record { alias = alias; key = key })
      → sum_by (asked_left block tables) new + sum_by (unasked_left block tables new) keys ≤ sum_by (asked_left block tables) old + sum_by (unasked_left block tables old) keys
  keys_less keys t route old new h among = by h.more h.is h.few h.new'
    where
      Left : List Asked → ℕ
      Left asked = sum_by (asked_left block tables) asked + sum_by (unasked_left block tables asked) keys

      by : (more : List Asked) → new ≡ old ++ more → length more < 2 → All (IsNewKey block tables t route old) more → Left new ≤ Left old
      by [] is few' fresh = let same : Left new ≡ Left old = ap Left (is ∙ append-nil old) in omega (arith, same)
      by (k ∷ l ∷ ls) is few' fresh = absurd (omega (arith, few'))
      by (k ∷ []) is few' fresh =
          let n = All-head (IsNewKey block tables t route old) k [] fresh in
          let m : Mark = record { alias = k.alias; key = k.key } in
          let rows = key_rows block tables m in
          let none : rows - 0 ≡ rows = omega arith in
          let whole : asked_left block tables k ≡ rows * W + 1 =
          ap (λ (f : ℕ). (rows - f) * W + cond k.ended 0 1) n.fetched ∙ ap (λ (b : Bool). (rows - 0) * W + cond b 0 1) n.open' ∙ ap (λ (r : ℕ). r * W + 1) none in
          let before : unasked_left block tables old m ≡ rows * W + 1 = ap (λ (b : Bool). cond b 0 (rows * W + 1)) (not_asked old k.alias k.key n.absent) in
          let after : unasked_left block tables (old ++ k ∷ []) m ≡ 0 = ap (λ (b : Bool). cond b 0 (rows * W + 1)) (asked_now old k) in
          let in' : Contains keys m = among k.alias k.key (subst (λ (asked : List Asked). IsAsked asked k.alias k.key) (sym is)
          (record { k = k; in' = Contains-append_right old (k ∷ []) k (Contains-here k []); of = refl; is = refl })) in
          let falls = sum_falls (unasked_left block tables (old ++ k ∷ [])) (unasked_left block tables old) keys m (rows * W + 1) in' (unasked_less old (k ∷ [])) (omega (arith, before, after)) in
          let split = sum_by-append (asked_left block tables) old (k ∷ []) in
          let last = sum_by-cons (asked_left block tables) k [] in
          let nil : sum_by (asked_left block tables) [] ≡ 0 = refl in
          subst (λ (asked : List Asked). Left asked ≤ Left old) (sym is) (omega (arith, falls, split, last, nil, whole))

  -- a claim leaves a row less
  scan_less : (old : List ℕ) (alias : ℕ) (u : AliasUse) → slice_get block.aliases alias ≡ Some u → u.access.scan ≡ true → alias < length old → slice_index old alias < size alias
      → sum_by (λ a. scan_left block tables (slice_set old alias (slice_index old alias + 1)) a) (range_with_len 0 (length block.aliases)) + 1
      ≤ sum_by (λ a. scan_left block tables old a) (range_with_len 0 (length block.aliases))
  scan_less old alias u used scan within left =
      sum_falls (λ a. scan_left block tables new a) (λ a. scan_left block tables old a) (range_with_len 0 (length block.aliases)) alias 1
      (Contains-range (length block.aliases) alias (slice_get_within block.aliases alias u used)) (λ a. less a (further a (cases_eq a alias)))
      (let same : slice_index new alias ≡ slice_index old alias + 1 = get_or-set_same old alias (slice_index old alias + 1) 0 within in omega (arith, is old, is new, same, left))
    where
      new : List ℕ
      new = slice_set old alias (slice_index old alias + 1)

      is : (next : List ℕ) → scan_left block tables next alias ≡ size alias - slice_index next alias
      is next = ap (λ (o : Option AliasUse). option_map_or (λ (v : AliasUse). cond v.access.scan (size alias - slice_index next alias) 0) o 0) used
          ∙ ap (λ (b : Bool). cond b (size alias - slice_index next alias) 0) scan

      further : (a : ℕ) → (a ≡ alias) ⊎ (a ≡ alias → ⊥) → slice_index old a ≤ slice_index new a
      further a (inl same) =
          let here : slice_index new alias ≡ slice_index old alias + 1 = get_or-set_same old alias (slice_index old alias + 1) 0 within in
          subst (λ (b : ℕ). slice_index old b ≤ slice_index new b) (sym same) (omega (arith, here))
      further a (inr ne) = let ne' : a ≢ alias = ne in let there : slice_index new a ≡ slice_index old a = get_or-set_other old alias a (slice_index old alias + 1) 0 ne' in omega (arith, there)

      less : (a : ℕ) → slice_index old a ≤ slice_index new a → scan_left block tables new a ≤ scan_left block tables old a
      less a le = by (slice_get block.aliases a)
        where
          open' : (b : Bool) → cond b (size a - slice_index new a) 0 ≤ cond b (size a - slice_index old a) 0
          open' true = omega (arith, le)
          open' false = omega arith

          by : (o : Option AliasUse) → option_map_or (λ (v : AliasUse). cond v.access.scan (size a - slice_index new a) 0) o 0 ≤ option_map_or (λ (v : AliasUse). cond v.access.scan (size a - slice_index old a) 0) o 0
          by None = omega arith
          by (Some v) = open' v.access.scan

  -- an asked key that is written anew stays one of the keys
  unasked_same : (keys : List Mark) (asked : List Asked) (place : ℕ) (k l : Asked) → slice_get asked place ≡ Some k → l.alias ≡ k.alias → l.key ≡ k.key
      → sum_by (unasked_left block tables (slice_set asked place l)) keys ≤ sum_by (unasked_left block tables asked) keys
  unasked_same keys asked place k l at alias key =
      sum_by-le-sum_by (unasked_left block tables (slice_set asked place l)) (unasked_left block tables asked) keys (λ m.
      let test = λ (x : Asked). (x.alias == m.alias) && is_eq (rank_cmp x.key m.key) in
      let one : test l ≡ test k = ap (λ (a : ℕ). (a == m.alias) && is_eq (rank_cmp l.key m.key)) alias ∙ ap (λ (r : Rank). (k.alias == m.alias) && is_eq (rank_cmp r m.key)) key in
      let same : unasked_left block tables (slice_set asked place l) m ≡ unasked_left block tables asked m = ap (λ (b : Bool). cond b 0 (key_rows block tables m * W + 1)) (any_set test asked place k l at one) in
      omega (arith, same))

  rows_are : (alias : ℕ) (key : Rank) (u : AliasUse) (column : ℕ) → slice_get block.aliases alias ≡ Some u → u.access.look_up ≡ Some column
      → key_rows block tables record { alias = alias; key = key } ≡ length (rows_of_key block tables alias column key)
  rows_are alias key u column used look_up =
      ap (λ (o : Option AliasUse). option_map_or (λ (v : AliasUse). option_map_or (λ c. length (rows_of_key block tables alias c key)) v.access.look_up 0) o 0) used
      ∙ ap (λ (o : Option ℕ). option_map_or (λ c. length (rows_of_key block tables alias c key)) o 0) look_up

  -- the pending tuples with a row that came
  with_arrival : (pending : List Tuple) (alias row : ℕ)
      → sum_by (λ (t : Tuple). worth block tables t.hops) (pending ++ single alias row ∷ []) ≡ sum_by (λ (t : Tuple). worth block tables t.hops) pending + worth block tables 1
  with_arrival pending alias row =
      let f = λ (t : Tuple). worth block tables t.hops in
      let split = sum_by-append f pending (single alias row ∷ []) in
      let last = sum_by-cons f (single alias row) [] in
      let nil : sum_by f [] ≡ 0 = refl in
      let is : f (single alias row) ≡ worth block tables 1 = refl in
      omega (arith, split, last, nil, is)

  -- each step leaves less to do
  pub work_falls : (gives : ℕ → Value → Value → Truth) (keys : List Mark) (old new : State) (event : Event) → IsReached gives block tables old → length old.next ≡ length block.aliases
      → IsStep gives block tables old event new → ((alias : ℕ) (key : Rank) → IsAsked new.asked alias key → Contains keys record { alias = alias; key = key })
      → work_left block tables keys new < work_left block tables keys old
  work_falls gives keys old new (event.Claim alias) h wide step among =
      let low = slice_get_within block.aliases alias step.u step.at in
      let scans = scan_less old.next alias step.u step.at step.scanned (omega (arith, low, wide)) step.left in
      let less = times_less _ _ W scans in
      let some : 1 ≤ R = omega (arith, step.left, size_le (sizes_of block tables) alias) in
      subst (λ (s : State). work_left block tables keys s < work_left block tables keys old) (sym step.is)
      (omega (arith, less, with_arrival old.pending alias (slice_index old.next alias), arrival_less some))
  work_falls gives keys old new (event.Route place route) h wide step among =
      let own = All-at (λ (t : Tuple). (is_finished block t ≡ false) × HasHops t) old.pending place step.t h.going step.at in
      let faithful = All-at (IsFaithful gives block tables old.log) old.pending place step.t h.keeps.faithful step.at in
      let less = routing_less gives old.log old.pending place step.t route h.keeps.built faithful own.1 own.0 step.at in
      let scans : sum_by (λ a. scan_left block tables new.next a) (range_with_len 0 (length block.aliases)) * W ≡ sum_by (λ a. scan_left block tables old.next a) (range_with_len 0 (length block.aliases)) * W =
      ap (λ (n : List ℕ). sum_by (λ a. scan_left block tables n a) (range_with_len 0 (length block.aliases)) * W) step.next in
      let pending : sum_by (λ (t : Tuple). worth block tables t.hops) new.pending ≡ sum_by (λ (t : Tuple). worth block tables t.hops) (pending_after block old.pending place (came gives block tables old.log step.t route)) =
      ap (sum_by (λ (t : Tuple). worth block tables t.hops)) step.pending in
      omega (arith, less, scans, pending, keys_less keys step.t route old.asked new.asked step.asked among)
  work_falls gives keys old new (event.Fetch place) h wide step among =
      let k = step.k in
      let l : Asked = record { alias = k.alias; key = k.key; fetched = k.fetched + 1; ended = k.ended } in
      let rows = key_rows block tables record { alias = k.alias; key = k.key } in
      let are = rows_are k.alias k.key step.u step.column step.used step.look_up in
      let low = slice_get_within (rows_of_key block tables k.alias step.column k.key) k.fetched step.row step.is_next in
      let less = times_less (rows - (k.fetched + 1)) (rows - k.fetched) W (omega (arith, are, low)) in
      let sums = sum_set (asked_left block tables) old.asked place k l step.at in
      let others = unasked_same keys old.asked place k l step.at refl refl in
      let table = length_filter (λ row. has_key k.key (value_at block tables k.alias step.column row)) (range_with_len 0 (size k.alias)) in
      let all = length-range_with_len 0 (size k.alias) in
      let some : 1 ≤ R = omega (arith, low, table, all, size_le (sizes_of block tables) k.alias) in
      subst (λ (s : State). work_left block tables keys s < work_left block tables keys old) (sym step.is)
      (omega (arith, less, sums, others, with_arrival old.pending k.alias step.row, arrival_less some))
  work_falls gives keys old new (event.End place) h wide step among =
      let k = step.k in
      let l : Asked = record { alias = k.alias; key = k.key; fetched = k.fetched; ended = true } in
      let rows = key_rows block tables record { alias = k.alias; key = k.key } in
      let open' : asked_left block tables k ≡ (rows - k.fetched) * W + 1 = ap (λ (b : Bool). (rows - k.fetched) * W + cond b 0 1) step.open' in
      let shut : asked_left block tables l ≡ (rows - k.fetched) * W + 0 = refl in
      let sums = sum_set (asked_left block tables) old.asked place k l step.at in
      let others = unasked_same keys old.asked place k l step.at refl refl in
      subst (λ (s : State). work_left block tables keys s < work_left block tables keys old) (sym step.is)
      (omega (arith, open', shut, sums, others))
