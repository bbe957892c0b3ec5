-- The told routings of a run of the core that has ended account for each arrival, entry, key and result.
use Rattle.std.proofs.Common.{◌≡◌, ◌⊎◌, inl, inr, ⊎_elim, ℕ, zero, suc, ◌+◌, Bool, true, false, cond, List, [], ◌∷◌, ◌++◌, length, set, take, Option, Some, refl, ap, sym, ◌∙◌, arith, subst}
use Rattle.std.specs.Prelude.{◌==◌, map, replicate, All, Contains, slice_get, slice_set, slice_index}
use Rattle.std.specs.List.{flat_map, range_with_len}
use Rattle.std.specs.List.Sorted.{IsPermutation}
use Rattle.std.specs.Option.{option_map_or}
use Rattle.std.proofs.lemmas.Bool.{false≢true, cases_eq}
use Rattle.std.proofs.lemmas.Option.{slice_get_within, slice_get-get_or}
use Rattle.std.proofs.lemmas.List.{append_assoc, append-nil, map-append, length-set, length-replicate, get_or-set_other}
use Rattle.std.proofs.lemmas.List.Concat.{flat_map-append}
use Rattle.std.proofs.lemmas.List.Elements.{All-nil, All-head, All-tail, All-weaker, All-append, All-contains, All-set, Contains-append_left, Contains-append_right, Contains-append_cases}
use Rattle.std.proofs.lemmas.List.Sorted.{IsPermutation-refl, IsPermutation-trans, IsPermutation-append_left, IsPermutation-append_right}
use Rattle.sq_value.specs.Rank.{Rank}
use Rattle.sq_value.specs.Relation.{Relation}
use Rattle.sq_value.specs.declared.value.Value.{Value}
use Rattle.sq_value.specs.declared.value.Truth.{Truth}
use Rattle.sq_expr.specs.declared.block.AliasUse.{AliasUse}
use Rattle.sq_expr.specs.declared.block.Block.{Block}
use Rattle.bag_meaning.specs.Credit.{is_built}
use Rattle.bag_meaning.specs.declared.combo.Built.{Built}
use Rattle.bag_meaning.specs.declared.combo.Combo.{Combo}
use Rattle.bag_meaning.proofs.RangeLemmas.{range_with_len-more}
use Rattle.tuple_span.specs.declared.route.Route.{Route}
use Rattle.tuple_span.specs.declared.route.Route.TheVariants.{Select, Build, Probe}
use Rattle.eddy_meaning.specs.Tuple.{Tuple}
use Rattle.eddy_meaning.specs.Faithful.{IsFaithful}
use Rattle.eddy_meaning.specs.Keys.{rows_of_key}
use Rattle.eddy_meaning.specs.Route.{IsLegal, single, came, came_of_build, log_after, log_with, hopped, with_stamp, AsksFor}
use Rattle.eddy_meaning.specs.Act.{unfinished, found_of}
use Rattle.eddy_meaning.proofs.LogLemmas.{at_end}
use Rattle.eddy_meaning.proofs.MatchLemmas.{All-at, Contains-here, Contains-nil, Contains-cons_cases}
use Rattle.eddy_meaning.proofs.FaithfulLemmas.{IsFaithful-append}
use Rattle.eddy_meaning.proofs.TraceLemmas.{sums_routing, sums_arrival, found-append}
use Rattle.eddy_runs.specs.State.{State, Asked, IsAsked, IsNewKey, IsClaim, IsFetch, IsEnd, empty_state}
use Rattle.eddy_runs.specs.Told.{Told, IsToldRouting}
use Rattle.eddy_runs.specs.Followed.{GaveBuild, IsGiven, IsFollowedBy, AreFollowedBy, IsToldKey, entry_of, entries_told, all_given}
use Rattle.eddy_runs.proofs.KeepLemmas.{asked_set, place_cases, Contains-at, Contains-slice_get}
use Rattle.eddy_runs.proofs.FollowLemmas.{AreFollowedBy-append, AreFollowedBy-push, flat_map_set, flat_map_set_same, more_behind}

-- the tuples that arrived by scans, where these are the next rows of the aliases from one on
abbrev pub claimed : ℕ → List ℕ → List Tuple
claimed a [] = []
claimed a (n ∷ next) = map (single a) (range_with_len 0 n) ++ claimed (a + 1) next

claimed_set : (a : ℕ) (next : List ℕ) (i n : ℕ) → slice_get next i ≡ Some n → IsPermutation (claimed a (set next i (n + 1))) (claimed a next ++ single (a + i) n ∷ [])
claimed_set a [] i n at = absurd cc
claimed_set a (m ∷ next) zero n at =
    let same : m ≡ n = cc in
    let more : map (single a) (range_with_len 0 (n + 1)) ≡ map (single a) (range_with_len 0 n) ++ single a n ∷ [] =
    ap (map (single a)) (range_with_len-more n) ∙ map-append (single a) (range_with_len 0 n) (n ∷ []) in
    let zero' : a + zero ≡ a = omega arith in
    subst (λ (k : ℕ). IsPermutation (map (single a) (range_with_len 0 (n + 1)) ++ claimed (a + 1) next) ((map (single a) (range_with_len 0 k) ++ claimed (a + 1) next) ++ single (a + zero) n ∷ [])) (sym same)
    (subst (λ (b : ℕ). IsPermutation (map (single a) (range_with_len 0 (n + 1)) ++ claimed (a + 1) next) ((map (single a) (range_with_len 0 n) ++ claimed (a + 1) next) ++ single b n ∷ [])) (sym zero')
    (subst (λ (l : List Tuple). IsPermutation (l ++ claimed (a + 1) next) ((map (single a) (range_with_len 0 n) ++ claimed (a + 1) next) ++ single a n ∷ [])) (sym more)
    (more_behind (map (single a) (range_with_len 0 n)) (claimed (a + 1) next) (single a n))))
claimed_set a (m ∷ next) (suc i) n at =
    let further : (a + 1) + i ≡ a + suc i = omega arith in
    subst (IsPermutation (map (single a) (range_with_len 0 m) ++ claimed (a + 1) (set next i (n + 1)))) (sym (append_assoc (map (single a) (range_with_len 0 m)) (claimed (a + 1) next) (single (a + suc i) n ∷ [])))
    (IsPermutation-append_right (map (single a) (range_with_len 0 m)) _ _
    (subst (λ (b : ℕ). IsPermutation (claimed (a + 1) (set next i (n + 1))) (claimed (a + 1) next ++ single b n ∷ [])) further (claimed_set (a + 1) next i n at)))

pub claimed_is : (a : ℕ) (next : List ℕ) (f : ℕ → List Tuple) → ((i n : ℕ) → slice_get next i ≡ Some n → map (single (a + i)) (range_with_len 0 n) ≡ f (a + i)) → claimed a next ≡ flat_map f (range_with_len a (length next))
claimed_is a [] f h = refl
claimed_is a (n ∷ next) f h =
    let zero' : a + zero ≡ a = omega arith in
    let here : map (single a) (range_with_len 0 n) ≡ f a = subst (λ (b : ℕ). map (single b) (range_with_len 0 n) ≡ f b) zero' (h zero n refl) in
    let rest = claimed_is (a + 1) next f (λ i m at.
    let further : a + suc i ≡ (a + 1) + i = omega arith in
    subst (λ (b : ℕ). map (single b) (range_with_len 0 m) ≡ f b) further (h (suc i) m at)) in
    ap (λ (l : List Tuple). l ++ claimed (a + 1) next) here ∙ ap (λ (l : List Tuple). f a ++ l) rest

claimed_none : (a n : ℕ) → claimed a (replicate n 0) ≡ []
claimed_none a zero = refl
claimed_none a (suc n) = claimed_none (a + 1) n

take_next : (xs : List ℕ) (k x : ℕ) → slice_get xs k ≡ Some x → take (k + 1) xs ≡ take k xs ++ x ∷ []
take_next [] k x e = absurd cc
take_next (y ∷ ys) zero x e = let same : y ≡ x = cc in ap (λ (z : ℕ). z ∷ []) same
take_next (y ∷ ys) (suc k) x e =
    let next : suc k + 1 ≡ suc (k + 1) = omega arith in
    ap (λ (n : ℕ). take n (y ∷ ys)) next ∙ ap (λ (l : List ℕ). y ∷ l) (take_next ys k x e)

-- the log after a legal routing has the entry that is told
entries_step : (gives : ℕ → Value → Value → Truth) (block : Block) (tables : List Relation) (log : List Built) (t : Tuple) (route : Route) → IsLegal block t route
    → log_after log t route ≡ log ++ entry_of t route (length (came gives block tables log t route))
entries_step gives block tables log t (Select p) legal = sym (append-nil log)
entries_step gives block tables log t (Probe alias v) legal = sym (append-nil log)
entries_step gives block tables log t (Build alias) legal =
    subst (λ (o : Option ℕ). option_map_or (log_with log alias) o log
    ≡ log ++ cond (length (option_map_or (came_of_build log t alias) o []) == 0) [] (option_map_or (λ row. record { alias = alias; row = row } ∷ []) o [])) (sym legal.part) (by (is_built log alias legal.row))
  where
    by : (b : Bool) → cond b log (log ++ record { alias = alias; row = legal.row } ∷ [])
        ≡ log ++ cond (length (cond b [] (hopped (with_stamp (length log) t) ∷ [])) == 0) [] (record { alias = alias; row = legal.row } ∷ [])
    by true = sym (append-nil log)
    by false = refl

-- and what came is given over it
given_now : (gives : ℕ → Value → Value → Truth) (block : Block) (tables : List Relation) (log : List Built) (t : Tuple) (route : Route) → IsLegal block t route
    → IsGiven gives block tables (log_after log t route) t route (came gives block tables log t route)
given_now gives block tables log t (Select p) legal = refl
given_now gives block tables log t (Probe alias v) legal = refl
given_now gives block tables log t (Build alias) legal =
    subst (λ (o : Option ℕ). GaveBuild (option_map_or (log_with log alias) o log) t alias (option_map_or (came_of_build log t alias) o [])) (sym legal.part)
    (record { row = legal.row; part = legal.part; how = by (is_built log alias legal.row) refl })
  where
    by : (b : Bool) → is_built log alias legal.row ≡ b
        → ((cond b [] (hopped (with_stamp (length log) t) ∷ []) ≡ []) × (is_built (cond b log (log ++ record { alias = alias; row = legal.row } ∷ [])) alias legal.row ≡ true))
        ⊎ ((k : ℕ) × (slice_get (cond b log (log ++ record { alias = alias; row = legal.row } ∷ [])) k ≡ Some (record { alias = alias; row = legal.row }))
        × (cond b [] (hopped (with_stamp (length log) t) ∷ []) ≡ hopped (with_stamp k t) ∷ []))
    by true e = inl (refl, e)
    by false e = inr (length log, at_end log record { alias = alias; row = legal.row }, refl)

-- keys that are there stay told where more is told
told_more : (block : Block) (tables : List Relation) (tolds : List Told) (told : Told) (alias : ℕ) (key : Rank) → IsToldKey block tables tolds alias key → IsToldKey block tables (tolds ++ told ∷ []) alias key
told_more block tables tolds told alias key h = record { told = h.told; in' = Contains-append_left tolds (told ∷ []) h.told h.in'; asks = h.asks }

-- a key stays asked where its entry is written anew, and none comes
asked_unset : (asked : List Asked) (place : ℕ) (k l : Asked) → slice_get asked place ≡ Some k → l.alias ≡ k.alias → l.key ≡ k.key
    → (alias : ℕ) (key : Rank) → IsAsked (slice_set asked place l) alias key → IsAsked asked alias key
asked_unset asked place k l at same_alias same_key alias key h =
    let there = Contains-slice_get (slice_set asked place l) h.k h.in' in
    ⊎_elim (λ here. record {
      k = k;
      in' = Contains-at asked place k at;
      of = sym same_alias ∙ ap (λ (x : Asked). x.alias) (sym here.1) ∙ h.of;
      is = sym same_key ∙ ap (λ (x : Asked). x.key) (sym here.1) ∙ h.is;
    }) (λ old. record { k = h.k; in' = Contains-at asked there.0 h.k old; of = h.of; is = h.is }) (place_cases asked place there.0 l h.k there.1)

module _ (gives : ℕ → Value → Value → Truth) (block : Block) (tables : List Relation) where
  -- the rows of an asked key, and the tuples of those that were fetched
  abbrev pub rows_asked : Asked → List ℕ
  rows_asked k =
      option_map_or (λ (u : AliasUse). option_map_or (λ column. rows_of_key block tables k.alias column k.key) u.access.look_up []) (slice_get block.aliases k.alias) []

  abbrev pub fetched_by : Asked → List Tuple
  fetched_by k = map (single k.alias) (take k.fetched (rows_asked k))

  rows_are : (k : Asked) (u : AliasUse) (column : ℕ) → slice_get block.aliases k.alias ≡ Some u → u.access.look_up ≡ Some column → rows_asked k ≡ rows_of_key block tables k.alias column k.key
  rows_are k u column used look_up =
      ap (λ (o : Option AliasUse). option_map_or (λ (v : AliasUse). option_map_or (λ c. rows_of_key block tables k.alias c k.key) v.access.look_up []) o []) used
      ∙ ap (λ (o : Option ℕ). option_map_or (λ c. rows_of_key block tables k.alias c k.key) o []) look_up

  -- what the told routings of a run account for so far
  pub record Follows (tolds : List Told) (s : State) : Type 0 where
    pub given : List (List Tuple)
    pub each : AreFollowedBy gives block tables s.log tolds given
    pub entries : entries_told tolds ≡ s.log
    pub moved : IsPermutation ((claimed 0 s.next ++ flat_map fetched_by s.asked) ++ unfinished block (all_given given)) (map (λ (told : Told). told.tuple) tolds ++ s.pending)
    pub found : found_of block (all_given given) ≡ s.results
    pub asks : (alias : ℕ) (key : Rank) → IsAsked s.asked alias key → IsToldKey block tables tolds alias key
    pub answers : (alias : ℕ) (key : Rank) → IsToldKey block tables tolds alias key → IsAsked s.asked alias key
    pub wide : length s.next ≡ length block.aliases
    pub unscanned : (alias : ℕ) (u : AliasUse) → slice_get block.aliases alias ≡ Some u → u.access.scan ≡ false → slice_index s.next alias ≡ 0
    pub whole : All (λ (k : Asked). k.ended ≡ true → k.fetched ≡ length (rows_asked k)) s.asked

  pub follows_start : Follows [] (empty_state block)
  follows_start = record {
    given = [];
    each = tt;
    entries = refl;
    moved = subst (λ (l : List Tuple). IsPermutation ((l ++ []) ++ []) []) (sym (claimed_none 0 (length block.aliases))) (IsPermutation-refl []);
    found = refl;
    asks = λ alias key a. absurd (Contains-nil a.k a.in');
    answers = λ alias key h. absurd (Contains-nil h.told h.in');
    wide = length-replicate (length block.aliases) 0;
    unscanned = λ alias u used closed. none_of (length block.aliases) alias;
    whole = All-nil (λ (k : Asked). k.ended ≡ true → k.fetched ≡ length (rows_asked k));
  }
    where
      none_of : (n a : ℕ) → slice_index (replicate n 0) a ≡ 0
      none_of zero a = refl
      none_of (suc n) zero = refl
      none_of (suc n) (suc a) = none_of n a

  pub follows_claim : (tolds : List Told) (old new : State) (alias : ℕ) → Follows tolds old → IsClaim block tables old new alias → Follows tolds new
  follows_claim tolds old new alias h step = subst (Follows tolds) (sym step.is) (record {
    given = h.given;
    each = h.each;
    entries = h.entries;
    moved = IsPermutation-trans _ _ _
        (IsPermutation-append_left (unfinished block (all_given h.given)) _ _
        (IsPermutation-trans _ _ _ (IsPermutation-append_left (flat_map fetched_by old.asked) _ _ (claimed_set 0 old.next alias row at)) (more_behind (claimed 0 old.next) (flat_map fetched_by old.asked) (single (0 + alias) row))))
        (subst (λ (a : ℕ). IsPermutation (((claimed 0 old.next ++ flat_map fetched_by old.asked) ++ single a row ∷ []) ++ unfinished block (all_given h.given)) (map (λ (told : Told). told.tuple) tolds ++ (old.pending ++ single alias row ∷ []))) (sym same)
        (sums_arrival block (claimed 0 old.next ++ flat_map fetched_by old.asked) (all_given h.given) (map (λ (told : Told). told.tuple) tolds) old.pending (single alias row) h.moved));
    found = h.found;
    asks = h.asks;
    answers = h.answers;
    wide = length-set old.next alias (row + 1) ∙ h.wide;
    unscanned = λ a u used closed. ⊎_elim
        (λ here. absurd (false≢true (sym closed ∙ ap (λ (v : AliasUse). v.access.scan) (some_same u step.u (sym used ∙ ap (slice_get block.aliases) here ∙ step.at)) ∙ step.scanned)))
        (λ other. get_or-set_other old.next alias a (row + 1) 0 other ∙ h.unscanned a u used closed) (cases_eq a alias);
    whole = h.whole;
  })
    where
      row : ℕ
      row = slice_index old.next alias

      same : 0 + alias ≡ alias
      same = omega arith

      at : slice_get old.next alias ≡ Some (slice_index old.next alias)
      at = slice_get-get_or old.next alias 0 (omega (arith, h.wide, slice_get_within block.aliases alias step.u step.at))

      some_same : {X : Type 0} (i j : X) → Some i ≡ Some j → i ≡ j
      some_same i j e = cc

  pub follows_fetch : (tolds : List Told) (old new : State) (place : ℕ) → Follows tolds old → IsFetch block tables old new place → Follows tolds new
  follows_fetch tolds old new place h step = subst (Follows tolds) (sym step.is) (record {
    given = h.given;
    each = h.each;
    entries = h.entries;
    moved = IsPermutation-trans _ _ _
        (IsPermutation-append_left (unfinished block (all_given h.given)) _ _
        (subst (IsPermutation (claimed 0 old.next ++ flat_map fetched_by (slice_set old.asked place l))) (sym (append_assoc (claimed 0 old.next) (flat_map fetched_by old.asked) (single step.k.alias step.row ∷ [])))
        (IsPermutation-append_right (claimed 0 old.next) _ _ (flat_map_set fetched_by old.asked place step.k l (single step.k.alias step.row) step.at longer))))
        (sums_arrival block (claimed 0 old.next ++ flat_map fetched_by old.asked) (all_given h.given) (map (λ (told : Told). told.tuple) tolds) old.pending (single step.k.alias step.row) h.moved);
    found = h.found;
    asks = λ alias key a. h.asks alias key (asked_unset old.asked place step.k l step.at refl refl alias key a);
    answers = λ alias key k. asked_set old.asked place step.k l step.at refl refl alias key (h.answers alias key k);
    wide = h.wide;
    unscanned = h.unscanned;
    whole = All-set (λ (k : Asked). k.ended ≡ true → k.fetched ≡ length (rows_asked k)) old.asked place l (λ over. absurd (still (All-at (λ (k : Asked). k.ended ≡ true → k.fetched ≡ length (rows_asked k)) old.asked place step.k h.whole step.at over))) h.whole;
  })
    where
      l : Asked
      l = record step.k { fetched = step.k.fetched + 1 }

      rows : rows_asked step.k ≡ rows_of_key block tables step.k.alias step.column step.k.key
      rows = rows_are step.k step.u step.column step.used step.look_up

      next : slice_get (rows_asked step.k) step.k.fetched ≡ Some step.row
      next = subst (λ (r : List ℕ). slice_get r step.k.fetched ≡ Some step.row) (sym rows) step.is_next

      longer : map (single step.k.alias) (take (step.k.fetched + 1) (rows_asked step.k)) ≡ fetched_by step.k ++ single step.k.alias step.row ∷ []
      longer = ap (map (single step.k.alias)) (take_next (rows_asked step.k) step.k.fetched step.row next) ∙ map-append (single step.k.alias) (take step.k.fetched (rows_asked step.k)) (step.row ∷ [])

      still : step.k.fetched ≡ length (rows_asked step.k) → ⊥
      still e = let low = slice_get_within (rows_asked step.k) step.k.fetched step.row next in omega (arith, e, low)

  pub follows_end : (tolds : List Told) (old new : State) (place : ℕ) → Follows tolds old → IsEnd gives block tables old new place → Follows tolds new
  follows_end tolds old new place h step = subst (Follows tolds) (sym step.is) (record {
    given = h.given;
    each = h.each;
    entries = h.entries;
    moved = subst (λ (l : List Tuple). IsPermutation ((claimed 0 old.next ++ l) ++ unfinished block (all_given h.given)) (map (λ (told : Told). told.tuple) tolds ++ old.pending))
        (sym (flat_map_set_same fetched_by old.asked place step.k (record step.k { ended = true }) step.at refl)) h.moved;
    found = h.found;
    asks = λ alias key a. h.asks alias key (asked_unset old.asked place step.k (record step.k { ended = true }) step.at refl refl alias key a);
    answers = λ alias key k. asked_set old.asked place step.k (record step.k { ended = true }) step.at refl refl alias key (h.answers alias key k);
    wide = h.wide;
    unscanned = h.unscanned;
    whole = All-set (λ (k : Asked). k.ended ≡ true → k.fetched ≡ length (rows_asked k)) old.asked place (record step.k { ended = true })
        (λ over. sym step.all ∙ ap length (sym (rows_are step.k step.u step.column step.used step.look_up))) h.whole;
  })

  none_fetched : (more : List Asked) → All (λ (k : Asked). k.fetched ≡ 0) more → flat_map fetched_by more ≡ []
  none_fetched [] h = refl
  none_fetched (k ∷ more) h =
      let first : k.fetched ≡ 0 = All-head (λ (x : Asked). x.fetched ≡ 0) k more h in
      ap (λ (n : ℕ). map (single k.alias) (take n (rows_asked k)) ++ flat_map fetched_by more) first ∙ none_fetched more (All-tail (λ (x : Asked). x.fetched ≡ 0) k more h)

  pub follows_routing : (tolds : List Told) (old new : State) (place : ℕ) (told : Told) → Follows tolds old → All (IsFaithful gives block tables old.log) old.pending
      → IsToldRouting gives block tables old new place told → Follows (tolds ++ told ∷ []) new
  follows_routing tolds old new place told h all routing = record {
    given = h.given ++ cs ∷ [];
    each = AreFollowedBy-push gives block tables new.log tolds h.given told cs
        (subst (λ (l : List Built). AreFollowedBy gives block tables l tolds h.given) (sym grows) (AreFollowedBy-append gives block tables old.log entry tolds h.given h.each)) followed;
    entries = flat_map-append (λ (x : Told). entry_of x.tuple x.route x.count) tolds (told ∷ [])
        ∙ ap (λ (l : List Built). entries_told tolds ++ l) (append-nil (entry_of told.tuple told.route told.count)) ∙ ap (λ (l : List Built). l ++ entry_of told.tuple told.route told.count) h.entries
        ∙ ap (λ (l : List Built). old.log ++ l) entry_is ∙ sym grows;
    moved = subst (λ (n : List ℕ). IsPermutation ((claimed 0 n ++ flat_map fetched_by new.asked) ++ unfinished block (all_given (h.given ++ cs ∷ []))) (map (λ (x : Told). x.tuple) (tolds ++ told ∷ []) ++ new.pending)) (sym routing.step.next)
        (subst (λ (l : List Tuple). IsPermutation ((claimed 0 old.next ++ l) ++ unfinished block (all_given (h.given ++ cs ∷ []))) (map (λ (x : Told). x.tuple) (tolds ++ told ∷ []) ++ new.pending)) (sym fetched)
        (subst (λ (l : List Tuple). IsPermutation ((claimed 0 old.next ++ flat_map fetched_by old.asked) ++ unfinished block l) (map (λ (x : Told). x.tuple) (tolds ++ told ∷ []) ++ new.pending)) (sym given)
        (subst (λ (l : List Tuple). IsPermutation ((claimed 0 old.next ++ flat_map fetched_by old.asked) ++ unfinished block (all_given h.given ++ cs)) (l ++ new.pending)) (sym tuples)
        (subst (λ (l : List Tuple). IsPermutation ((claimed 0 old.next ++ flat_map fetched_by old.asked) ++ unfinished block (all_given h.given ++ cs)) ((map (λ (x : Told). x.tuple) tolds ++ routing.step.t ∷ []) ++ l)) (sym routing.step.pending)
        (sums_routing block (claimed 0 old.next ++ flat_map fetched_by old.asked) (all_given h.given) (map (λ (x : Told). x.tuple) tolds) old.pending place routing.step.t cs routing.step.at h.moved)))));
    found = ap (found_of block) given ∙ sym (found-append block (all_given h.given) cs) ∙ ap (λ (l : List Combo). l ++ found_of block cs) h.found ∙ sym routing.step.results;
    asks = λ alias key a. asked_then alias key a (Contains-append_cases old.asked routing.step.asked.more a.k (subst (λ (l : List Asked). Contains l a.k) routing.step.asked.is a.in'));
    answers = λ alias key k. answer_then alias key k (Contains-append_cases tolds (told ∷ []) k.told k.in');
    wide = ap length routing.step.next ∙ h.wide;
    unscanned = λ alias u used closed. ap (λ (l : List ℕ). slice_index l alias) routing.step.next ∙ h.unscanned alias u used closed;
    whole = subst (All (λ (k : Asked). k.ended ≡ true → k.fetched ≡ length (rows_asked k))) (sym routing.step.asked.is)
        (All-append (λ (k : Asked). k.ended ≡ true → k.fetched ≡ length (rows_asked k)) old.asked routing.step.asked.more h.whole
        (All-weaker (IsNewKey block tables routing.step.t told.route old.asked) (λ (k : Asked). k.ended ≡ true → k.fetched ≡ length (rows_asked k)) (λ k n over. absurd (false≢true (sym n.open' ∙ over))) routing.step.asked.more routing.step.asked.new'));
  }
    where
      cs : List Tuple
      cs = came gives block tables old.log routing.step.t told.route

      entry : List Built
      entry = entry_of routing.step.t told.route (length (came gives block tables old.log routing.step.t told.route))

      grows : new.log ≡ old.log ++ entry_of routing.step.t told.route (length (came gives block tables old.log routing.step.t told.route))
      grows = routing.step.log ∙ entries_step gives block tables old.log routing.step.t told.route routing.step.legal

      entry_is : entry_of told.tuple told.route told.count ≡ entry_of routing.step.t told.route (length (came gives block tables old.log routing.step.t told.route))
      entry_is = ap (λ (t : Tuple). entry_of t told.route told.count) routing.tuple ∙ ap (entry_of routing.step.t told.route) routing.count

      given : all_given (h.given ++ came gives block tables old.log routing.step.t told.route ∷ []) ≡ all_given h.given ++ came gives block tables old.log routing.step.t told.route
      given = flat_map-append (λ (ts : List Tuple). ts) h.given (cs ∷ []) ∙ ap (λ (l : List Tuple). all_given h.given ++ l) (append-nil cs)

      fetched : flat_map fetched_by new.asked ≡ flat_map fetched_by old.asked
      fetched =
          ap (flat_map fetched_by) routing.step.asked.is ∙ flat_map-append fetched_by old.asked routing.step.asked.more
          ∙ ap (λ (l : List Tuple). flat_map fetched_by old.asked ++ l) (none_fetched routing.step.asked.more (All-weaker (IsNewKey block tables routing.step.t told.route old.asked) (λ (k : Asked). k.fetched ≡ 0) (λ k n. n.fetched) routing.step.asked.more routing.step.asked.new'))
          ∙ append-nil (flat_map fetched_by old.asked)

      tuples : map (λ (x : Told). x.tuple) (tolds ++ told ∷ []) ≡ map (λ (x : Told). x.tuple) tolds ++ routing.step.t ∷ []
      tuples = map-append (λ (x : Told). x.tuple) tolds (told ∷ []) ∙ ap (λ (t : Tuple). map (λ (x : Told). x.tuple) tolds ++ t ∷ []) routing.tuple

      faithful : IsFaithful gives block tables new.log told.tuple
      faithful =
          subst (λ (l : List Built). IsFaithful gives block tables l told.tuple) (sym grows)
          (IsFaithful-append gives block tables old.log entry told.tuple (subst (IsFaithful gives block tables old.log) (sym routing.tuple) (All-at (IsFaithful gives block tables old.log) old.pending place routing.step.t all routing.step.at)))

      followed : IsFollowedBy gives block tables new.log told (came gives block tables old.log routing.step.t told.route)
      followed = record {
        faithful = faithful;
        legal = routing.legal;
        choice = routing.choice;
        given' = subst (λ (l : List Built). IsGiven gives block tables l told.tuple told.route cs) (sym routing.step.log)
            (subst (λ (t : Tuple). IsGiven gives block tables (log_after old.log routing.step.t told.route) t told.route cs) (sym routing.tuple) (given_now gives block tables old.log routing.step.t told.route routing.step.legal));
        count = routing.count;
      }

      asked_then : (alias : ℕ) (key : Rank) → (a : IsAsked new.asked alias key) → Contains old.asked a.k ⊎ Contains routing.step.asked.more a.k → IsToldKey block tables (tolds ++ told ∷ []) alias key
      asked_then alias key a (inl before) = told_more block tables tolds told alias key (h.asks alias key (record { k = a.k; in' = before; of = a.of; is = a.is }))
      asked_then alias key a (inr now) =
          let new' = All-contains (IsNewKey block tables routing.step.t told.route old.asked) routing.step.asked.more a.k routing.step.asked.new' now in
          record {
            told = told;
            in' = Contains-append_right tolds (told ∷ []) told (Contains-here told []);
            asks = subst (λ (b : ℕ). AsksFor block tables told.tuple told.route b key) a.of
                (subst (λ (r : Rank). AsksFor block tables told.tuple told.route a.k.alias r) a.is (subst (λ (t : Tuple). AsksFor block tables t told.route a.k.alias a.k.key) (sym routing.tuple) new'.asks));
          }

      answer_then : (alias : ℕ) (key : Rank) → (k : IsToldKey block tables (tolds ++ told ∷ []) alias key) → Contains tolds k.told ⊎ Contains (told ∷ []) k.told → IsAsked new.asked alias key
      answer_then alias key k (inl before) =
          let a = h.answers alias key (record { told = k.told; in' = before; asks = k.asks }) in
          record { k = a.k; in' = subst (λ (l : List Asked). Contains l a.k) (sym routing.step.asked.is) (Contains-append_left old.asked routing.step.asked.more a.k a.in'); of = a.of; is = a.is }
      answer_then alias key k (inr now) =
          let own : told ≡ k.told = ⊎_elim (λ e. e) (λ c. absurd (Contains-nil k.told c)) (Contains-cons_cases k.told told [] now) in
          routing.step.asked.each alias key (subst (λ (t : Tuple). AsksFor block tables t told.route alias key) routing.tuple (subst (λ (x : Told). AsksFor block tables x.tuple x.route alias key) (sym own) k.asks))
