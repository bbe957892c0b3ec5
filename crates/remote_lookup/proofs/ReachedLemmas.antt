-- Each match over the tables for a set of keys that holds the needed ones has rows of needed keys alone.
use Rattle.std.proofs.Common.{◌≡◌, ◌⊎◌, inl, inr, ⊎_elim, ℕ, zero, suc, ◌+◌, ◌<◌, Bool, true, false, cond, List, [], ◌∷◌, length, get_or, Option, Some, None, refl, ap, sym, ◌∙◌, arith, subst}
use Rattle.std.specs.Prelude.{◌||◌, ◌==◌, not, ℤ, pos, ◌+ℤ◌, All, Contains, slice_get, option_and_then, is_none}
use Rattle.std.specs.Option.{option_map, option_map_or, unwrap_or}
use Rattle.std.specs.List.{flat_map}
use Rattle.std.proofs.lemmas.Bool.{false≢true, eqb-true, eq-eqb, and_from}
use Rattle.std.proofs.lemmas.Int.{ints}
use Rattle.std.proofs.lemmas.List.{length-map}
use Rattle.std.proofs.lemmas.List.Elements.{All-contains, Contains-append_cases}
use Rattle.std.proofs.lemmas.Option.{slice_get-get_or, get_or_from_slice_get, unwrap_or-slice_get, slice_get-map, slice_get_within}
use Rattle.sq_value.specs.Rank.{Rank, Number, millionths, rank_of}
use Rattle.sq_value.specs.Relation.{Relation, cell}
use Rattle.sq_value.specs.Truth.{is_truth}
use Rattle.sq_value.specs.declared.value.Value.{Value}
use Rattle.sq_value.specs.declared.value.Value.TheVariants as value
use Rattle.sq_value.specs.declared.value.Truth.{Truth}
use Rattle.sq_value.specs.declared.value.Truth.TheVariants.{True}
use Rattle.sq_value.specs.declared.value.Cmp.TheVariants.{Eq}
use Rattle.sq_expr.specs.Fits.{aliases_of, side_aliases}
use Rattle.sq_expr.specs.Meaning.{value_in, truth_of, side_rank, term_number, plus}
use Rattle.sq_expr.specs.Plain.{is_plain}
use Rattle.sq_expr.specs.Reach.{Compares, IsLed, IsReachable}
use Rattle.sq_expr.specs.declared.cond.ColumnOf.{ColumnOf}
use Rattle.sq_expr.specs.declared.cond.Cond.TheVariants.{Compare}
use Rattle.sq_expr.specs.declared.cond.Term.{Term}
use Rattle.sq_expr.specs.declared.cond.Side.{Side}
use Rattle.sq_expr.specs.declared.cond.Side.TheVariants as side
use Rattle.sq_expr.specs.declared.block.AliasUse.{AliasUse}
use Rattle.sq_expr.specs.declared.block.Block.{Block}
use Rattle.sq_expr.specs.declared.block.Conjunct.{Conjunct}
use Rattle.sq_expr.proofs.MeaningLemmas.{truth_of-Compare}
use Rattle.bag_meaning.specs.Bag.{bag, row_count, uses_of, is_match}
use Rattle.bag_meaning.proofs.AgreeLemmas.{truth_agrees}
use Rattle.bag_meaning.proofs.ProductRange.{IsCombination, bag-in_range}
use Rattle.eddy_meaning.proofs.KeyLemmas.{same_key}
use Rattle.eddy_meaning.proofs.MatchLemmas.{list_all_at, list_all_from, matches, Contains-nil, Contains-here, Contains-there}
use Rattle.eddy_meaning.proofs.ReachLemmas.{at_place}
use Rattle.remote_lookup.specs.Thinned.{row_in, is_left, are_left}
use Rattle.remote_lookup.specs.Filled.{remote_of, keys_at, filled, filled_from, tables_for, AreInOrder}
use Rattle.remote_lookup.specs.Needed.{Asks, value_in_row, is_own, passes_own, HasRowOf, IsInteger, HoldsAsked, AreNeeded, AreRemotes}
use Rattle.remote_lookup.specs.declared.remote.Remote.{Remote}
use Rattle.remote_lookup.specs.declared.remote.RemoteKey.{RemoteKey}
use Rattle.remote_lookup.proofs.FilledLemmas.{is_among, among-Contains, Contains-among, of_needed, of_needed-key, left_test, remote_there}

-- an element of a concatenation stands in one of its parts
Contains-parts : {X Y : Type 0} (f : X → List Y) (xs : List X) (y : Y) → Contains (flat_map f xs) y → (x : X) × Contains xs x × Contains (f x) y
Contains-parts f [] y h = absurd (Contains-nil y h)
Contains-parts {X} {Y} f (x ∷ xs) y h =
    ⊎_elim (λ here. (x, Contains-here x xs, here))
    (λ later. let rest = Contains-parts f xs y later in (rest.0, Contains-there rest.0 x xs rest.1, rest.2))
    (Contains-append_cases (f x) (flat_map f xs) y h)

get-filled : (remotes : List Remote) (rows : ℕ → ℤ → List (List Value)) (keys : List RemoteKey) (n : ℕ) (ts : List Relation) (k : ℕ)
    → slice_get (filled_from remotes rows keys n ts) k ≡ option_map (filled rows keys (remote_of remotes (n + k))) (slice_get ts k)
get-filled remotes rows keys n [] k = refl
get-filled remotes rows keys n (t ∷ ts) zero =
    let same : n ≡ n + zero = omega arith in
    ap (λ (m : ℕ). let got : Option Relation = Some (filled rows keys (remote_of remotes m) t) in got) same
get-filled remotes rows keys n (t ∷ ts) (suc k) =
    let same : (n + 1) + k ≡ n + suc k = omega arith in
    get-filled remotes rows keys (n + 1) ts k ∙ ap (λ (m : ℕ). option_map (filled rows keys (remote_of remotes m)) (slice_get ts k)) same

some_from_map : {X Y : Type 0} (f : X → Y) (o : Option X) (y : Y) → option_map f o ≡ Some y → (x : X) × (o ≡ Some x) × (f x ≡ y)
some_from_map f None y e = absurd cc
some_from_map f (Some x) y e = (x, refl, cc)

some_same : {X : Type 0} {x y : X} → Some x ≡ Some y → x ≡ y
some_same e = cc

-- the table that has a row
table_from : (o : Option Relation) (row : ℕ) → row < option_map_or (λ (t : Relation). length t.rows) o 0 → (t : Relation) × (o ≡ Some t) × (row < length t.rows)
table_from None row low = absurd (omega arith)
table_from (Some t) row low = (t, refl, low)

-- a number of millionths tells the number
same_integer : (a b : ℤ) → millionths a 0 ≡ millionths b 0 → a ≡ b
same_integer a b e = omega (arith, ints)

all_left : (test : ℕ → List Value → Bool) (tables : List Relation) (uses rows : List ℕ)
    → ((a : ℕ) → a < length uses → is_left test tables (get_or uses a 0) (get_or rows a 0) ≡ true) → are_left test tables uses rows ≡ true
all_left test tables [] rows h = refl
all_left test tables (t ∷ uses) [] h = refl
all_left test tables (t ∷ uses) (row ∷ rows) h =
    and_from (is_left test tables t row) (are_left test tables uses rows) (h zero (omega arith)) (all_left test tables uses rows (λ a low. h (suc a) (omega arith)))

module _ (gives : ℕ → Value → Value → Truth) (block : Block) (tables : List Relation) (remotes : List Remote) (rows : ℕ → ℤ → List (List Value))
    (needed keys : List RemoteKey) (reach : IsReachable block) (far : AreRemotes block remotes) (least : AreNeeded gives block tables remotes rows needed)
    (order : AreInOrder remotes rows keys) where
  abbrev whole : List Relation
  whole = tables_for remotes rows tables keys

  abbrev uses : List ℕ
  uses = uses_of block

  abbrev in_needed : ℕ → ℤ → Bool
  in_needed remote k = is_among (keys_at needed remote) k

  abbrev in_keys : ℕ → ℤ → Bool
  in_keys remote k = is_among (keys_at keys remote) k

  -- the needed keys hold those that they ask for
  needed_literal : (remote : ℕ) (t : Term) → Asks block remotes remote (side.Sum (t ∷ [])) → t.column ≡ None → in_needed remote t.factor ≡ true
  needed_literal remote t ask none =
      among-Contains (keys_at needed remote) t.factor ((least.each remote t.factor).1 (λ set' closed.
      closed.holds remote t.factor (inl record { t = t; ask = ask; alone = none; is = refl })))

  row_of_closed : (set' : ℕ → ℤ → Bool) → HoldsAsked gives block tables remotes rows set' → (t : ℕ) (row : List Value) (o : Option ℕ)
      → HasRowOf rows tables in_needed t row o → HasRowOf rows tables set' t row o
  row_of_closed set' closed t row None h = h
  row_of_closed set' closed t row (Some remote) h =
      (h.0, (least.each remote h.0).0 (Contains-among (keys_at needed remote) h.0 h.1) set' closed, h.2)

  needed_column : (remote : ℕ) (c : ColumnOf) (u : AliasUse) (row : List Value) (k : ℤ) → Asks block remotes remote (side.Column c)
      → slice_get block.aliases c.alias ≡ Some u → HasRowOf rows tables in_needed u.table row (remote_of remotes u.table)
      → passes_own gives block c.alias row ≡ true → IsInteger k (get_or row c.column value.Null) → in_needed remote k ≡ true
  needed_column remote c u row k ask used has own key =
      among-Contains (keys_at needed remote) k ((least.each remote k).1 (λ set' closed.
      closed.holds remote k (inr record { c = c; ask = ask; u = u; used = used; row = row; of = row_of_closed set' closed u.table row (remote_of remotes u.table) has; own = own; has = key })))

  module _ (m : List ℕ) (in' : Contains (bag gives block whole) m) where
    -- the row of an alias
    pub record IsRowAt (a : ℕ) : Type 0 where
      pub u : AliasUse
      pub used : slice_get block.aliases a ≡ Some u
      pub row : List Value
      pub is : row_in whole u.table (get_or m a 0) ≡ Some row
      pub of : HasRowOf rows tables in_keys u.table row (remote_of remotes u.table)

    combination : IsCombination block whole m
    combination = All-contains (IsCombination block whole) (bag gives block whole) m (bag-in_range gives block whole) in'

    holds : (p : ℕ) (c : Conjunct) → slice_get block.conjuncts p ≡ Some c → is_truth (truth_of gives (value_in whole uses m) c.cond) True ≡ true
    holds p c at =
        list_all_at (λ (d : Conjunct). is_truth (truth_of gives (value_in whole uses m) d.cond) True) block.conjuncts p c
        (All-contains (λ (x : List ℕ). is_match gives block whole x ≡ true) (bag gives block whole) m (matches gives block whole) in') at

    got : (t : ℕ) → slice_get whole t ≡ option_map (filled rows keys (remote_of remotes t)) (slice_get tables t)
    got t =
        let same : 0 + t ≡ t = omega arith in
        get-filled remotes rows keys 0 tables t ∙ ap (λ (k : ℕ). option_map (filled rows keys (remote_of remotes k)) (slice_get tables t)) same

    use_at : (a : ℕ) (u : AliasUse) → slice_get block.aliases a ≡ Some u → slice_get uses a ≡ Some u.table
    use_at a u used = slice_get-map (λ (x : AliasUse). x.table) block.aliases a ∙ ap (option_map (λ (x : AliasUse). x.table)) used

    member : (o : Option ℕ) (base t : Relation) (table n : ℕ) (row : List Value) → slice_get tables table ≡ Some base → filled rows keys o base ≡ t
        → slice_get t.rows n ≡ Some row → HasRowOf rows tables in_keys table row o
    member None base t table n row there is at =
        let at' : slice_get base.rows n ≡ Some row = ap (λ (r : Relation). slice_get r.rows n) is ∙ at in
        (base, there, (n, slice_get_within base.rows n row at', get_or_from_slice_get base.rows n row row at'))
    member (Some remote) base t table n row there is at =
        let all = flat_map (rows remote) (keys_at keys remote) in
        let at' : slice_get all n ≡ Some row = ap (λ (r : Relation). slice_get r.rows n) is ∙ at in
        let part = Contains-parts (rows remote) (keys_at keys remote) row (n, slice_get_within all n row at', get_or_from_slice_get all n row row at') in
        (part.0, among-Contains (keys_at keys remote) part.0 part.1, part.2)

    row_at : (a : ℕ) → a < length block.aliases → IsRowAt a
    row_at a low =
        let used = at_place block.aliases a low in
        let u = used.0 in
        let place : get_or uses a 0 ≡ u.table = get_or_from_slice_get uses a u.table 0 (use_at a u used.1) in
        let below = subst (λ (n : ℕ). get_or m a 0 < row_count whole n) place (combination.below a low) in
        let t = table_from (slice_get whole u.table) (get_or m a 0) below in
        let row = at_place t.0.rows (get_or m a 0) t.2 in
        let base = some_from_map (filled rows keys (remote_of remotes u.table)) (slice_get tables u.table) t.0 (sym (got u.table) ∙ t.1) in
        record {
          u = u;
          used = used.1;
          row = row.0;
          is = ap (λ (o : Option Relation). option_and_then (λ (r : Relation). slice_get r.rows (get_or m a 0)) o) t.1 ∙ row.1;
          of = member (remote_of remotes u.table) base.0 t.0 u.table (get_or m a 0) row.0 base.1 base.2 row.1;
        }

    -- a column's value stands in the row of its alias
    value_at : (c : ColumnOf) (r : IsRowAt c.alias) → value_in whole uses m c ≡ get_or r.row c.column value.Null
    value_at c r =
        let low : c.alias < length m = omega (arith, combination.count, slice_get_within block.aliases c.alias r.u r.used) in
        ap (λ (o : Option ℕ). unwrap_or (option_and_then (λ (t : Relation). option_and_then (λ (row : ℕ). cell t row c.column) (slice_get m c.alias)) (option_and_then (λ n. slice_get whole n) o)) value.Null)
        (use_at c.alias r.u r.used)
        ∙ ap (λ (o : Option ℕ). unwrap_or (option_and_then (λ (t : Relation). option_and_then (λ (row : ℕ). cell t row c.column) o) (slice_get whole r.u.table)) value.Null)
        (slice_get-get_or m c.alias 0 low)
        ∙ by (slice_get whole r.u.table) r.is
        ∙ unwrap_or-slice_get r.row c.column value.Null
      where
        by : (o : Option Relation) → option_and_then (λ (t : Relation). slice_get t.rows (get_or m c.alias 0)) o ≡ Some r.row
            → unwrap_or (option_and_then (λ (t : Relation). cell t (get_or m c.alias 0) c.column) o) value.Null ≡ unwrap_or (slice_get r.row c.column) value.Null
        by None e = absurd cc
        by (Some t) e = ap (λ (w : Option (List Value)). unwrap_or (option_and_then (λ cells. slice_get cells c.column) w) value.Null) e

    -- the aliases whose rows are of needed keys, or of no remote
    abbrev pub near : ℕ → Bool
    near a = is_left (left_test remotes needed) whole (get_or uses a 0) (get_or m a 0)

    near_is : (a : ℕ) (r : IsRowAt a) → near a ≡ of_needed remotes needed (remote_of remotes r.u.table) r.row
    near_is a r =
        let place : get_or uses a 0 ≡ r.u.table = get_or_from_slice_get uses a r.u.table 0 (use_at a r.u r.used) in
        ap (λ (t : ℕ). is_left (left_test remotes needed) whole t (get_or m a 0)) place
        ∙ ap (λ (o : Option (List Value)). option_map_or (left_test remotes needed r.u.table) o false) r.is

    -- the key of a row of a remote
    key_of_row : (table : ℕ) (row : List Value) (remote : ℕ) (s : Remote) → slice_get remotes remote ≡ Some s
        → (h : HasRowOf rows tables in_keys table row (Some remote)) → slice_get row s.column ≡ Some (value.Int h.0)
    key_of_row table row remote s is h =
        All-contains (λ (x : List Value). slice_get x s.column ≡ Some (value.Int h.0)) (rows remote h.0) row
        (All-contains (λ (k : ℤ). All (λ (x : List Value). slice_get x s.column ≡ Some (value.Int k)) (rows remote k)) (keys_at keys remote) h.0
        (order remote s is) (Contains-among (keys_at keys remote) h.0 h.1)) h.2

    -- a row of such an alias is one of the needed keys
    needed_row : (table : ℕ) (row : List Value) (o : Option ℕ) → ((remote : ℕ) → o ≡ Some remote → (r : Remote) × (slice_get remotes remote ≡ Some r))
        → HasRowOf rows tables in_keys table row o → of_needed remotes needed o row ≡ true → HasRowOf rows tables in_needed table row o
    needed_row table row None there h left = h
    needed_row table row (Some remote) there h left =
        let s = there remote refl in
        (h.0, sym (of_needed-key remotes needed remote s.0 h.0 row s.1 (key_of_row table row remote s.0 s.1 h)) ∙ left, h.2)

    -- of the row of a match all own conjuncts are True
    passes : (a : ℕ) (r : IsRowAt a) → passes_own gives block a r.row ≡ true
    passes a r =
        list_all_from (λ (c : Conjunct). not (is_own a c) || is_truth (truth_of gives (value_in_row a r.row) c.cond) True) block.conjuncts
        (λ p c at. by c (is_own a c) refl (holds p c at))
      where
        alias_is : (c : Conjunct) → is_own a c ≡ true → (b : ℕ) → Contains (aliases_of c.cond) b → b ≡ a
        alias_is c e b occurs =
            let at : slice_get (aliases_of c.cond) occurs.0 ≡ Some b = slice_get-get_or (aliases_of c.cond) occurs.0 b occurs.1 ∙ ap (λ (x : ℕ). Some x) occurs.2 in
            eqb-true b a (list_all_at (λ (x : ℕ). x == a) (aliases_of c.cond) occurs.0 b e at)

        same : (col : ColumnOf) → col.alias ≡ a → value_in_row a r.row col ≡ value_in whole uses m col
        same col e =
            ap (λ (b : Bool). cond b (get_or r.row col.column value.Null) value.Null) (eq-eqb col.alias a e)
            ∙ sym (value_at record { alias = a; column = col.column } r)
            ∙ sym (ap (λ (b : ℕ). value_in whole uses m record { alias = b; column = col.column }) e)

        by : (c : Conjunct) (b : Bool) → is_own a c ≡ b → is_truth (truth_of gives (value_in whole uses m) c.cond) True ≡ true
            → (not b || is_truth (truth_of gives (value_in_row a r.row) c.cond) True) ≡ true
        by c false e h = refl
        by c true e h =
            ap (λ (t : Truth). is_truth t True)
            (truth_agrees gives (value_in_row a r.row) (value_in whole uses m) c.cond (λ col occurs. same col (alias_is c e col.alias occurs)))
            ∙ h

    -- an equality that is True of a match has sides of one key
    sides_same : (c : Conjunct) (own : ColumnOf) (other : Side) → Compares c own Eq other
        → is_truth (truth_of gives (value_in whole uses m) c.cond) True ≡ true
        → (key : Rank) × (rank_of (value_in whole uses m own) ≡ Some key) × (side_rank (value_in whole uses m) other ≡ Some key)
    sides_same c own other compares h = by compares.is
      where
        at : ColumnOf → Value
        at = value_in whole uses m

        by : (c.cond ≡ Compare (side.Column own) Eq other) ⊎ (c.cond ≡ Compare other Eq (side.Column own))
            → (key : Rank) × (rank_of (value_in whole uses m own) ≡ Some key) × (side_rank (value_in whole uses m) other ≡ Some key)
        by (inl e) =
            same_key (rank_of (value_in whole uses m own)) (side_rank (value_in whole uses m) other)
            (ap (λ (t : Truth). is_truth t True) (sym (ap (truth_of gives (value_in whole uses m)) e ∙ truth_of-Compare gives (value_in whole uses m) (side.Column own) Eq other)) ∙ h)
        by (inr e) =
            let k = same_key (side_rank (value_in whole uses m) other) (rank_of (value_in whole uses m own))
            (ap (λ (t : Truth). is_truth t True) (sym (ap (truth_of gives (value_in whole uses m)) e ∙ truth_of-Compare gives (value_in whole uses m) other Eq (side.Column own))) ∙ h) in
            (k.0, k.2, k.1)

    -- what a side asks for is needed, where the aliases that occur in it are near
    asked : (remote : ℕ) (k : ℤ) (other : Side) → Asks block remotes remote other → is_plain other ≡ true
        → side_rank (value_in whole uses m) other ≡ Some (Number (millionths k 0))
        → ((a : ℕ) → Contains (side_aliases other) a → near a ≡ true) → in_needed remote k ≡ true
    asked remote k side.Null ask plain e led = absurd cc
    asked remote k (side.Text t) ask plain e led = absurd cc
    asked remote k (side.Sum []) ask plain e led = absurd (false≢true plain)
    asked remote k (side.Sum (t ∷ u ∷ more)) ask plain e led = absurd (false≢true plain)
    asked remote k (side.Sum (t ∷ [])) ask plain e led = by t.column refl
      where
        by : (o : Option ColumnOf) → t.column ≡ o → in_needed remote k ≡ true
        by (Some c) f = absurd (false≢true (sym (ap is_none f) ∙ plain))
        by None f =
            let one : option_map (λ n. Number n) (plus (term_number (value_in whole uses m) t.factor None) (Some (pos 0))) ≡ Some (Number (millionths k 0)) =
            sym (ap (λ (o : Option ColumnOf). option_map (λ n. Number n) (plus (term_number (value_in whole uses m) t.factor o) (Some (pos 0)))) f) ∙ e in
            let number : millionths t.factor 0 +ℤ pos 0 ≡ millionths k 0 = cc in
            let same : t.factor ≡ k = omega (arith, ints) in
            ap (in_needed remote) (sym same) ∙ needed_literal remote t ask f
    asked remote k (side.Column c) ask plain e led = by (slice_get block.aliases c.alias) refl
      where
        by : (o : Option AliasUse) → slice_get block.aliases c.alias ≡ o → in_needed remote k ≡ true
        by None f =
            let none : slice_get uses c.alias ≡ None = slice_get-map (λ (x : AliasUse). x.table) block.aliases c.alias ∙ ap (option_map (λ (x : AliasUse). x.table)) f in
            let null : value_in whole uses m c ≡ value.Null =
            ap (λ (o : Option ℕ). unwrap_or (option_and_then (λ (t : Relation). option_and_then (λ (row : ℕ). cell t row c.column) (slice_get m c.alias)) (option_and_then (λ n. slice_get whole n) o)) value.Null) none in
            absurd (no_rank (sym (ap rank_of null) ∙ e))
          where
            no_rank : {r : Rank} → None ≡ Some r → ⊥
            no_rank e = cc
        by (Some u) f =
            let r = row_at c.alias (slice_get_within block.aliases c.alias u f) in
            let near' : near c.alias ≡ true = led c.alias (0, omega arith, refl) in
            needed_column remote c r.u r.row k ask r.used
            (needed_row r.u.table r.row (remote_of remotes r.u.table) (λ n g. remote_there remotes r.u.table n g) r.of (sym (near_is c.alias r) ∙ near'))
            (passes c.alias r) (ap rank_of (sym (value_at c r)) ∙ e)

    near_scanned : (a : ℕ) (u : AliasUse) → slice_get block.aliases a ≡ Some u → u.access.scan ≡ true → near a ≡ true
    near_scanned a u used scan =
        let r = row_at a (slice_get_within block.aliases a u used) in
        near_is a r ∙ by r (remote_of remotes r.u.table) refl
      where
        by : (r : IsRowAt a) (o : Option ℕ) → remote_of remotes r.u.table ≡ o → of_needed remotes needed o r.row ≡ true
        by r None e = refl
        by r (Some remote) e =
            let one : u ≡ r.u = some_same (sym used ∙ r.used) in
            absurd (false≢true (sym (far.unscanned a r.u remote r.used e) ∙ sym (ap (λ (x : AliasUse). x.access.scan) one) ∙ scan))

    near_led : (a : ℕ) → IsLed block near a → near a ≡ true
    near_led a h =
        let r = row_at a (slice_get_within block.aliases a h.u h.used) in
        near_is a r ∙ by r (remote_of remotes r.u.table) refl r.of
      where
        by : (r : IsRowAt a) (o : Option ℕ) → remote_of remotes r.u.table ≡ o → HasRowOf rows tables in_keys r.u.table r.row o → of_needed remotes needed o r.row ≡ true
        by r None e has = refl
        by r (Some remote) e has =
            let there = remote_there remotes r.u.table remote e in
            let s = there.0 in
            let own = h.own in
            let one : h.u ≡ r.u = some_same (sym h.used ∙ r.used) in
            let column : own.column ≡ s.column =
            some_same (sym h.look_up ∙ ap (λ (x : AliasUse). x.access.look_up) one ∙ far.look_up a r.u remote s r.used e there.1) in
            let key = key_of_row r.u.table r.row remote s there.1 has in
            let value' : value_in whole uses m own ≡ value.Int has.0 =
            ap (λ (b : ℕ). value_in whole uses m record { alias = b; column = own.column }) h.of
            ∙ value_at record { alias = a; column = own.column } r
            ∙ get_or_from_slice_get r.row own.column (value.Int has.0) value.Null (ap (slice_get r.row) column ∙ key) in
            let sides = sides_same h.conjunct own h.other h.compares (holds h.p h.conjunct h.at) in
            let ask : Asks block remotes remote h.other = record {
              p = h.p;
              conjunct = h.conjunct;
              at = h.at;
              own = own;
              compares = h.compares;
              u = r.u;
              used = ap (slice_get block.aliases) h.of ∙ r.used;
              of = e;
              r = s;
              is = there.1;
              column = column;
              plain = h.plain;
              apart = λ b occurs same. (h.led b occurs).0 (same ∙ h.of);
            } in
            of_needed-key remotes needed remote s has.0 r.row there.1 key
            ∙ asked remote has.0 h.other ask h.plain (sides.2 ∙ sym sides.1 ∙ ap rank_of value') (λ b occurs. (h.led b occurs).1)

    -- each alias is near
    pub are_near : are_left (left_test remotes needed) whole uses m ≡ true
    are_near =
        let long : length uses ≡ length block.aliases = length-map block.aliases (λ (u : AliasUse). u.table) in
        all_left (left_test remotes needed) whole uses m
        (λ a low. reach.each near (record { scanned = near_scanned; led = near_led }) a (omega (arith, long)))
