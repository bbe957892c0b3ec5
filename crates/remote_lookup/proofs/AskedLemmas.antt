-- What is asked for is a list, in order.
use Rattle.std.proofs.Common.{◌≡◌, ◌⊎◌, inl, inr, ℕ, Bool, true, false, cond, List, [], ◌∷◌, ◌++◌, Option, Some, None, refl, ap, sym, ◌∙◌, subst, arith}
use Rattle.std.specs.Prelude.{◌↔◌, ◌&&◌, ◌||◌, ◌==◌, ◌*ℤ◌, ℤ, pos, All, Contains, slice_get, slice_index_or}
use Rattle.std.specs.Cmp.{signed_Decides}
use Rattle.std.specs.Int.RustNames.{int_div, int_rem}
use Rattle.std.specs.List.{flat_map}
use Rattle.std.specs.Ordering.{int_eq, is_eq, match_ordering, ordering_reverse}
use Rattle.std.specs.declared.cmp.Ordering.{Ordering}
use Rattle.std.specs.declared.cmp.Ordering.TheVariants.{Less, Equal, Greater}
use Rattle.std.proofs.lemmas.Bool.{false≢true, eqb-true, eq-eqb}
use Rattle.std.proofs.lemmas.Int.{ints, quot-rem}
use Rattle.std.proofs.lemmas.List.Elements.{All-cons, All-head, All-nil, All-tail, All-weaker}
use Rattle.std.proofs.lemmas.List.Folds.{list_any-append}
use Rattle.std.proofs.lemmas.List.Kept.{AllPairs-cons}
use Rattle.sq_value.specs.Rank.{Rank, Number, Text, millionths, rank_of}
use Rattle.sq_value.specs.Relation.{Relation}
use Rattle.sq_value.specs.declared.value.Value.{Value}
use Rattle.sq_value.specs.declared.value.Value.TheVariants as value
use Rattle.sq_value.specs.declared.value.Truth.{Truth}
use Rattle.sq_expr.specs.declared.block.AliasUse.{AliasUse}
use Rattle.sq_expr.specs.declared.block.Block.{Block}
use Rattle.sq_expr.specs.declared.cond.ColumnOf.{ColumnOf}
use Rattle.bag_meaning.proofs.PairLemmas.{AllPairs-head, AllPairs-nil, AllPairs-tail}
use Rattle.bag_meaning.proofs.SpanLemmas.{both}
use Rattle.eddy_meaning.proofs.MatchLemmas.{Contains-cons_cases, Contains-here, Contains-nil, Contains-there}
use Rattle.remote_lookup.specs.Filled.{remote_of}
use Rattle.remote_lookup.specs.Needed.{passes_own}
use Rattle.remote_lookup.specs.Asking.{IsAskedAt, IsAskedBehind, IsAskedByCells, IsAskedByRows, IsAskedFirst, IsAskedIn}
use Rattle.remote_lookup.specs.Rounds.{AreOrdered, key_order, lists_key}
use Rattle.remote_lookup.specs.declared.asks.Ask.{Ask}
use Rattle.remote_lookup.specs.declared.asks.By.{By}
use Rattle.remote_lookup.specs.declared.asks.By.TheVariants as by
use Rattle.remote_lookup.specs.declared.remote.Remote.{Remote}
use Rattle.remote_lookup.specs.declared.remote.RemoteKey.{RemoteKey}
use Rattle.remote_lookup.proofs.IntegerLemmas.{no_rest}
use Rattle.remote_lookup.proofs.RoundLemmas.{key_order_total}
use Rattle.remote_lookup.proofs.SetLemmas.{ties}

abbrev Rises : RemoteKey → RemoteKey → Type 0
Rises a b = key_order a b ≡ Less

abbrev same_key : RemoteKey → ℕ → ℤ → Bool
same_key k remote key = (k.remote == remote) && int_eq k.key key

-- a list in order with one key more
abbrev place : RemoteKey → List RemoteKey → List RemoteKey
place k [] = k ∷ []
place k (j ∷ js) = match_ordering (key_order k j) (k ∷ j ∷ js) (j ∷ js) (j ∷ place k js)

tied : (k j : RemoteKey) → key_order k j ≡ Equal → k ≡ j
tied k j e =
    let parts = both (j.remote == k.remote) (int_eq j.key k.key) (sym (ties k j) ∙ ap is_eq e) in
    let one : k.remote ≡ j.remote = sym (eqb-true j.remote k.remote parts.0) in
    let two : k.key ≡ j.key = sym ((signed_Decides j.key k.key).0 parts.1) in
    ap (λ (n : ℕ). record k { remote = n }) one ∙ ap (λ (i : ℤ). record k { remote = j.remote; key = i }) two

absorbed : (a b : Bool) → (b || a) ≡ (b || (b || a))
absorbed a true = refl
absorbed a false = refl

swapped : (a b c : Bool) → (a || (b || c)) ≡ (b || (a || c))
swapped true true c = refl
swapped true false c = refl
swapped false b c = refl

place_has : (k : RemoteKey) (js : List RemoteKey) (remote : ℕ) (key : ℤ) → lists_key (place k js) remote key ≡ (same_key k remote key || lists_key js remote key)
place_has k [] remote key = refl
place_has k (j ∷ js) remote key = by (key_order k j) refl (place_has k js remote key)
  where
    by : (o : Ordering) → key_order k j ≡ o → lists_key (place k js) remote key ≡ (same_key k remote key || lists_key js remote key)
        → lists_key (match_ordering o (k ∷ j ∷ js) (j ∷ js) (j ∷ place k js)) remote key ≡ (same_key k remote key || (same_key j remote key || lists_key js remote key))
    by Less is again = refl
    by Equal is again =
        absorbed (lists_key js remote key) (same_key j remote key)
        ∙ ap (λ (q : RemoteKey). same_key q remote key || (same_key j remote key || lists_key js remote key)) (sym (tied k j is))
    by Greater is again =
        ap (λ (b : Bool). same_key j remote key || b) again ∙ swapped (same_key j remote key) (same_key k remote key) (lists_key js remote key)

all_place : (P : RemoteKey → Type 0) (k : RemoteKey) (js : List RemoteKey) → P k → All P js → All P (place k js)
all_place P k [] one h = All-cons P k [] one h
all_place P k (j ∷ js) one h = by (key_order k j) (all_place P k js one (All-tail P j js h))
  where
    by : (o : Ordering) → All P (place k js) → All P (match_ordering o (k ∷ j ∷ js) (j ∷ js) (j ∷ place k js))
    by Less again = All-cons P k (j ∷ js) one h
    by Equal again = h
    by Greater again = All-cons P j (place k js) (All-head P j js h) again

place_ordered : (k : RemoteKey) (js : List RemoteKey) → AreOrdered js → AreOrdered (place k js)
place_ordered k [] h = AllPairs-cons Rises k [] (All-nil (Rises k)) (AllPairs-nil Rises)
place_ordered k (j ∷ js) h = by (key_order k j) refl (place_ordered k js (AllPairs-tail Rises j js h))
  where
    by : (o : Ordering) → key_order k j ≡ o → AreOrdered (place k js) → AreOrdered (match_ordering o (k ∷ j ∷ js) (j ∷ js) (j ∷ place k js))
    by Less is again =
        AllPairs-cons Rises k (j ∷ js)
        (All-cons (Rises k) j js is (All-weaker (Rises j) (Rises k) (λ z less. key_order_total.trans k j z is less) js (AllPairs-head Rises j js h))) h
    by Equal is again = h
    by Greater is again =
        let less : key_order j k ≡ Less = key_order_total.antisymm j k ∙ ap ordering_reverse is in
        AllPairs-cons Rises j (place k js) (all_place (Rises j) k js less (AllPairs-head Rises j js h)) again

abbrev pub sorted : List RemoteKey → List RemoteKey
sorted [] = []
sorted (k ∷ ks) = place k (sorted ks)

pub sorted_has : (ks : List RemoteKey) (remote : ℕ) (key : ℤ) → lists_key (sorted ks) remote key ≡ lists_key ks remote key
sorted_has [] remote key = refl
sorted_has (k ∷ ks) remote key = place_has k (sorted ks) remote key ∙ ap (λ (b : Bool). same_key k remote key || b) (sorted_has ks remote key)

pub sorted_ordered : (ks : List RemoteKey) → AreOrdered (sorted ks)
sorted_ordered [] = AllPairs-nil Rises
sorted_ordered (k ∷ ks) = place_ordered k (sorted ks) (sorted_ordered ks)

-- a list says which keys there are
abbrev pub Lists : List RemoteKey → (ℕ → ℤ → Type 0) → Type 0
Lists ks P = (remote : ℕ) (key : ℤ) → ((lists_key ks remote key ≡ true) ↔ P remote key)

either : (a b : Bool) → (a || b) ≡ true → (a ≡ true) ⊎ (b ≡ true)
either true b e = inl refl
either false b e = inr e

left_of : (a b : Bool) → a ≡ true → (a || b) ≡ true
left_of a b e = ap (λ (c : Bool). c || b) e

right_of : (a : Bool) {b : Bool} → b ≡ true → (a || b) ≡ true
right_of true e = refl
right_of false e = e

lists_none : (P : ℕ → ℤ → Type 0) → ((remote : ℕ) (key : ℤ) → P remote key → ⊥) → Lists [] P
lists_none P none remote key = (λ e. absurd (false≢true e), λ p. absurd (none remote key p))

pub lists_both : (xs ys : List RemoteKey) (P Q R : ℕ → ℤ → Type 0) → Lists xs P → Lists ys Q
    → ((remote : ℕ) (key : ℤ) → R remote key ↔ (P remote key ⊎ Q remote key)) → Lists (xs ++ ys) R
lists_both xs ys P Q R one two same remote key = (to, from)
  where
    joined : lists_key (xs ++ ys) remote key ≡ (lists_key xs remote key || lists_key ys remote key)
    joined = list_any-append (λ (k : RemoteKey). same_key k remote key) xs ys

    of_either : (lists_key xs remote key ≡ true) ⊎ (lists_key ys remote key ≡ true) → R remote key
    of_either (inl e) = (same remote key).1 (inl ((one remote key).0 e))
    of_either (inr e) = (same remote key).1 (inr ((two remote key).0 e))

    to : lists_key (xs ++ ys) remote key ≡ true → R remote key
    to e = of_either (either (lists_key xs remote key) (lists_key ys remote key) (sym joined ∙ e))

    back : P remote key ⊎ Q remote key → (lists_key xs remote key || lists_key ys remote key) ≡ true
    back (inl p) = left_of (lists_key xs remote key) (lists_key ys remote key) ((one remote key).1 p)
    back (inr q) = right_of (lists_key xs remote key) ((two remote key).1 q)

    from : R remote key → lists_key (xs ++ ys) remote key ≡ true
    from r = joined ∙ back ((same remote key).0 r)

-- the keys of each element of a list
module _ {X : Type 0} (f : X → List RemoteKey) (P : X → ℕ → ℤ → Type 0) (each : (x : X) → Lists (f x) (P x)) where
  pub lists_all : (xs : List X) → Lists (flat_map f xs) (λ remote key. (x : X) × Contains xs x × P x remote key)
  lists_all [] = lists_none _ (λ remote key h. Contains-nil h.0 h.1)
  lists_all (x ∷ xs) =
      lists_both (f x) (flat_map f xs) (P x) (λ remote key. (y : X) × Contains xs y × P y remote key) (λ remote key. (y : X) × Contains (x ∷ xs) y × P y remote key) (each x) (lists_all xs)
      (λ remote key. (λ h. to remote key h.0 h.2 (Contains-cons_cases h.0 x xs h.1), λ h. from remote key h))
    where
      to : (remote : ℕ) (key : ℤ) (y : X) → P y remote key → (x ≡ y) ⊎ Contains xs y → P x remote key ⊎ ((z : X) × Contains xs z × P z remote key)
      to remote key y p (inl e) = inl (subst (λ (z : X). P z remote key) (sym e) p)
      to remote key y p (inr d) = inr (y, d, p)

      from : (remote : ℕ) (key : ℤ) → P x remote key ⊎ ((z : X) × Contains xs z × P z remote key) → (y : X) × Contains (x ∷ xs) y × P y remote key
      from remote key (inl p) = (x, Contains-here x xs, p)
      from remote key (inr h) = (h.0, Contains-there h.0 x xs h.1, h.2)

pub lists_as : (xs : List RemoteKey) (P Q : ℕ → ℤ → Type 0) → ((remote : ℕ) (key : ℤ) → P remote key ↔ Q remote key) → Lists xs P → Lists xs Q
lists_as xs P Q same h remote key = (λ e. (same remote key).0 ((h remote key).0 e), λ q. (h remote key).1 ((same remote key).1 q))

lists_one : (k : RemoteKey) → Lists (k ∷ []) (λ remote key. (k.remote ≡ remote) × (k.key ≡ key))
lists_one k remote key = (λ e. to (either (same_key k remote key) false e), from)
  where
    to : (same_key k remote key ≡ true) ⊎ (false ≡ true) → (k.remote ≡ remote) × (k.key ≡ key)
    to (inl e) = let parts = both (k.remote == remote) (int_eq k.key key) e in (eqb-true k.remote remote parts.0, (signed_Decides k.key key).0 parts.1)
    to (inr e) = absurd (false≢true e)

    from : (k.remote ≡ remote) × (k.key ≡ key) → (same_key k remote key || false) ≡ true
    from h = left_of (same_key k remote key) false (ap (λ (b : Bool). b && int_eq k.key key) (eq-eqb k.remote remote h.0) ∙ (signed_Decides k.key key).1 h.1)

-- the integer that a rank is, if it is one
abbrev million : ℤ
million = pos 1000000

abbrev rank_keys : ℕ → Option Rank → List RemoteKey
rank_keys asked None = []
rank_keys asked (Some (Text t)) = []
rank_keys asked (Some (Number n)) = cond (int_eq (int_div n million *ℤ million) n) (record { remote = asked; key = int_div n million } ∷ []) []

apart_rank : (n k : ℤ) → (let o : Option Rank = Some (Number n) in o) ≡ Some (Number (millionths k 0)) → n ≡ k *ℤ million
apart_rank n k e = let same : n ≡ millionths k 0 = cc in same

whole_of : (n k : ℤ) → n ≡ k *ℤ million → int_div n million ≡ k
whole_of n k e =
    let none : int_rem n million ≡ pos 0 = no_rest n million k (omega (arith, ints)) e in
    omega (arith, ints, quot-rem n million, none, e)

rank_lists : (asked : ℕ) (o : Option Rank) → Lists (rank_keys asked o) (λ remote key. (asked ≡ remote) × (o ≡ Some (Number (millionths key 0))))
rank_lists asked None = lists_none _ (λ remote key h. clash h.1)
  where
    clash : {r : Rank} → None ≡ Some r → ⊥
    clash e = cc
rank_lists asked (Some (Text t)) = lists_none _ (λ remote key h. clash h.1)
  where
    clash : {n : ℤ} → (let o : Option Rank = Some (Text t) in o) ≡ Some (Number n) → ⊥
    clash e = cc
rank_lists asked (Some (Number n)) = by (int_eq (int_div n million *ℤ million) n) refl
  where
    by : (b : Bool) → int_eq (int_div n million *ℤ million) n ≡ b
        → Lists (cond b (record { remote = asked; key = int_div n million } ∷ []) []) (λ remote key. (asked ≡ remote) × ((let o : Option Rank = Some (Number n) in o) ≡ Some (Number (millionths key 0))))
    by false is = lists_none _ (λ remote key h. false≢true (sym is ∙ (signed_Decides (int_div n million *ℤ million) n).1 (whole remote key h.1)))
      where
        whole : (remote : ℕ) (key : ℤ) → (let o : Option Rank = Some (Number n) in o) ≡ Some (Number (millionths key 0)) → int_div n million *ℤ million ≡ n
        whole remote key e = let m : n ≡ key *ℤ million = apart_rank n key e in ap (λ (i : ℤ). i *ℤ million) (whole_of n key m) ∙ sym m
    by true is =
        lists_as (record { remote = asked; key = int_div n million } ∷ []) _ _ (λ remote key. (λ h. (h.0, told key h.1), λ h. (h.0, whole_of n key (apart_rank n key h.1))))
        (lists_one (record { remote = asked; key = int_div n million }))
      where
        told : (key : ℤ) → int_div n million ≡ key → (let o : Option Rank = Some (Number n) in o) ≡ Some (Number (millionths key 0))
        told key e =
            let back : int_div n million *ℤ million ≡ n = (signed_Decides (int_div n million *ℤ million) n).0 is in
            ap (λ (i : ℤ). let o : Option Rank = Some (Number i) in o) (sym back ∙ ap (λ (i : ℤ). i *ℤ million) e)

module _ (gives : ℕ → Value → Value → Truth) (block : Block) where
  -- the keys that a row names
  abbrev cells_keys : ℕ → ColumnOf → List Value → List RemoteKey
  cells_keys asked c cells = cond (passes_own gives block c.alias cells) (rank_keys asked (rank_of (slice_index_or cells c.column value.Null))) []

  cells_list : (asked : ℕ) (c : ColumnOf) (cells : List Value) → Lists (cells_keys asked c cells) (IsAskedByCells gives block asked c cells)
  cells_list asked c cells = by (passes_own gives block c.alias cells) refl
    where
      by : (b : Bool) → passes_own gives block c.alias cells ≡ b → Lists (cond b (rank_keys asked (rank_of (slice_index_or cells c.column value.Null))) []) (IsAskedByCells gives block asked c cells)
      by true is =
          lists_as (rank_keys asked (rank_of (slice_index_or cells c.column value.Null))) _ _
          (λ remote key. (λ h. record { of = h.0; own = is; has = h.1 }, λ h. (h.of, h.has)))
          (rank_lists asked (rank_of (slice_index_or cells c.column value.Null)))
      by false is = lists_none _ (λ remote key h. false≢true (sym is ∙ h.own))

  abbrev rows_keys : ℕ → ColumnOf → List (List Value) → List RemoteKey
  rows_keys asked c rows = flat_map (cells_keys asked c) rows

  rows_list : (asked : ℕ) (c : ColumnOf) (rows : List (List Value)) → Lists (rows_keys asked c rows) (IsAskedByRows gives block asked c rows)
  rows_list asked c rows = lists_all (cells_keys asked c) (IsAskedByCells gives block asked c) (cells_list asked c) rows

  some_same : {X : Type 0} {x y : X} → Some x ≡ Some y → x ≡ y
  some_same e = cc

  none_some : {X : Type 0} {x : X} → None ≡ Some x → ⊥
  none_some e = cc

  some_none : {X : Type 0} {x : X} → Some x ≡ None → ⊥
  some_none e = cc

  module _ (tables : List Relation) (remotes : List Remote) where
    -- the keys that are named before any file is loaded
    at_use : (asked : ℕ) (c : ColumnOf) (u : AliasUse) → slice_get block.aliases c.alias ≡ Some u → (o : Option ℕ) → remote_of remotes u.table ≡ o → (q : Option Relation) → slice_get tables u.table ≡ q
        → (ks : List RemoteKey) × Lists ks (IsAskedAt gives block tables remotes asked (by.Column c))
    at_use asked c u used (Some r) of q is = ([], lists_none _ (λ remote key h. some_none (sym of ∙ ap (λ (v : AliasUse). remote_of remotes v.table) (some_same (sym used ∙ h.1)) ∙ h.2)))
    at_use asked c u used None of None is =
        ([], lists_none _ (λ remote key h. none_some (sym is ∙ ap (λ (v : AliasUse). slice_get tables v.table) (some_same (sym used ∙ h.1)) ∙ h.3.1)))
    at_use asked c u used None of (Some t) is = (rows_keys asked c t.rows, lists_as (rows_keys asked c t.rows) _ _ (λ remote key. (λ h. (u, used, of, (t, is, h)), λ h. back remote key h)) (rows_list asked c t.rows))
      where
        back : (remote : ℕ) (key : ℤ) → IsAskedAt gives block tables remotes asked (by.Column c) remote key → IsAskedByRows gives block asked c t.rows remote key
        back remote key h =
            let same : h.0 ≡ u = some_same (sym h.1 ∙ used) in
            let one : h.3.0 ≡ t = some_same (sym h.3.1 ∙ ap (λ (v : AliasUse). slice_get tables v.table) same ∙ is) in
            subst (λ (s : Relation). IsAskedByRows gives block asked c s.rows remote key) one h.3.2

    at_alias : (asked : ℕ) (c : ColumnOf) (o : Option AliasUse) → slice_get block.aliases c.alias ≡ o → (ks : List RemoteKey) × Lists ks (IsAskedAt gives block tables remotes asked (by.Column c))
    at_alias asked c None none = ([], lists_none _ (λ remote key h. none_some (sym none ∙ h.1)))
    at_alias asked c (Some u) used = at_use asked c u used (remote_of remotes u.table) refl (slice_get tables u.table) refl

    at_by : (asked : ℕ) (way : By) → (ks : List RemoteKey) × Lists ks (IsAskedAt gives block tables remotes asked way)
    at_by asked (by.Literal k) = (record { remote = asked; key = k } ∷ [], lists_one (record { remote = asked; key = k }))
    at_by asked (by.Column c) = at_alias asked c (slice_get block.aliases c.alias) refl

    pub first_list : (asks : List Ask) → (ks : List RemoteKey) × Lists ks (IsAskedFirst gives block tables remotes asks)
    first_list asks = (
      flat_map (λ (ask : Ask). (at_by ask.remote ask.by).0) asks,
      lists_all (λ (ask : Ask). (at_by ask.remote ask.by).0) (λ (ask : Ask). IsAskedAt gives block tables remotes ask.remote ask.by) (λ (ask : Ask). (at_by ask.remote ask.by).1) asks,
    )

    -- and by the rows of a file
    in_use : (from : ℕ) (rows : List (List Value)) (asked : ℕ) (c : ColumnOf) (u : AliasUse) → slice_get block.aliases c.alias ≡ Some u → (b : Bool)
        → ((b ≡ true) ↔ (remote_of remotes u.table ≡ Some from)) → (ks : List RemoteKey) × Lists ks (IsAskedIn gives block remotes from rows asked (by.Column c))
    in_use from rows asked c u used true tells = (rows_keys asked c rows, lists_as (rows_keys asked c rows) _ _ (λ remote key. (λ h. (u, used, tells.0 refl, h), λ h. h.3)) (rows_list asked c rows))
    in_use from rows asked c u used false tells =
        ([], lists_none _ (λ remote key h. false≢true (tells.1 (ap (λ (v : AliasUse). remote_of remotes v.table) (some_same (sym used ∙ h.1)) ∙ h.2))))

    is_from : (from : ℕ) (o : Option ℕ) → (b : Bool) × ((b ≡ true) ↔ (o ≡ Some from))
    is_from from None = (false, (λ e. absurd (false≢true e), λ e. absurd (none_some e)))
    is_from from (Some n) = (n == from, (λ e. ap (λ (m : ℕ). let o : Option ℕ = Some m in o) (eqb-true n from e), λ e. eq-eqb n from (some_same e)))

    in_alias : (from : ℕ) (rows : List (List Value)) (asked : ℕ) (c : ColumnOf) (o : Option AliasUse) → slice_get block.aliases c.alias ≡ o
        → (ks : List RemoteKey) × Lists ks (IsAskedIn gives block remotes from rows asked (by.Column c))
    in_alias from rows asked c None none = ([], lists_none _ (λ remote key h. none_some (sym none ∙ h.1)))
    in_alias from rows asked c (Some u) used = let tells = is_from from (remote_of remotes u.table) in in_use from rows asked c u used tells.0 tells.1

    in_by : (from : ℕ) (rows : List (List Value)) (asked : ℕ) (way : By) → (ks : List RemoteKey) × Lists ks (IsAskedIn gives block remotes from rows asked way)
    in_by from rows asked (by.Literal k) = ([], lists_none _ (λ remote key h. h))
    in_by from rows asked (by.Column c) = in_alias from rows asked c (slice_get block.aliases c.alias) refl

    pub behind_list : (from : ℕ) (rows : List (List Value)) (asks : List Ask) → (ks : List RemoteKey) × Lists ks (IsAskedBehind gives block remotes from rows asks)
    behind_list from rows asks = (
      flat_map (λ (ask : Ask). (in_by from rows ask.remote ask.by).0) asks,
      lists_all (λ (ask : Ask). (in_by from rows ask.remote ask.by).0) (λ (ask : Ask). IsAskedIn gives block remotes from rows ask.remote ask.by)
          (λ (ask : Ask). (in_by from rows ask.remote ask.by).1) asks,
    )
