-- Tables for a set of keys, thinned to the rows of fewer keys, are the tables for those.
use Rattle.std.proofs.Common.{◌≡◌, ℕ, ◌+◌, Bool, true, false, cond, List, [], ◌∷◌, get_or, Option, Some, None, refl, ap, sym, ◌∙◌, subst, ◌⊎◌, inl, inr}
use Rattle.std.specs.Prelude.{◌||◌, ◌==◌, ℤ, filter, position, All, Contains, slice_get}
use Rattle.std.specs.Option.{option_map_or}
use Rattle.std.specs.List.{flat_map, list_any}
use Rattle.std.specs.Ordering.{int_cmp, int_eq, ordering_reverse}
use Rattle.std.specs.Cmp.{signed_Decides}
use Rattle.std.specs.declared.cmp.Ordering.TheVariants.{Less, Greater}
use Rattle.std.proofs.lemmas.Bool.{false≢true}
use Rattle.std.proofs.lemmas.Cmp.{int_cmp_total}
use Rattle.std.proofs.lemmas.List.Elements.{All-weaker, All-contains, filter_passes}
use Rattle.std.proofs.lemmas.List.Quantifiers.{position-Some}
use Rattle.std.proofs.lemmas.Option.{slice_get-get_or}
use Rattle.std.proofs.lemmas.List.Kept.{AllPairs-filter}
use Rattle.sq_value.specs.Relation.{Relation}
use Rattle.sq_value.specs.declared.value.Value.{Value}
use Rattle.sq_value.specs.declared.value.Value.TheVariants as value
use Rattle.bag_meaning.proofs.ListLemmas.{filter-flat_map, flat_map_agree_on, flat_map-cond, filter_all, filter_none}
use Rattle.bag_meaning.proofs.PairLemmas.{same_rising_lists}
use Rattle.eddy_meaning.proofs.MatchLemmas.{Contains-filter, Contains-here, Contains-there, Contains-nil, Contains-cons_cases}
use Rattle.remote_lookup.specs.Thinned.{thin, thinned, thinned_from}
use Rattle.remote_lookup.specs.Filled.{remote_of, keys_at, filled, filled_from, tables_for, KeysRise, AreInOrder}
use Rattle.remote_lookup.specs.declared.remote.Remote.{Remote}
use Rattle.remote_lookup.specs.declared.remote.RemoteKey.{RemoteKey}

-- whether a key stands in a list
abbrev pub is_among : List ℤ → ℤ → Bool
is_among ks k = list_any (λ (j : ℤ). int_eq j k) ks

pub among-Contains : (ks : List ℤ) (k : ℤ) → Contains ks k → is_among ks k ≡ true
among-Contains [] k h = absurd (Contains-nil k h)
among-Contains (j ∷ ks) k h = by (int_eq j k) refl (Contains-cons_cases k j ks h) (among-Contains ks k)
  where
    by : (b : Bool) → int_eq j k ≡ b → (j ≡ k) ⊎ Contains ks k → (Contains ks k → is_among ks k ≡ true) → (b || is_among ks k) ≡ true
    by true e d again = refl
    by false e (inl same) again = absurd (false≢true (sym e ∙ (signed_Decides j k).1 same))
    by false e (inr d) again = again d

pub Contains-among : (ks : List ℤ) (k : ℤ) → is_among ks k ≡ true → Contains ks k
Contains-among [] k h = absurd (false≢true h)
Contains-among (j ∷ ks) k h = by (int_eq j k) refl h (Contains-among ks k)
  where
    by : (b : Bool) → int_eq j k ≡ b → (b || is_among ks k) ≡ true → (is_among ks k ≡ true → Contains ks k) → Contains (j ∷ ks) k
    by true e d again = subst (λ (i : ℤ). Contains (j ∷ ks) i) ((signed_Decides j k).0 e) (Contains-here j ks)
    by false e d again = Contains-there k j ks (again d)

-- the integer of a value
abbrev integer_of : Value → Option ℤ
integer_of value.Null = None
integer_of (value.Int n) = Some n
integer_of (value.Text t) = None
integer_of (value.Decimal d) = None

-- whether a row of a remote has one of these keys
abbrev has_one_of : List ℤ → Option Value → Bool
has_one_of ks None = false
has_one_of ks (Some v) = option_map_or (is_among ks) (integer_of v) false

-- the same, where the table may be a remote's
abbrev pub of_needed : List Remote → List RemoteKey → Option ℕ → List Value → Bool
of_needed remotes needed None row = true
of_needed remotes needed (Some remote) row =
    option_map_or (λ (r : Remote). has_one_of (keys_at needed remote) (slice_get row r.column)) (slice_get remotes remote) false

abbrev pub left_test : List Remote → List RemoteKey → ℕ → List Value → Bool
left_test remotes needed table = of_needed remotes needed (remote_of remotes table)

-- of a row whose file is in order it asks for the file's key
pub of_needed-key : (remotes : List Remote) (needed : List RemoteKey) (remote : ℕ) (r : Remote) (k : ℤ) (row : List Value)
    → slice_get remotes remote ≡ Some r → slice_get row r.column ≡ Some (value.Int k)
    → of_needed remotes needed (Some remote) row ≡ is_among (keys_at needed remote) k
of_needed-key remotes needed remote r k row is key =
    ap (λ (o : Option Remote). option_map_or (λ (s : Remote). has_one_of (keys_at needed remote) (slice_get row s.column)) o false) is
    ∙ ap (has_one_of (keys_at needed remote)) key

-- a table that is a remote's belongs to one that is there
pub remote_there : (remotes : List Remote) (table remote : ℕ) → remote_of remotes table ≡ Some remote → (r : Remote) × (slice_get remotes remote ≡ Some r)
remote_there [] table remote e = absurd (none e)
  where
    none : position (λ (r : Remote). r.table == table) [] ≡ Some remote → ⊥
    none e = cc
remote_there (r ∷ rs) table remote e =
    let at = position-Some (λ (s : Remote). s.table == table) (r ∷ rs) remote r e in
    (get_or (r ∷ rs) remote r, slice_get-get_or (r ∷ rs) remote r at.0)

never_both : (a b : ℤ) → int_cmp a b ≡ Less → int_cmp b a ≡ Less → ⊥
never_both a b h k =
    let e : Less ≡ Greater = sym h ∙ int_cmp_total.antisymm a b ∙ ap ordering_reverse k in
    cc

module _ (remotes : List Remote) (rows : ℕ → ℤ → List (List Value)) (needed keys : List RemoteKey)
    (rising : KeysRise needed) (up : KeysRise keys) (order : AreInOrder remotes rows keys)
    (held : (remote : ℕ) (k : ℤ) → Contains (keys_at needed remote) k → Contains (keys_at keys remote) k) where
  abbrev R : ℤ → ℤ → Type 0
  R a b = int_cmp a b ≡ Less

  -- the needed keys among all
  chosen : (remote : ℕ) → filter (is_among (keys_at needed remote)) (keys_at keys remote) ≡ keys_at needed remote
  chosen remote =
      let N = keys_at needed remote in
      let K = keys_at keys remote in
      same_rising_lists R never_both (filter (is_among N) K) N
      (AllPairs-filter R (is_among N) K (up remote)) (rising remote)
      (λ k in'. Contains-among N k (All-contains (λ (j : ℤ). is_among N j ≡ true) (filter (is_among N) K) k (filter_passes (is_among N) K) in'))
      (λ k in'. Contains-filter (is_among N) K k (among-Contains N k in') (held remote k in'))

  -- a file's rows are left all or none
  file_left : (remote : ℕ) (r : Remote) → slice_get remotes remote ≡ Some r → (k : ℤ)
      → All (λ (row : List Value). slice_get row r.column ≡ Some (value.Int k)) (rows remote k)
      → filter (of_needed remotes needed (Some remote)) (rows remote k) ≡ cond (is_among (keys_at needed remote) k) (rows remote k) []
  file_left remote r is k each = by (is_among (keys_at needed remote) k) refl
    where
      by : (b : Bool) → is_among (keys_at needed remote) k ≡ b → filter (of_needed remotes needed (Some remote)) (rows remote k) ≡ cond b (rows remote k) []
      by true e =
          filter_all (of_needed remotes needed (Some remote)) (rows remote k)
          (All-weaker (λ (row : List Value). slice_get row r.column ≡ Some (value.Int k)) (λ (row : List Value). of_needed remotes needed (Some remote) row ≡ true)
          (λ row key. of_needed-key remotes needed remote r k row is key ∙ e) (rows remote k) each)
      by false e =
          filter_none (of_needed remotes needed (Some remote)) (rows remote k)
          (All-weaker (λ (row : List Value). slice_get row r.column ≡ Some (value.Int k)) (λ (row : List Value). of_needed remotes needed (Some remote) row ≡ false)
          (λ row key. of_needed-key remotes needed remote r k row is key ∙ e) (rows remote k) each)

  rows_left : (remote : ℕ) (r : Remote) → slice_get remotes remote ≡ Some r
      → filter (of_needed remotes needed (Some remote)) (flat_map (rows remote) (keys_at keys remote)) ≡ flat_map (rows remote) (keys_at needed remote)
  rows_left remote r is =
      let N = keys_at needed remote in
      let K = keys_at keys remote in
      let test = of_needed remotes needed (Some remote) in
      filter-flat_map test (rows remote) K
      ∙ flat_map_agree_on (λ (k : ℤ). filter test (rows remote k)) (λ (k : ℤ). cond (is_among N k) (rows remote k) []) K
      (All-weaker (λ (k : ℤ). All (λ (row : List Value). slice_get row r.column ≡ Some (value.Int k)) (rows remote k))
      (λ (k : ℤ). filter test (rows remote k) ≡ cond (is_among N k) (rows remote k) []) (file_left remote r is) K (order remote r is))
      ∙ flat_map-cond (is_among N) (rows remote) K
      ∙ ap (flat_map (rows remote)) (chosen remote)

  one_left : (o : Option ℕ) → ((remote : ℕ) → o ≡ Some remote → (r : Remote) × (slice_get remotes remote ≡ Some r)) → (t : Relation)
      → thin (of_needed remotes needed o) (filled rows keys o t) ≡ filled rows needed o t
  one_left None there t =
      ap (λ (l : List (List Value)). record t { rows = l }) (filter_all (λ (row : List Value). true) t.rows (λ k d low. refl))
  one_left (Some remote) there t =
      let is = there remote refl in
      ap (λ (l : List (List Value)). record t { rows = l }) (rows_left remote is.0 is.1)

  -- thinned to the rows of needed keys
  left_from : (n : ℕ) (ts : List Relation) → thinned_from (left_test remotes needed) n (filled_from remotes rows keys n ts) ≡ filled_from remotes rows needed n ts
  left_from n [] = refl
  left_from n (t ∷ ts) =
      ap (λ (x : Relation). x ∷ thinned_from (left_test remotes needed) (n + 1) (filled_from remotes rows keys (n + 1) ts))
      (one_left (remote_of remotes n) (λ remote e. remote_there remotes n remote e) t)
      ∙ ap (λ (l : List Relation). filled rows needed (remote_of remotes n) t ∷ l) (left_from (n + 1) ts)

  pub tables-left : (tables : List Relation) → thinned (left_test remotes needed) (tables_for remotes rows tables keys) ≡ tables_for remotes rows tables needed
  tables-left tables = left_from 0 tables
