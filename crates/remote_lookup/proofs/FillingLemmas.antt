-- Setting each remote's table gives the tables for the keys.
use Rattle.std.proofs.Common.{◌≡◌, ◌≢◌, ℕ, zero, suc, ◌+◌, ◌<◌, Bool, true, false, cond, List, [], ◌∷◌, set, length, Option, Some, None, refl, ap, sym, ◌∙◌, subst, arith}
use Rattle.std.specs.Prelude.{◌==◌, ℤ, All, AllPairs, slice_get}
use Rattle.std.specs.List.{flat_map, position_from}
use Rattle.std.specs.Option.{option_map, option_map_or}
use Rattle.std.proofs.lemmas.Bool.{eqb-true, eqb-false, false_from_ne_true}
use Rattle.std.proofs.lemmas.Iterator.Adapters.{position_from-zero}
use Rattle.std.proofs.lemmas.List.{length-set}
use Rattle.std.proofs.lemmas.List.Elements.{All-head, All-tail}
use Rattle.std.proofs.lemmas.Option.{slice_get_within}
use Rattle.sq_value.specs.Relation.{Relation}
use Rattle.sq_value.specs.declared.table.Column.{Column}
use Rattle.sq_value.specs.declared.value.Value.{Value}
use Rattle.bag_meaning.proofs.PairLemmas.{AllPairs-head, AllPairs-tail}
use Rattle.remote_lookup.specs.Filled.{exchanged, filled, filled_from, keys_at, remote_of, tables_for}
use Rattle.remote_lookup.specs.KeyFiles.{table_columns}
use Rattle.remote_lookup.specs.Loaded.{remote_tables, remote_tables_from}
use Rattle.remote_lookup.specs.declared.remote.Remote.{Remote}
use Rattle.remote_lookup.specs.declared.remote.RemoteKey.{RemoteKey}
use Rattle.remote_lookup.proofs.PlaceLemmas.{get_set_other, get_set_same}
use Rattle.remote_lookup.proofs.QueryLemmas.{some_one}

same_gets : {X : Type 0} (xs ys : List X) → ((j : ℕ) → slice_get xs j ≡ slice_get ys j) → xs ≡ ys
same_gets [] [] h = refl
same_gets {X} [] (y ∷ ys) h = absurd (clash (h 0))
  where
    clash : {y : X} → None ≡ Some y → ⊥
    clash e = cc
same_gets {X} (x ∷ xs) [] h = absurd (clash (h 0))
  where
    clash : {x : X} → Some x ≡ None → ⊥
    clash e = cc
same_gets {X} (x ∷ xs) (y ∷ ys) h =
    ap (λ (z : X). z ∷ xs) (some_one (h 0)) ∙ ap (λ (l : List X). y ∷ l) (same_gets xs ys (λ j. h (suc j)))

no_place : (j n : ℕ) (rs : List Remote) → All (λ (s : Remote). j ≢ s.table) rs → position_from (λ (s : Remote). s.table == j) n rs ≡ None
no_place j n [] h = refl
no_place j n (r ∷ rs) h =
    let ne = All-head (λ (s : Remote). j ≢ s.table) r rs h in
    let apart : (r.table == j) ≡ false = false_from_ne_true (r.table == j) (λ e. ne (sym (eqb-true r.table j e))) in
    ap (λ (b : Bool). let o : Option ℕ = cond b (Some n) (position_from (λ (s : Remote). s.table == j) (n + 1) rs) in o) apart
    ∙ no_place j (n + 1) rs (All-tail (λ (s : Remote). j ≢ s.table) r rs h)

module _ (rows : ℕ → ℤ → List (List Value)) (tables : List Relation) (keys : List RemoteKey) where
  -- a table for the keys of a remote
  abbrev made : ℕ → ℕ → Relation
  made table n = record { columns = table_columns tables table; rows = flat_map (rows n) (keys_at keys n) }

  abbrev instead : ℕ → Option ℕ → Relation → Relation
  instead j None t = t
  instead j (Some n) t = made j n

  exchanged_at : (j n : ℕ) (rs : List Remote) (ts : List Relation) → AllPairs (λ (a b : Remote). a.table ≢ b.table) rs
      → slice_get (exchanged ts rs (remote_tables_from rows tables keys n rs)) j ≡ option_map (instead j (position_from (λ (s : Remote). s.table == j) n rs)) (slice_get ts j)
  exchanged_at j n [] ts differ = same (slice_get ts j)
    where
      same : (o : Option Relation) → o ≡ option_map (instead j None) o
      same None = refl
      same (Some t) = refl
  exchanged_at j n (r ∷ rs) ts differ =
      by (r.table == j) refl (exchanged_at j (n + 1) rs (set ts r.table (made r.table n)) (AllPairs-tail (λ (a b : Remote). a.table ≢ b.table) r rs differ))
    where
      here : r.table ≡ j → (o : Option Relation) → slice_get ts j ≡ o → option_map (instead j None) (slice_get (set ts r.table (made r.table n)) j) ≡ option_map (instead j (Some n)) o
      here same (Some t) is =
          ap (λ (o : Option Relation). option_map (instead j None) o)
          (ap (slice_get (set ts r.table (made r.table n))) (sym same)
          ∙ get_set_same ts r.table (made r.table n) (slice_get_within ts r.table t (ap (slice_get ts) same ∙ is)))
          ∙ ap (λ (m : ℕ). let o : Option Relation = Some (made m n) in o) same
      here same None is = ap (λ (o : Option Relation). option_map (instead j None) o) (none (slice_get (set ts r.table (made r.table n)) j) refl)
        where
          low_none : (xs : List Relation) (k : ℕ) → k < length xs → slice_get xs k ≡ None → ⊥
          low_none [] k low e = omega (arith, low)
          low_none (x ∷ xs) zero low e = clash e
            where
              clash : {t : Relation} → Some t ≡ None → ⊥
              clash e = cc
          low_none (x ∷ xs) (suc k) low e = low_none xs k (omega (arith, low)) e

          none : (o : Option Relation) → slice_get (set ts r.table (made r.table n)) j ≡ o → o ≡ None
          none None e = refl
          none (Some t) e = absurd (low_none ts j (omega (arith, slice_get_within (set ts r.table (made r.table n)) j t e, length-set ts r.table (made r.table n))) is)

      by : (b : Bool) → (r.table == j) ≡ b
          → slice_get (exchanged (set ts r.table (made r.table n)) rs (remote_tables_from rows tables keys (n + 1) rs)) j
          ≡ option_map (instead j (position_from (λ (s : Remote). s.table == j) (n + 1) rs)) (slice_get (set ts r.table (made r.table n)) j)
          → slice_get (exchanged (set ts r.table (made r.table n)) rs (remote_tables_from rows tables keys (n + 1) rs)) j
          ≡ option_map (instead j (cond b (Some n) (position_from (λ (s : Remote). s.table == j) (n + 1) rs))) (slice_get ts j)
      by true is again =
          let same : r.table ≡ j = eqb-true r.table j is in
          let none : position_from (λ (s : Remote). s.table == j) (n + 1) rs ≡ None =
          no_place j (n + 1) rs (subst (λ (m : ℕ). All (λ (s : Remote). m ≢ s.table) rs) same (AllPairs-head (λ (a b : Remote). a.table ≢ b.table) r rs differ)) in
          again
          ∙ ap (λ (o : Option ℕ). option_map (instead j o) (slice_get (set ts r.table (made r.table n)) j)) none
          ∙ here same (slice_get ts j) refl
      by false is again =
          again
          ∙ ap (λ (o : Option Relation). option_map (instead j (position_from (λ (s : Remote). s.table == j) (n + 1) rs)) o)
          (get_set_other ts r.table j (made r.table n) (eqb-false r.table j is))

  filled_at : (remotes : List Remote) (m j p : ℕ) (ts : List Relation) → p ≡ m + j → slice_get (filled_from remotes rows keys m ts) j ≡ option_map (filled rows keys (remote_of remotes p)) (slice_get ts j)
  filled_at remotes m j p [] e = refl
  filled_at remotes m zero p (t ∷ ts) e =
      let same : m ≡ p = omega (arith, e) in
      ap (λ (k : ℕ). let o : Option Relation = Some (filled rows keys (remote_of remotes k) t) in o) same
  filled_at remotes m (suc j) p (t ∷ ts) e = filled_at remotes (m + 1) j p ts (omega (arith, e))

  -- so both are one list
  pub filling : (remotes : List Remote) → AllPairs (λ (a b : Remote). a.table ≢ b.table) remotes
      → exchanged tables remotes (remote_tables rows tables keys remotes) ≡ tables_for remotes rows tables keys
  filling remotes differ = same_gets (exchanged tables remotes (remote_tables rows tables keys remotes)) (tables_for remotes rows tables keys) each
    where
      alike : (j : ℕ) (o : Option ℕ) (q : Option Relation) → slice_get tables j ≡ q → option_map (instead j o) q ≡ option_map (filled rows keys o) q
      alike j o None is = refl
      alike j None (Some t) is = refl
      alike j (Some n) (Some t) is =
          let columns : table_columns tables j ≡ t.columns = ap (λ (p : Option Relation). option_map_or (λ (s : Relation). s.columns) p []) is in
          ap (λ (cs : List Column). let u : Relation = record { columns = cs; rows = flat_map (rows n) (keys_at keys n) } in let r : Option Relation = Some u in r) columns

      each : (j : ℕ) → slice_get (exchanged tables remotes (remote_tables rows tables keys remotes)) j ≡ slice_get (tables_for remotes rows tables keys) j
      each j =
          exchanged_at j 0 remotes tables differ
          ∙ ap (λ (o : Option ℕ). option_map (instead j o) (slice_get tables j)) (sym (position_from-zero (λ (s : Remote). s.table == j) remotes))
          ∙ alike j (remote_of remotes j) (slice_get tables j) refl
          ∙ sym (filled_at remotes 0 j j tables (omega arith))
