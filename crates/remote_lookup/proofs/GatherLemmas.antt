-- The tables of remotes with the rows of the keys that are loaded.
use Rattle.std.proofs.Common.{◌≡◌, ℕ, zero, suc, ◌+◌, ◌<◌, ◌≤◌, Bool, true, false, cond, List, [], ◌∷◌, ◌++◌, set, length, map, Option, Some, refl, ap, sym, ◌∙◌, subst, arith}
use Rattle.std.specs.Prelude.{◌==◌, ℤ, filter, All, slice_get, IfSome, Result}
use Rattle.std.specs.List.{flat_map}
use Rattle.std.specs.Option.{option_map_or}
use Rattle.std.proofs.lemmas.Bool.{eqb-true, eq-eqb, false_from_ne_true}
use Rattle.std.proofs.lemmas.Grind.{flat_map-append}
use Rattle.std.proofs.lemmas.List.{append_assoc, append-nil, length-append}
use Rattle.std.proofs.lemmas.List.Elements.{All-cons, All-head, All-nil, All-tail, filter-append}
use Rattle.std.proofs.lemmas.Option.{slice_get_within}
use Rattle.sq_value.specs.Relation.{Relation}
use Rattle.sq_value.specs.declared.table.Column.{Column}
use Rattle.sq_value.specs.declared.value.Value.{Value}
use Rattle.remote_lookup.specs.Filled.{keys_at}
use Rattle.remote_lookup.specs.Gathered.{CanTake, with_key, with_keys}
use Rattle.remote_lookup.specs.KeyFiles.{table_columns}
use Rattle.remote_lookup.specs.Loaded.{remote_tables_from}
use Rattle.remote_lookup.specs.Rounds.{Cause, rows_of_file}
use Rattle.remote_lookup.specs.Working.{IsEntry, IsStored, empty_of, known, rows_loaded}
use Rattle.remote_lookup.specs.declared.remote.Remote.{Remote}
use Rattle.remote_lookup.specs.declared.remote.RemoteKey.{RemoteKey}
use Rattle.remote_lookup.proofs.CountLemmas.{loaded_rows}
use Rattle.remote_lookup.proofs.InsertLemmas.{Entry}
use Rattle.remote_lookup.proofs.QueryLemmas.{some_one}

-- the rows of a remote
abbrev rows_at : List Entry → ℕ → List (List Value)
rows_at entries n = flat_map (λ (e : Entry). e.1.rows) (filter (λ (e : Entry). e.0.remote == n) entries)

rows_push : (d : List Entry) (e : Entry) (n : ℕ) (b : Bool) → (e.0.remote == n) ≡ b → rows_at (d ++ e ∷ []) n ≡ rows_at d n ++ cond b e.1.rows []
rows_push d e n b is =
    ap (λ (l : List Entry). flat_map (λ (x : Entry). x.1.rows) l) (filter-append (λ (x : Entry). x.0.remote == n) d (e ∷ []))
    ∙ flat_map-append (λ (x : Entry). x.1.rows) (filter (λ (x : Entry). x.0.remote == n) d) (filter (λ (x : Entry). x.0.remote == n) (e ∷ []))
    ∙ ap (λ (l : List (List Value)). rows_at d n ++ l) (ap (λ (c : Bool). flat_map (λ (x : Entry). x.1.rows) (cond c (e ∷ []) [])) is ∙ alone b)
  where
    alone : (c : Bool) → flat_map (λ (x : Entry). x.1.rows) (cond c (e ∷ []) []) ≡ cond c e.1.rows []
    alone true = append-nil e.1.rows
    alone false = refl

loaded_append : (xs ys : List Entry) (n : ℕ) → rows_loaded (xs ++ ys) n ≡ rows_loaded xs n + rows_loaded ys n
loaded_append xs ys n =
    ap (λ (l : List Entry). length (flat_map (λ (x : Entry). x.1.rows) l)) (filter-append (λ (x : Entry). x.0.remote == n) xs ys)
    ∙ ap (length {A = List Value}) (flat_map-append (λ (x : Entry). x.1.rows) (filter (λ (x : Entry). x.0.remote == n) xs) (filter (λ (x : Entry). x.0.remote == n) ys))
    ∙ length-append (rows_at xs n) (rows_at ys n)

apart : (a b : ℕ) → (a ≡ b → ⊥) → (a == b) ≡ false
apart a b ne = false_from_ne_true (a == b) (λ h. ne (eqb-true a b h))

-- a key's rows behind those of its remote's table
pub taken_key : (into : List Relation) (k : RemoteKey) (t old new : Relation) → slice_get into k.remote ≡ Some old → new ≡ record old { rows = old.rows ++ t.rows }
    → set into k.remote new ≡ with_key into (k, t)
taken_key into k t old new at is =
    ap (set into k.remote) is
    ∙ sym (ap (λ (o : Option Relation). option_map_or (λ (s : Relation). set into k.remote (record s { rows = s.rows ++ t.rows })) o into) at)

module _ (tables : List Relation) where
  abbrev made : List Entry → ℕ → Remote → Relation
  made d n r = record { columns = table_columns tables r.table; rows = rows_at d n }

  -- a table for each remote, the first of them with this number, with the rows of its keys
  abbrev pub stacked : List Entry → ℕ → List Remote → List Relation
  stacked d n [] = []
  stacked d n (r ∷ rs) = made d n r ∷ stacked d (n + 1) rs

  pub stacked_none : (n : ℕ) (rs : List Remote) → map (empty_of tables) rs ≡ stacked [] n rs
  stacked_none n [] = refl
  stacked_none n (r ∷ rs) = ap (λ (l : List Relation). made [] n r ∷ l) (stacked_none (n + 1) rs)

  pub length_stacked : (d : List Entry) (n : ℕ) (rs : List Remote) → length (stacked d n rs) ≡ length rs
  length_stacked d n [] = refl
  length_stacked d n (r ∷ rs) = ap suc (length_stacked d (n + 1) rs)

  get_stacked : (d : List Entry) (n i m : ℕ) (rs : List Remote) (r : Remote) → slice_get rs i ≡ Some r → m ≡ n + i → slice_get (stacked d n rs) i ≡ Some (made d m r)
  get_stacked d n i m [] r at is = absurd cc
  get_stacked d n zero m (x ∷ rs) r at is =
      let one : x ≡ r = some_one at in
      let same : n ≡ m = omega (arith, is) in
      ap (λ (y : Remote). let o : Option Relation = Some (made d n y) in o) one ∙ ap (λ (k : ℕ). let o : Option Relation = Some (made d k r) in o) same
  get_stacked d n (suc i) m (x ∷ rs) r at is = get_stacked d (n + 1) i m rs r at (omega (arith, is))

  -- a key adds its rows to its remote's table alone
  other_row : (d : List Entry) (e : Entry) (n : ℕ) (rs : List Remote) → e.0.remote < n → stacked (d ++ e ∷ []) n rs ≡ stacked d n rs
  other_row d e n [] low = refl
  other_row d e n (r ∷ rs) low =
      let no : (e.0.remote == n) ≡ false = apart e.0.remote n (λ same. omega (arith, low, same)) in
      let same : rows_at (d ++ e ∷ []) n ≡ rows_at d n = rows_push d e n false no ∙ append-nil (rows_at d n) in
      ap (λ (l : List (List Value)). let t : Relation = record { columns = table_columns tables r.table; rows = l } in t ∷ stacked (d ++ e ∷ []) (n + 1) rs) same
      ∙ ap (λ (l : List Relation). made d n r ∷ l) (other_row d e (n + 1) rs (omega (arith, low)))

  add_row : (d : List Entry) (e : Entry) (n i : ℕ) (rs : List Remote) (t : Relation) → e.0.remote ≡ n + i → slice_get (stacked d n rs) i ≡ Some t
      → set (stacked d n rs) i (record t { rows = t.rows ++ e.1.rows }) ≡ stacked (d ++ e ∷ []) n rs
  add_row d e n i [] t is at = absurd cc
  add_row d e n zero (r ∷ rs) t is at =
      let one : made d n r ≡ t = some_one at in
      let mine : e.0.remote ≡ n = omega (arith, is) in
      let new : rows_at d n ++ e.1.rows ≡ rows_at (d ++ e ∷ []) n = sym (rows_push d e n true (eq-eqb e.0.remote n mine)) in
      ap (λ (s : Relation). let u : Relation = record s { rows = s.rows ++ e.1.rows } in u ∷ stacked d (n + 1) rs) (sym one)
      ∙ ap (λ (l : List (List Value)). let u : Relation = record { columns = table_columns tables r.table; rows = l } in u ∷ stacked d (n + 1) rs) new
      ∙ ap (λ (l : List Relation). made (d ++ e ∷ []) n r ∷ l) (sym (other_row d e (n + 1) rs (omega (arith, mine))))
  add_row d e n (suc i) (r ∷ rs) t is at =
      let no : (e.0.remote == n) ≡ false = apart e.0.remote n (λ same. omega (arith, is, same)) in
      let same : rows_at d n ≡ rows_at (d ++ e ∷ []) n = sym (rows_push d e n false no ∙ append-nil (rows_at d n)) in
      ap (λ (l : List Relation). made d n r ∷ l) (add_row d e (n + 1) i rs t (omega (arith, is)) at)
      ∙ ap (λ (l : List (List Value)). let u : Relation = record { columns = table_columns tables r.table; rows = l } in u ∷ stacked (d ++ e ∷ []) (n + 1) rs) same

  module _ (remotes : List Remote) where
    one_more : (d : List Entry) (e : Entry) → IsEntry tables remotes e → with_key (stacked d 0 remotes) e ≡ stacked (d ++ e ∷ []) 0 remotes
    one_more d e entry =
        let at = get_stacked d 0 e.0.remote e.0.remote remotes entry.0 entry.1 (omega arith) in
        let t : Relation = made d e.0.remote entry.0 in
        ap (λ (o : Option Relation). option_map_or (λ (s : Relation). set (stacked d 0 remotes) e.0.remote (record s { rows = s.rows ++ e.1.rows })) o (stacked d 0 remotes)) at
        ∙ add_row d e 0 e.0.remote remotes t (omega arith) at

    -- so all keys give the tables with the rows of all
    pub with_all : (d es : List Entry) → All (IsEntry tables remotes) es → with_keys (stacked d 0 remotes) es ≡ stacked (d ++ es) 0 remotes
    with_all d [] all = ap (λ (l : List Entry). stacked l 0 remotes) (sym (append-nil d))
    with_all d (e ∷ es) all =
        ap (λ (l : List Relation). with_keys l es) (one_more d e (All-head (IsEntry tables remotes) e es all))
        ∙ with_all (d ++ e ∷ []) es (All-tail (IsEntry tables remotes) e es all)
        ∙ ap (λ (l : List Entry). stacked l 0 remotes) (append_assoc d (e ∷ []) es)

    -- and there is room for them
    pub can_take : (d es : List Entry) → All (IsEntry tables remotes) es → ((n : ℕ) → n < length remotes → rows_loaded (d ++ es) n ≤ 4000000) → CanTake (stacked d 0 remotes) es
    can_take d [] all few = tt
    can_take d (e ∷ es) all few = (low, there, subst (λ (l : List Relation). CanTake l es) (sym (one_more d e entry)) (can_take (d ++ e ∷ []) es (All-tail (IsEntry tables remotes) e es all) fewer))
      where
        entry : IsEntry tables remotes e
        entry = All-head (IsEntry tables remotes) e es all

        within : e.0.remote < length remotes
        within = slice_get_within remotes e.0.remote entry.0 entry.1

        low : e.0.remote < length (stacked d 0 remotes)
        low = omega (arith, within, length_stacked d 0 remotes)

        fewer : (n : ℕ) → n < length remotes → rows_loaded ((d ++ e ∷ []) ++ es) n ≤ 4000000
        fewer n h = subst (λ (l : List Entry). rows_loaded l n ≤ 4000000) (sym (append_assoc d (e ∷ []) es)) (few n h)

        mine : rows_loaded (e ∷ []) e.0.remote ≡ length e.1.rows
        mine = ap (λ (b : Bool). length (flat_map (λ (x : Entry). x.1.rows) (cond b (e ∷ []) []))) (eq-eqb e.0.remote e.0.remote refl) ∙ ap (length {A = List Value}) (append-nil e.1.rows)

        room : rows_loaded d e.0.remote + length e.1.rows < 4294967296
        room = omega (arith, few e.0.remote within, loaded_append d (e ∷ es) e.0.remote, loaded_append (e ∷ []) es e.0.remote, mine)

        there : IfSome (slice_get (stacked d 0 remotes) e.0.remote) (λ (t : Relation). (e.1.columns ≡ t.columns) × (length t.rows + length e.1.rows < 4294967296))
        there = subst (λ (o : Option Relation). IfSome o (λ (t : Relation). (e.1.columns ≡ t.columns) × (length t.rows + length e.1.rows < 4294967296)))
            (sym (get_stacked d 0 e.0.remote e.0.remote remotes entry.0 entry.1 (omega arith))) (entry.2, room)

  -- each table has few rows where each remote has
  pub few_stacked : (d : List Entry) (n : ℕ) (rs : List Remote) → ((i : ℕ) → i < n + length rs → rows_loaded d i ≤ 4000000) → All (λ (t : Relation). length t.rows ≤ 4000000) (stacked d n rs)
  few_stacked d n [] few = All-nil (λ (t : Relation). length t.rows ≤ 4000000)
  few_stacked d n (r ∷ rs) few =
      All-cons (λ (t : Relation). length t.rows ≤ 4000000) (made d n r) (stacked d (n + 1) rs) (few n (omega arith)) (few_stacked d (n + 1) rs (λ i low. few i (omega (arith, low))))

  pub columns_stacked : (d : List Entry) (n : ℕ) (rs : List Remote) → map (λ (t : Relation). t.columns) (stacked d n rs) ≡ map (λ (r : Remote). table_columns tables r.table) rs
  columns_stacked d n [] = refl
  columns_stacked d n (r ∷ rs) = ap (λ (l : List (List Column)). table_columns tables r.table ∷ l) (columns_stacked d (n + 1) rs)

  -- where the rows are those of files, these are the tables for the keys
  pub filled_stacked : (file : ℕ → ℤ → Result (List (List Value)) Cause) (d : List Entry) → All (IsStored file) d → (n : ℕ) (rs : List Remote)
      → stacked d n rs ≡ remote_tables_from (λ r k. rows_of_file (file r k)) tables (known d) n rs
  filled_stacked file d stored n [] = refl
  filled_stacked file d stored n (r ∷ rs) =
      ap (λ (l : List (List Value)). let u : Relation = record { columns = table_columns tables r.table; rows = l } in u ∷ stacked d (n + 1) rs) (sym (loaded_rows file d n stored))
      ∙ ap (λ (l : List Relation). record { columns = table_columns tables r.table; rows = flat_map (λ (k : ℤ). rows_of_file (file n k)) (keys_at (known d) n) } ∷ l) (filled_stacked file d stored (n + 1) rs)
