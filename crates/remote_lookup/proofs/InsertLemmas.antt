-- What one key more does to what is loaded.
use Rattle.std.proofs.Common.{◌≡◌, ℕ, ◌+◌, ◌<◌, ◌≤◌, Bool, true, false, cond, List, [], ◌∷◌, ◌++◌, set, length, map, Some, refl, ap, sym, ◌∙◌, subst, arith}
use Rattle.std.specs.Prelude.{◌&&◌, ◌||◌, ◌==◌, filter, All, slice_get}
use Rattle.std.specs.BTreeMap.{insert_entry}
use Rattle.std.specs.List.{flat_map}
use Rattle.std.specs.Ordering.{int_eq, is_eq, match_ordering}
use Rattle.std.specs.declared.cmp.Ordering.{Ordering}
use Rattle.std.specs.declared.cmp.Ordering.TheVariants.{Less, Equal, Greater}
use Rattle.std.proofs.lemmas.Bool.{false≢true, eqb-true, eqb-false, eq-eqb}
use Rattle.std.proofs.lemmas.Grind.{flat_map-append}
use Rattle.std.proofs.lemmas.List.{length-append, map-append}
use Rattle.std.proofs.lemmas.List.Elements.{All-append, All-cons, All-head, All-tail, All-nil, filter-append}
use Rattle.std.proofs.lemmas.Option.{slice_get_within}
use Rattle.sq_value.specs.Relation.{Relation}
use Rattle.sq_value.specs.declared.value.Value.{Value}
use Rattle.remote_lookup.specs.Filled.{keys_at}
use Rattle.remote_lookup.specs.Rounds.{key_order, lists_key}
use Rattle.remote_lookup.specs.Working.{AreJoined, IsTallyOf, known, rows_loaded}
use Rattle.remote_lookup.specs.declared.remote.RemoteKey.{RemoteKey}
use Rattle.remote_lookup.specs.declared.rounds.Tally.{Tally}
use Rattle.remote_lookup.proofs.JoinLemmas.{joined_between}
use Rattle.remote_lookup.proofs.PlaceLemmas.{get_set_same, get_set_other}
use Rattle.remote_lookup.proofs.QueryLemmas.{some_one}
use Rattle.remote_lookup.proofs.SetLemmas.{ties}

pub left_false : (a b : Bool) → (a || b) ≡ false → a ≡ false
left_false true b e = absurd (false≢true (sym e))
left_false false b e = refl

pub right_false : (a b : Bool) → (a || b) ≡ false → b ≡ false
right_false true b e = absurd (false≢true (sym e))
right_false false b e = e

abbrev pub Entry : Type 0
Entry = RemoteKey × Relation

-- a new key's place: between entries that stay
pub record Parts (es : List Entry) (k : RemoteKey) (v : Relation) : Type 0 where
  pub front : List Entry
  pub back : List Entry
  pub old : es ≡ front ++ back
  pub new : insert_entry key_order es k v ≡ front ++ (k, v) ∷ back

pub parts : (es : List Entry) (k : RemoteKey) (v : Relation) → lists_key (known es) k.remote k.key ≡ false → Parts es k v
parts [] k v new = record { front = []; back = []; old = refl; new = refl }
parts (e ∷ es) k v new = by (key_order k e.0) refl (parts es k v)
  where
    apart : ((e.0.remote == k.remote) && int_eq e.0.key k.key) ≡ false
    apart = left_false ((e.0.remote == k.remote) && int_eq e.0.key k.key) (lists_key (known es) k.remote k.key) new

    later : key_order k e.0 ≡ Greater → Parts es k v → Parts (e ∷ es) k v
    later is p = record {
      front = e ∷ p.front;
      back = p.back;
      old = ap (λ (l : List Entry). e ∷ l) p.old;
      new = ap (λ (o : Ordering). match_ordering o ((k, v) ∷ e ∷ es) ((e.0, v) ∷ es) (e ∷ insert_entry key_order es k v)) is ∙ ap (λ (l : List Entry). e ∷ l) p.new;
    }

    by : (o : Ordering) → key_order k e.0 ≡ o → (lists_key (known es) k.remote k.key ≡ false → Parts es k v) → Parts (e ∷ es) k v
    by Less is again = record {
      front = [];
      back = e ∷ es;
      old = refl;
      new = ap (λ (o : Ordering). match_ordering o ((k, v) ∷ e ∷ es) ((e.0, v) ∷ es) (e ∷ insert_entry key_order es k v)) is;
    }
    by Equal is again = absurd (false≢true (sym apart ∙ sym (ties k e.0) ∙ ap is_eq is))
    by Greater is again = later is (again (right_false ((e.0.remote == k.remote) && int_eq e.0.key k.key) (lists_key (known es) k.remote k.key) new))

All-front : {X : Type 0} (P : X → Type 0) (xs ys : List X) → All P (xs ++ ys) → All P xs
All-front P [] ys h = All-nil P
All-front P (x ∷ xs) ys h = All-cons P x xs (All-head P x (xs ++ ys) h) (All-front P xs ys (All-tail P x (xs ++ ys) h))

All-back : {X : Type 0} (P : X → Type 0) (xs ys : List X) → All P (xs ++ ys) → All P ys
All-back P [] ys h = h
All-back P (x ∷ xs) ys h = All-back P xs ys (All-tail P x (xs ++ ys) h)

module _ (es : List Entry) (k : RemoteKey) (v : Relation) (new : lists_key (known es) k.remote k.key ≡ false) where
  -- what holds of all holds of one more
  pub all_insert : (P : Entry → Type 0) → All P es → P (k, v) → All P (insert_entry key_order es k v)
  all_insert P all one =
      let p = parts es k v new in
      let both : All P (p.front ++ p.back) = subst (All P) p.old all in
      subst (All P) (sym p.new) (All-append P p.front ((k, v) ∷ p.back) (All-front P p.front p.back both) (All-cons P (k, v) p.back one (All-back P p.front p.back both)))

  -- and what holds of all with it holds of all, and of it
  pub all_inserted : (P : Entry → Type 0) → All P (insert_entry key_order es k v) → All P es × P (k, v)
  all_inserted P all =
      let p = parts es k v new in
      let both : All P (p.front ++ (k, v) ∷ p.back) = subst (All P) p.new all in
      let back = All-back P p.front ((k, v) ∷ p.back) both in
      (subst (All P) (sym p.old) (All-append P p.front p.back (All-front P p.front ((k, v) ∷ p.back) both) (All-tail P (k, v) p.back back)), All-head P (k, v) p.back back)

  -- the keys are those with one more
  pub joined_insert : AreJoined (known es) (k ∷ []) (known (insert_entry key_order es k v))
  joined_insert =
      let p = parts es k v new in
      subst (λ (l : List RemoteKey). AreJoined l (k ∷ []) (known (insert_entry key_order es k v))) (sym (ap known p.old ∙ map-append (λ (e : Entry). e.0) p.front p.back))
      (subst (λ (l : List RemoteKey). AreJoined (known p.front ++ known p.back) (k ∷ []) l) (sym (ap known p.new ∙ map-append (λ (e : Entry). e.0) p.front ((k, v) ∷ p.back)))
      (joined_between (known p.front) (known p.back) k))

  loaded_append : (xs ys : List Entry) (remote : ℕ) → rows_loaded (xs ++ ys) remote ≡ rows_loaded xs remote + rows_loaded ys remote
  loaded_append xs ys remote =
      ap (λ (l : List Entry). length (flat_map (λ (e : Entry). e.1.rows) l)) (filter-append (λ (e : Entry). e.0.remote == remote) xs ys)
      ∙ ap (length {A = List Value}) (flat_map-append (λ (e : Entry). e.1.rows) (filter (λ (e : Entry). e.0.remote == remote) xs) (filter (λ (e : Entry). e.0.remote == remote) ys))
      ∙ length-append (flat_map (λ (e : Entry). e.1.rows) (filter (λ (e : Entry). e.0.remote == remote) xs)) (flat_map (λ (e : Entry). e.1.rows) (filter (λ (e : Entry). e.0.remote == remote) ys))

  -- and the rows are those with its rows
  rows_insert : (remote : ℕ) → rows_loaded (insert_entry key_order es k v) remote ≡ rows_loaded es remote + rows_loaded ((k, v) ∷ []) remote
  rows_insert remote =
      let p = parts es k v new in
      let now = ap (λ (l : List Entry). rows_loaded l remote) p.new in
      let was = ap (λ (l : List Entry). rows_loaded l remote) p.old in
      omega (arith, now, was, loaded_append p.front ((k, v) ∷ p.back) remote, loaded_append ((k, v) ∷ []) p.back remote, loaded_append p.front p.back remote)

  one_row : (remote : ℕ) (b : Bool) → (k.remote == remote) ≡ b → rows_loaded ((k, v) ∷ []) remote ≡ cond b (length v.rows) 0
  one_row remote true is =
      ap (λ (b : Bool). length (flat_map (λ (e : Entry). e.1.rows) (cond b ((k, v) ∷ []) []))) is ∙ length-append v.rows [] ∙ omega arith
  one_row remote false is = ap (λ (b : Bool). length (flat_map (λ (e : Entry). e.1.rows) (cond b ((k, v) ∷ []) []))) is

  one_key : (remote : ℕ) (b : Bool) → (k.remote == remote) ≡ b → length (keys_at (k ∷ []) remote) ≡ cond b 1 0
  one_key remote true is = ap (λ (b : Bool). length (map (λ (j : RemoteKey). j.key) (cond b (k ∷ []) []))) is
  one_key remote false is = ap (λ (b : Bool). length (map (λ (j : RemoteKey). j.key) (cond b (k ∷ []) []))) is

  -- so the tallies tell them where the remote's counts its own
  pub tally_own : (old now : Tally) (remote : ℕ) → k.remote ≡ remote → IsTallyOf es remote old → now ≡ record { keys = old.keys + 1; rows = old.rows + length v.rows }
      → old.keys < 10000 → old.rows + length v.rows ≤ 4000000 → IsTallyOf (insert_entry key_order es k v) remote now
  tally_own old now remote same of is few room = subst (IsTallyOf (insert_entry key_order es k v) remote) (sym is) (record {
    keys = omega (arith, of.keys, joined_insert.count remote, one_key remote true mine);
    rows = omega (arith, of.rows, rows_insert remote, one_row remote true mine);
    few_keys = omega (arith, few);
    few_rows = room;
  })
    where
      mine : (k.remote == remote) ≡ true
      mine = eq-eqb k.remote remote same

  pub tally_other : (old : Tally) (remote : ℕ) → (k.remote == remote) ≡ false → IsTallyOf es remote old → IsTallyOf (insert_entry key_order es k v) remote old
  tally_other old remote apart of = record {
    keys = omega (arith, of.keys, joined_insert.count remote, one_key remote false apart);
    rows = omega (arith, of.rows, rows_insert remote, one_row remote false apart);
    few_keys = of.few_keys;
    few_rows = of.few_rows;
  }

  -- and so do all of them
  pub tallies_insert : (tallies : List Tally) (old now : Tally) → ((remote : ℕ) (t : Tally) → slice_get tallies remote ≡ Some t → IsTallyOf es remote t)
      → slice_get tallies k.remote ≡ Some old → now ≡ record { keys = old.keys + 1; rows = old.rows + length v.rows }
      → old.keys < 10000 → old.rows + length v.rows ≤ 4000000
      → (remote : ℕ) (t : Tally) → slice_get (set tallies k.remote now) remote ≡ Some t → IsTallyOf (insert_entry key_order es k v) remote t
  tallies_insert tallies old now of at is few room remote t there = by (k.remote == remote) refl
    where
      by : (b : Bool) → (k.remote == remote) ≡ b → IsTallyOf (insert_entry key_order es k v) remote t
      by true mine =
          let same : k.remote ≡ remote = eqb-true k.remote remote mine in
          let low = slice_get_within tallies k.remote old at in
          let one : t ≡ now = some_one (sym there ∙ ap (slice_get (set tallies k.remote now)) (sym same) ∙ get_set_same tallies k.remote now low) in
          subst (IsTallyOf (insert_entry key_order es k v) remote) (sym one)
          (tally_own old now remote same (of remote old (ap (slice_get tallies) (sym same) ∙ at)) is few room)
      by false apart = tally_other t remote apart (of remote t (sym (get_set_other tallies k.remote remote now (eqb-false k.remote remote apart)) ∙ there))
