-- How many rows of a remote are loaded, and what that does to the first fault of a round.
use Rattle.std.proofs.Common.{◌≡◌, ℕ, ◌+◌, Bool, true, false, cond, List, [], ◌∷◌, ◌++◌, length, map, Option, Some, None, refl, ap, sym, ◌∙◌, arith}
use Rattle.std.specs.Prelude.{◌==◌, ℤ, nat_lt, filter, All, Result, Ok, Err}
use Rattle.std.specs.List.{flat_map}
use Rattle.std.proofs.lemmas.Bool.{eqb-true}
use Rattle.std.proofs.lemmas.List.{length-append}
use Rattle.std.proofs.lemmas.List.Elements.{All-head, All-tail}
use Rattle.sq_value.specs.Relation.{Relation}
use Rattle.sq_value.specs.declared.value.Value.{Value}
use Rattle.remote_lookup.specs.Filled.{keys_at}
use Rattle.remote_lookup.specs.Rounds.{Cause, rows_of_file, row_count_of, fault_at, first_fault}
use Rattle.remote_lookup.specs.Working.{known, rows_loaded, IsStored}
use Rattle.remote_lookup.specs.declared.remote.RemoteKey.{RemoteKey}
use Rattle.remote_lookup.specs.declared.remote.RemoteFault.{RemoteFault}
use Rattle.remote_lookup.specs.declared.remote.RemoteFault.TheVariants as fault

module _ (file : ℕ → ℤ → Result (List (List Value)) Cause) where
  -- the rows of the files of what is loaded are those that are loaded
  pub loaded_rows : (entries : List (RemoteKey × Relation)) (remote : ℕ) → All (IsStored file) entries
      → flat_map (λ (k : ℤ). rows_of_file (file remote k)) (keys_at (known entries) remote)
      ≡ flat_map (λ (e : RemoteKey × Relation). e.1.rows) (filter (λ (e : RemoteKey × Relation). e.0.remote == remote) entries)
  loaded_rows [] remote h = refl
  loaded_rows (e ∷ es) remote h = by (e.0.remote == remote) refl (loaded_rows es remote (All-tail (IsStored file) e es h))
    where
      by : (b : Bool) → (e.0.remote == remote) ≡ b
          → flat_map (λ (k : ℤ). rows_of_file (file remote k)) (keys_at (known es) remote)
          ≡ flat_map (λ (d : RemoteKey × Relation). d.1.rows) (filter (λ (d : RemoteKey × Relation). d.0.remote == remote) es)
          → flat_map (λ (k : ℤ). rows_of_file (file remote k)) (map (λ (k : RemoteKey). k.key) (cond b (e.0 ∷ filter (λ (k : RemoteKey). k.remote == remote) (known es)) (filter (λ (k : RemoteKey). k.remote == remote) (known es))))
          ≡ flat_map (λ (d : RemoteKey × Relation). d.1.rows) (cond b (e ∷ filter (λ (d : RemoteKey × Relation). d.0.remote == remote) es) (filter (λ (d : RemoteKey × Relation). d.0.remote == remote) es))
      by true is rest =
          let mine : rows_of_file (file remote e.0.key) ≡ e.1.rows =
          ap (λ (n : ℕ). rows_of_file (file n e.0.key)) (sym (eqb-true e.0.remote remote is)) ∙ ap rows_of_file (All-head (IsStored file) e es h) in
          ap (λ (l : List (List Value)). l ++ flat_map (λ (k : ℤ). rows_of_file (file remote k)) (keys_at (known es) remote)) mine
          ∙ ap (λ (l : List (List Value)). e.1.rows ++ l) rest
      by false is rest = rest

  -- so a tally tells what the definition counts
  pub loaded_count : (entries : List (RemoteKey × Relation)) (remote : ℕ) → All (IsStored file) entries
      → row_count_of file (known entries) remote ≡ rows_loaded entries remote
  loaded_count entries remote h = ap length (loaded_rows entries remote h)

  abbrev HaveAlike : List RemoteKey → List RemoteKey → Type 0
  HaveAlike a b = (remote : ℕ) → row_count_of file a remote ≡ row_count_of file b remote

  -- one key more adds the rows of its file
  count_push : (keys : List RemoteKey) (k : RemoteKey) (remote : ℕ)
      → row_count_of file (keys ++ k ∷ []) remote ≡ row_count_of file keys remote + cond (k.remote == remote) (length (rows_of_file (file remote k.key))) 0
  count_push [] k remote = by (k.remote == remote)
    where
      by : (b : Bool) → length (flat_map (λ (j : ℤ). rows_of_file (file remote j)) (map (λ (j : RemoteKey). j.key) (cond b (k ∷ []) [])))
          ≡ 0 + cond b (length (rows_of_file (file remote k.key))) 0
      by true = length-append (rows_of_file (file remote k.key)) [] ∙ omega arith
      by false = refl
  count_push (j ∷ keys) k remote = by (j.remote == remote) (count_push keys k remote)
    where
      by : (b : Bool) → row_count_of file (keys ++ k ∷ []) remote ≡ row_count_of file keys remote + cond (k.remote == remote) (length (rows_of_file (file remote k.key))) 0
          → length (flat_map (λ (i : ℤ). rows_of_file (file remote i)) (map (λ (i : RemoteKey). i.key) (cond b (j ∷ filter (λ (i : RemoteKey). i.remote == remote) (keys ++ k ∷ [])) (filter (λ (i : RemoteKey). i.remote == remote) (keys ++ k ∷ [])))))
          ≡ length (flat_map (λ (i : ℤ). rows_of_file (file remote i)) (map (λ (i : RemoteKey). i.key) (cond b (j ∷ filter (λ (i : RemoteKey). i.remote == remote) keys) (filter (λ (i : RemoteKey). i.remote == remote) keys))))
          + cond (k.remote == remote) (length (rows_of_file (file remote k.key))) 0
      by true again =
          let mine = rows_of_file (file remote j.key) in
          let new = length-append mine (flat_map (λ (i : ℤ). rows_of_file (file remote i)) (keys_at (keys ++ k ∷ []) remote)) in
          let old = length-append mine (flat_map (λ (i : ℤ). rows_of_file (file remote i)) (keys_at keys remote)) in
          omega (arith, new, old, again)
      by false again = again

  alike_push : (a b : List RemoteKey) (k : RemoteKey) → HaveAlike a b → HaveAlike (a ++ k ∷ []) (b ++ k ∷ [])
  alike_push a b k same remote =
      count_push a k remote ∙ ap (λ (n : ℕ). n + cond (k.remote == remote) (length (rows_of_file (file remote k.key))) 0) (same remote) ∙ sym (count_push b k remote)

  fault_alike : (a b : List RemoteKey) (k : RemoteKey) (r : Result (List (List Value)) Cause) → HaveAlike a b → fault_at file a k r ≡ fault_at file b k r
  fault_alike a b k (Err cause) same = refl
  fault_alike a b k (Ok rows) same =
      ap (λ (n : ℕ). let o : Option RemoteFault = cond (nat_lt 4000000 (n + length rows)) (Some (fault.TooManyRows k.remote)) None in o) (same k.remote)

  -- the first fault where the first key has one, and where it has none
  pub first_found : (a : List RemoteKey) (k : RemoteKey) (keys : List RemoteKey) (f : RemoteFault)
      → fault_at file a k (file k.remote k.key) ≡ Some f → first_fault file a (k ∷ keys) ≡ Some f
  unfolding first_fault
  first_found a k keys f e = rw e refl

  pub first_none : (a : List RemoteKey) (k : RemoteKey) (keys : List RemoteKey)
      → fault_at file a k (file k.remote k.key) ≡ None → first_fault file a (k ∷ keys) ≡ first_fault file (a ++ k ∷ []) keys
  unfolding first_fault
  first_none a k keys e = rw e refl

  -- the first fault of a round goes by how many rows there are, and not by their order
  pub first_alike : (keys a b : List RemoteKey) → HaveAlike a b → first_fault file a keys ≡ first_fault file b keys
  unfolding first_fault
  first_alike [] a b same = refl
  first_alike (k ∷ keys) a b same = by (fault_at file a k (file k.remote k.key)) refl (first_alike keys (a ++ k ∷ []) (b ++ k ∷ []) (alike_push a b k same))
    where
      by : (o : Option RemoteFault) → fault_at file a k (file k.remote k.key) ≡ o → first_fault file (a ++ k ∷ []) keys ≡ first_fault file (b ++ k ∷ []) keys
          → first_fault file a (k ∷ keys) ≡ first_fault file b (k ∷ keys)
      by (Some f) e again = first_found a k keys f e ∙ sym (first_found b k keys f (sym (fault_alike a b k (file k.remote k.key) same) ∙ e))
      by None e again =
          first_none a k keys e ∙ again
          ∙ sym (first_none b k keys (sym (fault_alike a b k (file k.remote k.key) same) ∙ e))
