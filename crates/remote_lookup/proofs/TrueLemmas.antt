-- What a load of one key more means.
use Rattle.std.proofs.Common.{◌≡◌, ◌⊎◌, inl, inr, ℕ, ◌+◌, ◌<◌, ◌≤◌, Bool, true, false, cond, List, [], ◌∷◌, ◌++◌, length, Option, Some, None, ap, sym, ◌∙◌, subst, arith}
use Rattle.std.specs.Prelude.{◌↔◌, ℤ, nat_lt, All, slice_get, Result, Ok, Err}
use Rattle.std.proofs.lemmas.Bool.{lt-ltb, ltb-true, false_from_ne_true}
use Rattle.sq_value.specs.Relation.{Relation}
use Rattle.sq_value.specs.declared.value.Value.{Value}
use Rattle.sq_value.specs.declared.value.Truth.{Truth}
use Rattle.sq_expr.specs.declared.block.Block.{Block}
use Rattle.remote_lookup.specs.Asked.{Grows}
use Rattle.remote_lookup.specs.Asking.{IsAskedBehind}
use Rattle.remote_lookup.specs.Asks.{AreAsks}
use Rattle.remote_lookup.specs.KeyFiles.{KeyBytes, table_columns, file_in, key_file_of, rows_in}
use Rattle.remote_lookup.specs.Needed.{IsAskedFor, IsAskedByFile}
use Rattle.remote_lookup.specs.Rounds.{Cause, fault_at, fault_of, lists_key, row_count_of, rows_of_file}
use Rattle.remote_lookup.specs.Working.{AreJoined, IsStored, known, rows_loaded}
use Rattle.remote_lookup.specs.declared.asked.Asked.{Asked}
use Rattle.remote_lookup.specs.declared.asks.Ask.{Ask}
use Rattle.remote_lookup.specs.declared.remote.Remote.{Remote}
use Rattle.remote_lookup.specs.declared.remote.RemoteKey.{RemoteKey}
use Rattle.remote_lookup.specs.declared.remote.RemoteFault.{RemoteFault}
use Rattle.remote_lookup.specs.declared.remote.RemoteFault.TheVariants as fault
use Rattle.remote_lookup.proofs.CountLemmas.{loaded_count}
use Rattle.remote_lookup.proofs.GrowLemmas.{asked_grows}
use Rattle.remote_lookup.proofs.JoinLemmas.{has_append}
use Rattle.remote_lookup.proofs.MeantLemmas.{asked_behind}
use Rattle.remote_lookup.proofs.RoundLemmas.{asked_more}

-- the file of a key of a remote that is there, by what is given of it
pub file_is : (tables : List Relation) (remotes : List Remote) (found : KeyBytes) (at : RemoteKey) (r : Remote) (bytes : Option (List ℕ))
    → slice_get remotes at.remote ≡ Some r → found at.remote at.key ≡ bytes → (x : Result (List (List Value)) Cause)
    → rows_in (table_columns tables r.table) r.column at.key bytes ≡ x → key_file_of tables remotes found at.remote at.key ≡ x
unfolding key_file_of
file_is tables remotes found at r bytes is given x rows =
    ap (file_in tables (found at.remote at.key) at.key) is
    ∙ ap (rows_in (table_columns tables r.table) r.column at.key) given
    ∙ rows

module _ (gives : ℕ → Value → Value → Truth) (block : Block) (tables : List Relation) (remotes : List Remote) (asks : List Ask)
    (are : AreAsks block remotes asks) (file : ℕ → ℤ → Result (List (List Value)) Cause) where
  abbrev rows : ℕ → ℤ → List (List Value)
  rows r k = rows_of_file (file r k)

  -- what is asked for is what the keys that are loaded ask for
  abbrev pub AreTrue : List RemoteKey → Asked → Type 0
  AreTrue keys asked = (remote : ℕ) (key : ℤ) → ((lists_key asked.all remote key ≡ true) ↔ IsAskedFor gives block tables remotes rows (lists_key keys) remote key)

  -- so it is with one more
  pub true_after : (keys more : List RemoteKey) (at : RemoteKey) (new : List (List Value)) (before after : Asked) → AreJoined keys (at ∷ []) more
      → file at.remote at.key ≡ Ok new → Grows (IsAskedBehind gives block remotes at.remote new asks) before after → AreTrue keys before → AreTrue more after
  true_after keys more at new before after joined is grows true' remote key = (λ h. to ((grows.all remote key).0 h), λ h. (grows.all remote key).1 (from h))
    where
      same : rows at.remote at.key ≡ new
      same = ap rows_of_file is

      alike : (r : ℕ) (k : ℤ) → lists_key more r k ≡ lists_key (keys ++ at ∷ []) r k
      alike r k = joined.has r k ∙ sym (has_append keys (at ∷ []) r k)

      step : IsAskedFor gives block tables remotes rows (lists_key (keys ++ at ∷ [])) remote key
          ↔ (IsAskedFor gives block tables remotes rows (lists_key keys) remote key ⊎ IsAskedByFile gives block remotes rows at remote key)
      step = asked_grows gives block tables remotes rows keys at remote key

      behind : IsAskedBehind gives block remotes at.remote (rows at.remote at.key) asks remote key ↔ IsAskedByFile gives block remotes rows at remote key
      behind = asked_behind gives block tables remotes rows asks are at remote key

      first : (lists_key before.all remote key ≡ true) ⊎ IsAskedBehind gives block remotes at.remote new asks remote key
          → IsAskedFor gives block tables remotes rows (lists_key keys) remote key ⊎ IsAskedByFile gives block remotes rows at remote key
      first (inl h) = inl ((true' remote key).0 h)
      first (inr h) = inr (behind.0 (subst (λ (l : List (List Value)). IsAskedBehind gives block remotes at.remote l asks remote key) (sym same) h))

      to : (lists_key before.all remote key ≡ true) ⊎ IsAskedBehind gives block remotes at.remote new asks remote key
          → IsAskedFor gives block tables remotes rows (lists_key more) remote key
      to h = asked_more gives block tables remotes file (lists_key (keys ++ at ∷ [])) (lists_key more) (λ r k e. alike r k ∙ e) remote key (step.1 (first h))

      last : IsAskedFor gives block tables remotes rows (lists_key keys) remote key ⊎ IsAskedByFile gives block remotes rows at remote key
          → (lists_key before.all remote key ≡ true) ⊎ IsAskedBehind gives block remotes at.remote new asks remote key
      last (inl h) = inl ((true' remote key).1 h)
      last (inr h) = inr (subst (λ (l : List (List Value)). IsAskedBehind gives block remotes at.remote l asks remote key) same (behind.1 h))

      from : IsAskedFor gives block tables remotes rows (lists_key more) remote key
          → (lists_key before.all remote key ≡ true) ⊎ IsAskedBehind gives block remotes at.remote new asks remote key
      from h = last (step.0 (asked_more gives block tables remotes file (lists_key more) (lists_key (keys ++ at ∷ [])) (λ r k e. sym (alike r k) ∙ e) remote key h))

module _ (file : ℕ → ℤ → Result (List (List Value)) Cause) (entries : List (RemoteKey × Relation)) (at : RemoteKey) where
  -- a file with a cause is a fault
  pub bad_at : (cause : Cause) → file at.remote at.key ≡ Err cause → fault_at file (known entries) at (file at.remote at.key) ≡ Some (fault_of at cause)
  bad_at cause is = ap (fault_at file (known entries) at) is

  module _ (stored : All (IsStored file) entries) (new : List (List Value)) (is : file at.remote at.key ≡ Ok new) (count : ℕ) (counts : count ≡ rows_loaded entries at.remote) where
    counted : row_count_of file (known entries) at.remote ≡ count
    counted = loaded_count file entries at.remote stored ∙ sym counts

    abbrev tested : Bool → Option RemoteFault
    tested b = cond b (Some (fault.TooManyRows at.remote)) None

    by_count : (b : Bool) → nat_lt 4000000 (count + length new) ≡ b → fault_at file (known entries) at (file at.remote at.key) ≡ tested b
    by_count b e =
        ap (fault_at file (known entries) at) is
        ∙ ap (λ (n : ℕ). tested (nat_lt 4000000 (n + length new))) counted
        ∙ ap tested e

    -- one that is whole is none where its remote has room for the rows
    pub none_at : count + length new ≤ 4000000 → fault_at file (known entries) at (file at.remote at.key) ≡ None
    none_at few =
        by_count false (false_from_ne_true (nat_lt 4000000 (count + length new)) (λ h. let over : 4000000 < count + length new = ltb-true 4000000 (count + length new) h in absurd (omega (arith, few, over))))

    -- and else is one
    pub over_at : 4000000 < count + length new → fault_at file (known entries) at (file at.remote at.key) ≡ Some (fault.TooManyRows at.remote)
    over_at over = by_count true (lt-ltb 4000000 (count + length new) over)
