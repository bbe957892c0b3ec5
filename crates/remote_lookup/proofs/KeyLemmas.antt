-- One key more is loaded, or isn't.
use Rattle.std.proofs.Common.{◌≡◌, inl, inr, ℕ, ◌+◌, ◌<◌, ◌≤◌, false, List, [], ◌∷◌, set, length, Option, Some, None, refl, ap, sym, ◌∙◌, subst}
use Rattle.std.specs.Prelude.{All, slice_get, Result, Ok, Err, ⊤, ℤ}
use Rattle.std.specs.BTreeMap.{insert_entry}
use Rattle.std.proofs.lemmas.List.{length-set}
use Rattle.outside.specs.Files.{File}
use Rattle.sq_value.specs.Relation.{Relation}
use Rattle.sq_value.specs.declared.table.Column.{Column}
use Rattle.sq_value.specs.declared.value.Value.{Value}
use Rattle.sq_value.specs.declared.value.Truth.{Truth}
use Rattle.sq_expr.specs.declared.block.Block.{Block}
use Rattle.remote_lookup.specs.Asked.{Grows}
use Rattle.remote_lookup.specs.Asking.{AreSpare, IsAskedBehind}
use Rattle.remote_lookup.specs.Asks.{AreAsks}
use Rattle.remote_lookup.specs.KeyFiles.{table_columns, key_name, rows_in}
use Rattle.remote_lookup.specs.Reading.{IsRefusal, MayStop, OverFile}
use Rattle.remote_lookup.specs.Rounds.{AreOrdered, Cause, fault_of, first_fault, lists_key, key_order}
use Rattle.remote_lookup.specs.Working.{AreFound, AreJoined, AreStored, FirstFaultIs, HaveLoaded, IsEntry, IsFound, IsStored, IsTallyOf, IsTrueOf, IsWork, MayBe, OverLoaded, known}
use Rattle.remote_lookup.specs.declared.asks.Ask.{Ask}
use Rattle.remote_lookup.specs.declared.remote.Remote.{Remote}
use Rattle.remote_lookup.specs.declared.remote.RemoteKey.{RemoteKey}
use Rattle.remote_lookup.specs.declared.remote.RemoteFault.{RemoteFault}
use Rattle.remote_lookup.specs.declared.remote.RemoteFault.TheVariants as fault
use Rattle.remote_lookup.specs.declared.rounds.Tally.{Tally}
use Rattle.remote_lookup.specs.declared.rounds.Work.{Work}
use Rattle.remote_lookup.proofs.BegunLemmas.{behind_low, still_there}
use Rattle.remote_lookup.proofs.GivenLemmas.{over_as, over_loaded, over_more}
use Rattle.remote_lookup.proofs.InsertLemmas.{all_insert, all_inserted, joined_insert, tallies_insert}
use Rattle.remote_lookup.proofs.RunLemmas.{alone}
use Rattle.remote_lookup.proofs.TrueLemmas.{bad_at, none_at, over_at, true_after}

module _ (gives : ℕ → Value → Value → Truth) (block : Block) (tables : List Relation) (remotes : List Remote) (asks : List Ask)
    (are : AreAsks block remotes asks) (held : Option (List File)) (w : Work) (at : RemoteKey) (r : Remote) (columns : List Column)
    (is : slice_get remotes at.remote ≡ Some r) (same : columns ≡ table_columns tables r.table) where
  -- what a key's file is to be, by what is given of it
  abbrev FileIs : Result (List (List Value)) Cause → Type 0
  FileIs x = OverFile (key_name r.prefix at.key) held (λ found. rows_in columns r.column at.key found ≡ x)

  may_be : (x : Result (List (List Value)) Cause) → FileIs x → MayBe tables remotes held at x
  may_be x file = (r, is, (file.0, file.1, ap (λ (cs : List Column). rows_in cs r.column at.key file.0) (sym same) ∙ file.2))

  -- it is loaded: its table is inserted, counted and asked
  pub record IsNext (v : Work) (t : Relation) (old now : Tally) : Type 0 where
    pub has_columns : t.columns ≡ table_columns tables r.table
    pub new : lists_key (known w.loaded) at.remote at.key ≡ false
    pub loaded : v.loaded ≡ insert_entry key_order w.loaded at t
    pub ordered : AreOrdered (known v.loaded)
    pub tallies : v.tallies.items ≡ set w.tallies.items at.remote now
    pub was : slice_get w.tallies.items at.remote ≡ Some old
    pub counted : now ≡ record { keys = old.keys + 1; rows = old.rows + length t.rows }
    pub few : old.keys < 10000
    pub room : old.rows + length t.rows ≤ 4000000
    pub spare : AreSpare tables remotes v.spare
    pub grows : Grows (IsAskedBehind gives block remotes at.remote t.rows asks) w.asked v.asked

  next_work : (v : Work) (t : Relation) (old now : Tally) → IsWork tables remotes w → IsNext v t old now → IsWork tables remotes v
  next_work v t old now work next = record {
    ordered = next.ordered;
    spare = next.spare;
    count = ap (length {A = Tally}) next.tallies ∙ length-set w.tallies.items at.remote now ∙ work.count;
    tallies = λ remote s there.
        subst (λ (l : List (RemoteKey × Relation)). IsTallyOf l remote s) (sym next.loaded)
        (tallies_insert w.loaded at t next.new w.tallies.items old now work.tallies next.was next.counted next.few next.room remote s
        (ap (λ (l : List Tally). slice_get l remote) (sym next.tallies) ∙ there));
    entries = subst (All (IsEntry tables remotes)) (sym next.loaded) (all_insert w.loaded at t next.new (IsEntry tables remotes) work.entries (r, is, next.has_columns));
    asked = next.grows.ordered work.asked;
    there = still_there gives block tables remotes asks are w.asked v.asked next.grows (behind_low gives block tables remotes asks are at.remote t.rows) work.there;
  }

  next_joined : (v : Work) (t : Relation) (old now : Tally) → IsNext v t old now → AreJoined (known w.loaded) (at ∷ []) (known v.loaded)
  next_joined v t old now next =
      subst (λ (l : List (RemoteKey × Relation)). AreJoined (known w.loaded) (at ∷ []) (known l)) (sym next.loaded) (joined_insert w.loaded at t next.new)

  next_found : (v : Work) (t : Relation) (old now : Tally) → IsNext v t old now → FileIs (Ok t.rows) → AreFound tables remotes held w.loaded → AreFound tables remotes held v.loaded
  next_found v t old now next file found =
      subst (AreFound tables remotes held) (sym next.loaded) (all_insert w.loaded at t next.new (IsFound tables remotes held) found (may_be (Ok t.rows) file))

  module _ (file : ℕ → ℤ → Result (List (List Value)) Cause) (v : Work) (t : Relation) (old now : Tally) (next : IsNext v t old now) (stored : AreStored file v.loaded) where
    -- where what is loaded then is what the files have, so is what was loaded, and the key's
    both_stored : AreStored file w.loaded × IsStored file (at, t)
    both_stored = all_inserted w.loaded at t next.new (IsStored file) (subst (AreStored file) next.loaded stored)

    next_true : IsTrueOf gives block tables remotes file w → IsTrueOf gives block tables remotes file v
    next_true true' =
        true_after gives block tables remotes asks are file (known w.loaded) (known v.loaded) at t.rows w.asked v.asked (next_joined v t old now next) both_stored.1 next.grows true'

    next_whole : IsWork tables remotes w → first_fault file (known w.loaded) (at ∷ []) ≡ None
    next_whole work =
        alone file (known w.loaded) at None (none_at file w.loaded at both_stored.0 t.rows both_stored.1 old.rows (work.tallies at.remote old next.was).rows next.room)

  pub one_loaded : (v : Work) (t : Relation) (old now : Tally) → IsWork tables remotes w → IsNext v t old now → FileIs (Ok t.rows)
      → HaveLoaded gives block tables remotes held (at ∷ []) w v
  one_loaded v t old now work next rows = record {
    work = next_work v t old now work next;
    fresh = next.grows.fresh;
    joined = next_joined v t old now next;
    means = λ means file stored. next_true file v t old now next stored (means file (both_stored file v t old now next stored).0);
    found = next_found v t old now next rows;
    still = λ file stored. (both_stored file v t old now next stored).0;
    whole = λ file stored. next_whole file v t old now next stored work;
  }

  module _ (work : IsWork tables remotes w) (new : lists_key (known w.loaded) at.remote at.key ≡ false) (found : AreFound tables remotes held w.loaded) where
    abbrev Stops : ℕ → ℕ → RemoteFault → Type 0
    Stops before now f = MayStop before now (FirstFaultIs tables remotes held w.loaded) at f

    loaded : OverLoaded tables remotes held w.loaded (λ file. ⊤)
    loaded = over_loaded tables remotes held w.loaded work.ordered found

    -- what the file of the key is, beside those that are loaded
    beside : (x : Result (List (List Value)) Cause) → FileIs x → OverLoaded tables remotes held w.loaded (λ file. file at.remote at.key ≡ x)
    beside x file = over_more tables remotes held w.loaded at x new (may_be x file) loaded

    -- why it isn't loaded: by its file
    pub stops_file : (before now : ℕ) (f : RemoteFault) → IsRefusal before now (λ cause. FileIs (Err cause)) at f → Stops before now f
    unfolding first_fault
    stops_file before now f h = by h
      where
        none : FirstFaultIs tables remotes held w.loaded [] None
        none = over_as tables remotes held w.loaded (λ file. ⊤) (λ file. first_fault file (known w.loaded) [] ≡ None) (λ file stored h. refl) loaded

        of_cause : (cause : Cause) → f ≡ fault_of at cause → FileIs (Err cause) → FirstFaultIs tables remotes held w.loaded (at ∷ []) (Some f)
        of_cause cause e file' =
            over_as tables remotes held w.loaded (λ file. file at.remote at.key ≡ Err cause) (λ file. first_fault file (known w.loaded) (at ∷ []) ≡ Some f)
            (λ file stored bad. alone file (known w.loaded) at (Some f) (bad_at file w.loaded at cause bad ∙ ap (λ (g : RemoteFault). let o : Option RemoteFault = Some g in o) (sym e)))
            (beside (Err cause) file')

        by : IsRefusal before now (λ cause. FileIs (Err cause)) at f → Stops before now f
        by (inl read) = inl (read.0, read.1, none)
        by (inr (inl memory)) = inr (inl memory)
        by (inr (inr other)) = inr (inr (other.2, of_cause other.0 other.4 other.3))

    -- or as its remote then has too many rows
    pub stops_rows : (before now : ℕ) (f : RemoteFault) (rows : List (List Value)) (old : Tally) → slice_get w.tallies.items at.remote ≡ Some old
        → FileIs (Ok rows) → now ≡ before → f ≡ fault.TooManyRows at.remote → 4000000 < old.rows + length rows → Stops before now f
    stops_rows before now f rows old there file' kept e over =
        inr (inr (
          kept,
          over_as tables remotes held w.loaded (λ file. file at.remote at.key ≡ Ok rows) (λ file. first_fault file (known w.loaded) (at ∷ []) ≡ Some f)
              (λ file stored is'. alone file (known w.loaded) at (Some f)
              (over_at file w.loaded at stored rows is' old.rows (work.tallies at.remote old there).rows over
              ∙ ap (λ (g : RemoteFault). let o : Option RemoteFault = Some g in o) (sym e)))
              (beside (Ok rows) file'),
        ))
