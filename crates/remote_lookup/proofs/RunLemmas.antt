-- A round of loads: one key after another.
use Rattle.std.proofs.Common.{◌≡◌, ◌≢◌, inl, inr, ℕ, ◌+◌, ◌<◌, ◌≤◌, Bool, false, List, [], ◌∷◌, ◌++◌, take, drop, length, Option, Some, None, refl, ap, sym, ◌∙◌, subst, arith}
use Rattle.std.specs.Prelude.{◌||◌, ◌==◌, ℤ, filter, slice_get, IfSome, Result}
use Rattle.std.proofs.lemmas.List.{append_assoc, append-nil, take-append-drop}
use Rattle.outside.specs.Files.{File}
use Rattle.sq_value.specs.Relation.{Relation}
use Rattle.sq_value.specs.declared.value.Value.{Value}
use Rattle.sq_value.specs.declared.value.Truth.{Truth}
use Rattle.sq_expr.specs.declared.block.Block.{Block}
use Rattle.table_csv.specs.declared.fault.TableFault.TheVariants as table
use Rattle.remote_lookup.specs.KeyFiles.{key_file_of}
use Rattle.remote_lookup.specs.Reading.{IsRefused, IsRefusal, MayStop, MayStopIn}
use Rattle.remote_lookup.specs.Rounds.{AreOrdered, Bad, Cause, TooLong, fault_at, fault_of, first_fault, lists_key}
use Rattle.remote_lookup.specs.Working.{AreJoined, FirstFaultIs, HaveLoaded, IsWork, crowded_with, known}
use Rattle.remote_lookup.specs.declared.remote.KeyFault.TheVariants as key
use Rattle.remote_lookup.specs.declared.remote.Remote.{Remote}
use Rattle.remote_lookup.specs.declared.remote.RemoteKey.{RemoteKey}
use Rattle.remote_lookup.specs.declared.remote.RemoteFault.{RemoteFault}
use Rattle.remote_lookup.specs.declared.remote.RemoteFault.TheVariants as fault
use Rattle.remote_lookup.specs.declared.rounds.Tally.{Tally}
use Rattle.remote_lookup.specs.declared.rounds.Work.{Work}
use Rattle.remote_lookup.proofs.CountLemmas.{first_alike, first_found, first_none}
use Rattle.remote_lookup.proofs.FreshLemmas.{count_before, not_before, room_for}
use Rattle.remote_lookup.proofs.GrowthLemmas.{take_next}
use Rattle.remote_lookup.proofs.JoinLemmas.{joined_more, joined_none, rows_append}
use Rattle.remote_lookup.proofs.QueryLemmas.{element}

module _ (file : ℕ → ℤ → Result (List (List Value)) Cause) where
  -- the first fault of a list in two parts, where the first part has none
  first_append : (known keys more : List RemoteKey) → first_fault file known keys ≡ None → first_fault file known (keys ++ more) ≡ first_fault file (known ++ keys) more
  unfolding first_fault
  first_append known [] more e = ap (λ (l : List RemoteKey). first_fault file l more) (sym (append-nil known))
  first_append known (k ∷ keys) more e = by (fault_at file known k (file k.remote k.key)) refl (first_append (known ++ k ∷ []) keys more)
    where
      some_none : {f : RemoteFault} → Some f ≡ None → ⊥
      some_none e = cc

      by : (o : Option RemoteFault) → fault_at file known k (file k.remote k.key) ≡ o
          → (first_fault file (known ++ k ∷ []) keys ≡ None → first_fault file (known ++ k ∷ []) (keys ++ more) ≡ first_fault file ((known ++ k ∷ []) ++ keys) more)
          → first_fault file known (k ∷ (keys ++ more)) ≡ first_fault file (known ++ k ∷ keys) more
      by (Some f) is again = absurd (some_none (sym (first_found file known k keys f is) ∙ e))
      by None is again =
          first_none file known k (keys ++ more) is
          ∙ again (sym (first_none file known k keys is) ∙ e)
          ∙ ap (λ (l : List RemoteKey). first_fault file l more) (append_assoc known (k ∷ []) keys)

  -- and with other known keys of which there are as many rows
  first_behind : (a b c keys : List RemoteKey) → AreJoined a b c → first_fault file a b ≡ None → first_fault file a (b ++ keys) ≡ first_fault file c keys
  first_behind a b c keys joined none =
      first_append a b keys none
      ∙ first_alike file keys (a ++ b) c (λ remote. rows_append file a b remote ∙ sym (joined.rows file remote))

  -- a first key's fault is the first of all
  first_of : (a : List RemoteKey) (k : RemoteKey) (keys : List RemoteKey) (f : RemoteFault) → first_fault file a (k ∷ []) ≡ Some f → first_fault file a (k ∷ keys) ≡ Some f
  unfolding first_fault
  first_of a k keys f e = by (fault_at file a k (file k.remote k.key)) refl
    where
      none_some : {f : RemoteFault} → None ≡ Some f → ⊥
      none_some e = cc

      by : (o : Option RemoteFault) → fault_at file a k (file k.remote k.key) ≡ o → first_fault file a (k ∷ keys) ≡ Some f
      by (Some g) is = first_found file a k keys g is ∙ sym (first_found file a k [] g is) ∙ e
      by None is = absurd (none_some (sym (first_none file a k [] is) ∙ e))

  -- the fault of one key alone
  pub alone : (a : List RemoteKey) (k : RemoteKey) (o : Option RemoteFault) → fault_at file a k (file k.remote k.key) ≡ o → first_fault file a (k ∷ []) ≡ o
  unfolding first_fault
  alone a k (Some f) is = first_found file a k [] f is
  alone a k None is = first_none file a k [] is

module _ (gives : ℕ → Value → Value → Truth) (block : Block) (tables : List Relation) (remotes : List Remote) (held : Option (List File)) where
  abbrev pub Loads : List RemoteKey → Work → Work → Type 0
  Loads keys before after = HaveLoaded gives block tables remotes held keys before after

  abbrev First : Work → List RemoteKey → Option RemoteFault → Type 0
  First w keys is = FirstFaultIs tables remotes held w.loaded keys is

  pub none_loaded : (w : Work) → IsWork tables remotes w → Loads [] w w
  unfolding first_fault
  none_loaded w work = record {
    work = work;
    fresh = λ base h. h;
    joined = joined_none (known w.loaded);
    means = λ h. h;
    found = λ h. h;
    still = λ file h. h;
    whole = λ file h. refl;
  }

  -- further keys are loaded behind some
  pub more_loaded : (keys more : List RemoteKey) (a b c : Work) → Loads keys a b → Loads more b c → Loads (keys ++ more) a c
  more_loaded keys more a b c one two = record {
    work = two.work;
    fresh = λ base h. two.fresh base (one.fresh base h);
    joined = joined_more (known a.loaded) keys (known b.loaded) more (known c.loaded) one.joined two.joined;
    means = λ h. two.means (one.means h);
    found = λ h. two.found (one.found h);
    still = λ file h. one.still file (two.still file h);
    whole = λ file h. first_behind file (known a.loaded) keys (known b.loaded) more one.joined (one.whole file (two.still file h)) ∙ two.whole file h;
  }

  -- what stops the next key stops the round
  pub stops_round : (keys fresh rest : List RemoteKey) (at : RemoteKey) (a b : Work) (before now : ℕ) (f : RemoteFault) → Loads keys a b → fresh ≡ keys ++ at ∷ rest
      → MayStop before now (First b) at f → MayStopIn before now (First a) fresh f
  stops_round keys fresh rest at a b before now f one split h = by h
    where
      before' : First b [] None → First a keys None
      before' over = (over.0, over.1, one.still (key_file_of tables remotes over.0) over.2, one.whole (key_file_of tables remotes over.0) over.2)

      found : First b (at ∷ []) (Some f) → First a fresh (Some f)
      found over =
          let file : ℕ → ℤ → Result (List (List Value)) Cause = key_file_of tables remotes over.0 in (
            over.0,
            over.1,
            one.still file over.2,
            ap (first_fault file (known a.loaded)) split
                ∙ first_behind file (known a.loaded) keys (known b.loaded) (at ∷ rest) one.joined (one.whole file over.2)
                ∙ first_of file (known b.loaded) at rest f over.3,
          )

      by : MayStop before now (First b) at f → MayStopIn before now (First a) fresh f
      by (inl read) = inl (at, keys, rest, read.0, read.1, split, before' read.2)
      by (inr (inl memory)) = inr (inl memory)
      by (inr (inr other)) = inr (inr (other.0, found other.1))

  -- the next key of a round is new, and there is room for it
  pub next_new : (fresh : List RemoteKey) (i : ℕ) (at : RemoteKey) (a b : Work) → Loads (take i fresh) a b → AreOrdered fresh → slice_get fresh i ≡ Some at
      → lists_key (known a.loaded) at.remote at.key ≡ false → lists_key (known b.loaded) at.remote at.key ≡ false
  next_new fresh i at a b one order is new =
      one.joined.has at.remote at.key
      ∙ ap (λ (t : Bool). t || lists_key (take i fresh) at.remote at.key) new
      ∙ not_before fresh i at order is

  pub next_few : (fresh : List RemoteKey) (i : ℕ) (at : RemoteKey) (a b : Work) → Loads (take i fresh) a b → IsWork tables remotes a → at.remote < length remotes
      → slice_get fresh i ≡ Some at → crowded_with a.tallies.items fresh ≡ None → IfSome (slice_get b.tallies.items at.remote) (λ (t : Tally). t.keys < 10000)
  next_few fresh i at a b one work low is none = by (slice_get b.tallies.items at.remote) refl
    where
      old : (t : Tally) × (slice_get a.tallies.items at.remote ≡ Some t)
      old = element a.tallies.items at.remote (omega (arith, low, work.count))

      room : old.0.keys + length (filter (λ (k : RemoteKey). k.remote == at.remote) fresh) ≤ 10000
      room = room_for a.tallies.items fresh at.remote old.0 none old.1 (omega (arith, low, work.count))

      by : (o : Option Tally) → slice_get b.tallies.items at.remote ≡ o → IfSome o (λ (t : Tally). t.keys < 10000)
      by None e = tt
      by (Some t) e =
          let few : t.keys < 10000 = omega (arith, (one.work.tallies at.remote t e).keys, one.joined.count at.remote, (work.tallies at.remote old.0 old.1).keys, room, count_before fresh i at is) in
          few

  -- a front of a round with one key more
  pub front_more : (fresh : List RemoteKey) (i : ℕ) (at : RemoteKey) (a b c : Work) → slice_get fresh i ≡ Some at → Loads (take i fresh) a b → Loads (at ∷ []) b c → Loads (take (i + 1) fresh) a c
  front_more fresh i at a b c is one two = subst (λ (l : List RemoteKey). Loads l a c) (sym (take_next fresh i at is)) (more_loaded (take i fresh) (at ∷ []) a b c one two)

  pub front_split : (fresh : List RemoteKey) (i : ℕ) (at : RemoteKey) → slice_get fresh i ≡ Some at → fresh ≡ take i fresh ++ at ∷ drop (i + 1) fresh
  front_split fresh i at is =
      sym (take-append-drop (i + 1) fresh)
      ∙ ap (λ (l : List RemoteKey). l ++ drop (i + 1) fresh) (take_next fresh i at is)
      ∙ append_assoc (take i fresh) (at ∷ []) (drop (i + 1) fresh)

-- what holds of each refusal holds where the count was as it was before
pub refused_later : (remotes before mid now : ℕ) (f : RemoteFault) → mid ≡ before → IsRefused remotes mid now f → IsRefused remotes before now f
refused_later remotes before mid now f same h = subst (λ (n : ℕ). IsRefused remotes n now f) same h

pub refused_memory : (remotes before now : ℕ) (f : RemoteFault) → f ≡ fault.Memory → IsRefused remotes before now f
refused_memory remotes before now f is = subst (IsRefused remotes before now) (sym is) (record {
  kept = tt;
  read = λ at e. absurd cc;
  names = tt;
  no_memory = λ at e. cc;
})

pub refused_rows : (remotes before now r : ℕ) (f : RemoteFault) → f ≡ fault.TooManyRows r → r < remotes → now ≡ before → IsRefused remotes before now f
refused_rows remotes before now r f is low kept = subst (IsRefused remotes before now) (sym is) (record {
  kept = kept;
  read = λ at e. absurd cc;
  names = low;
  no_memory = λ at e. cc;
})

pub refused_keys : (remotes before now r : ℕ) (f : RemoteFault) → f ≡ fault.TooManyKeys r → r < remotes → now ≡ before → IsRefused remotes before now f
refused_keys remotes before now r f is low kept = subst (IsRefused remotes before now) (sym is) (record {
  kept = kept;
  read = λ at e. absurd cc;
  names = low;
  no_memory = λ at e. cc;
})

-- a refusal of a key's file
pub refused_file : (remotes before now : ℕ) (expected : Cause → Type 0) (at : RemoteKey) (f : RemoteFault) → at.remote < remotes
    → IsRefusal before now expected at f → IsRefused remotes before now f
refused_file remotes before now expected at f low h = by h
  where
    of_cause : (cause : Cause) → cause ≢ Bad (key.Table table.Memory) → now ≡ before → f ≡ fault_of at cause → IsRefused remotes before now f
    of_cause TooLong apart kept is = subst (IsRefused remotes before now) (sym is) (record {
      kept = kept;
      read = λ a e. absurd cc;
      names = low;
      no_memory = λ a e. cc;
    })
    of_cause (Bad why) apart kept is = subst (IsRefused remotes before now) (sym is) (record {
      kept = kept;
      read = λ a e. absurd cc;
      names = low;
      no_memory = λ a e. let same : why ≡ key.Table table.Memory = cc in apart (ap Bad same);
    })

    by : IsRefusal before now expected at f → IsRefused remotes before now f
    by (inl read) = subst (IsRefused remotes before now) (sym read.0) (record {
      kept = tt;
      read = λ a e. read.1;
      names = low;
      no_memory = λ a e. cc;
    })
    by (inr (inl memory)) = refused_memory remotes before now f memory
    by (inr (inr other)) = of_cause other.0 other.1 other.2 other.4
