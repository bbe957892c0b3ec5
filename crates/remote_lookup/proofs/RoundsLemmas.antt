-- Round after round: what the rounds come to.
use Rattle.std.proofs.Common.{◌≡◌, ◌≢◌, inl, inr, ℕ, ◌+◌, ◌<◌, ◌≤◌, Bool, true, false, cond, List, [], ◌∷◌, ◌++◌, get_or, length, Option, Some, None, refl, ap, sym, ◌∙◌, subst, arith}
use Rattle.std.specs.Prelude.{◌&&◌, ◌||◌, ◌==◌, ℤ, nat_lt, not, filter, All, slice_get, Result, Ok, Err}
use Rattle.std.specs.Option.{option_map_or}
use Rattle.std.proofs.lemmas.Bool.{false≢true}
use Rattle.std.proofs.lemmas.List.{length-map}
use Rattle.std.proofs.lemmas.List.Elements.{All-nil}
use Rattle.std.proofs.lemmas.Option.{slice_get-get_or}
use Rattle.outside.specs.Files.{File}
use Rattle.sq_value.specs.Relation.{Relation}
use Rattle.sq_value.specs.declared.value.Value.{Value}
use Rattle.sq_value.specs.declared.value.Truth.{Truth}
use Rattle.sq_expr.specs.declared.block.Block.{Block}
use Rattle.eddy_meaning.proofs.MatchLemmas.{Contains-here}
use Rattle.remote_lookup.specs.Asked.{AreFresh}
use Rattle.remote_lookup.specs.Filled.{keys_at}
use Rattle.remote_lookup.specs.KeyFiles.{KeyBytes, key_file_of}
use Rattle.remote_lookup.specs.Loaded.{MayRefuse}
use Rattle.remote_lookup.specs.Needed.{IsAskedFor}
use Rattle.remote_lookup.specs.Reading.{MayStopIn}
use Rattle.remote_lookup.specs.Rounds.{AreAskedBy, AreOrdered, Breaks, Cause, Comes, Crowds, Ends, Goes, Here, Later, Reaches, TooLong, Bad, crowded, fault_at, fault_of, first_fault, lists_key, row_count_of, rows_of_file}
use Rattle.remote_lookup.specs.Asking.{AreSpare}
use Rattle.remote_lookup.specs.Working.{AreFound, AreStored, FirstFaultIs, HasCome, HaveLoaded, IsEntry, IsFound, IsTallyOf, IsTrueOf, IsWork, Means, OverKeys, crowded_with, keys_at_remote, known}
use Rattle.remote_lookup.specs.declared.remote.Remote.{Remote}
use Rattle.remote_lookup.specs.declared.remote.RemoteKey.{RemoteKey}
use Rattle.remote_lookup.specs.declared.remote.RemoteFault.{RemoteFault}
use Rattle.remote_lookup.specs.declared.remote.RemoteFault.TheVariants as fault
use Rattle.remote_lookup.specs.declared.rounds.Tally.{Tally}
use Rattle.remote_lookup.specs.declared.rounds.Work.{Work}
use Rattle.remote_lookup.proofs.CountLemmas.{first_found, first_none}
use Rattle.remote_lookup.proofs.CrowdLemmas.{counted}
use Rattle.remote_lookup.proofs.FreshLemmas.{all_have, all_held, crowded_by, fresh_asked, fresh_new, news, none_fresh, same_sets}
use Rattle.remote_lookup.proofs.GivenLemmas.{given_any, over_loaded}
use Rattle.remote_lookup.proofs.QueryLemmas.{element}
use Rattle.remote_lookup.proofs.RoundLemmas.{held_is_in}

module _ (gives : ℕ → Value → Value → Truth) (block : Block) (tables : List Relation) (remotes : List Remote) where
  abbrev News : List RemoteKey → List RemoteKey → List RemoteKey
  News loaded all = filter (λ (k : RemoteKey). not (lists_key loaded k.remote k.key)) all

  -- a round is about to begin
  pub record IsDue (w : Work) : Type 0 where
    pub work : IsWork tables remotes w
    pub fresh : AreFresh (known w.loaded) w.asked.all w.asked.fresh

  -- the fresh keys, in order
  pub record AreTaken (w : Work) (keys : List RemoteKey) : Type 0 where
    pub is : keys ≡ w.asked.fresh
    pub ordered : AreOrdered keys
    pub some : keys ≢ []

  -- what is asked for isn't what is known
  more_asked : (w : Work) (keys : List RemoteKey) → IsDue w → AreTaken w keys → w.asked.all ≢ known w.loaded
  more_asked w keys due taken same = by keys taken.is taken.some
    where
      by : (ks : List RemoteKey) → ks ≡ w.asked.fresh → ks ≢ [] → ⊥
      by [] is some = some refl
      by (k ∷ ks) is some =
          let in' : lists_key w.asked.fresh k.remote k.key ≡ true = ap (λ (l : List RemoteKey). lists_key l k.remote k.key) (sym is) ∙ held_is_in (k ∷ ks) k (Contains-here k ks) in
          let asked = fresh_asked (known w.loaded) w.asked.all w.asked.fresh due.fresh k in' in
          let new = fresh_new (known w.loaded) w.asked.all w.asked.fresh due.fresh k in' in
          false≢true (sym new ∙ ap (λ (l : List RemoteKey). lists_key l k.remote k.key) (sym same) ∙ asked)

  taken_news : (w : Work) (keys : List RemoteKey) → IsDue w → AreTaken w keys → News (known w.loaded) w.asked.all ≡ keys
  taken_news w keys due taken =
      sym (news (known w.loaded) w.asked.all w.asked.fresh due.fresh due.work.asked (subst AreOrdered taken.is taken.ordered)) ∙ sym taken.is

  -- which remote is crowded
  crowded_alike : (w : Work) (keys : List RemoteKey) → IsDue w → AreTaken w keys → crowded (length remotes) w.asked.all ≡ crowded_with w.tallies.items keys
  crowded_alike w keys due taken = crowded_by w.tallies.items keys w.asked.all (length remotes) due.work.count counts
    where
      counts : (r : ℕ) → r < length remotes → length (keys_at w.asked.all r) ≡ keys_at_remote w.tallies.items r + length (filter (λ (k : RemoteKey). k.remote == r) keys)
      counts r low =
          let t = element w.tallies.items r (omega (arith, low, due.work.count)) in
          let told : keys_at_remote w.tallies.items r ≡ length (keys_at (known w.loaded) r) =
          ap (λ (o : Option Tally). option_map_or (λ (x : Tally). x.keys) o 0) t.1 ∙ (due.work.tallies r t.0 t.1).keys in
          let all = counted (known w.loaded) w.asked.all due.work.ordered due.work.asked due.fresh.within r in
          let new = ap (λ (l : List RemoteKey). length (filter (λ (k : RemoteKey). k.remote == r) l)) (taken_news w keys due taken) in
          omega (arith, told, all, new)

  pub round_new : (w : Work) (keys : List RemoteKey) → IsDue w → AreTaken w keys → All (λ (k : RemoteKey). lists_key (known w.loaded) k.remote k.key ≡ false) keys
  round_new w keys due taken =
      all_held (λ (k : RemoteKey). lists_key (known w.loaded) k.remote k.key ≡ false) keys
      (λ z h. fresh_new (known w.loaded) w.asked.all w.asked.fresh due.fresh z (ap (λ (l : List RemoteKey). lists_key l z.remote z.key) (sym taken.is) ∙ h))

  pub round_asked : (w : Work) (keys : List RemoteKey) → IsDue w → AreTaken w keys → All (λ (k : RemoteKey). lists_key w.asked.all k.remote k.key ≡ true) keys
  round_asked w keys due taken =
      all_held (λ (k : RemoteKey). lists_key w.asked.all k.remote k.key ≡ true) keys
      (λ z h. fresh_asked (known w.loaded) w.asked.all w.asked.fresh due.fresh z (ap (λ (l : List RemoteKey). lists_key l z.remote z.key) (sym taken.is) ∙ h))

  -- the work of a round begins with no fresh keys
  pub record HaveTaken (w v : Work) : Type 0 where
    pub all : v.asked.all ≡ w.asked.all
    pub none : v.asked.fresh ≡ []
    pub loaded : v.loaded ≡ w.loaded
    pub tallies : v.tallies ≡ w.tallies
    pub spare : v.spare ≡ w.spare

  pub taken_work : (w v : Work) → HaveTaken w v → IsWork tables remotes w → IsWork tables remotes v
  taken_work w v taken work = record {
    ordered = subst (λ (l : List (RemoteKey × Relation)). AreOrdered (known l)) (sym taken.loaded) work.ordered;
    spare = subst (λ (l : List Relation). AreSpare tables remotes l) (sym taken.spare) work.spare;
    count = ap (λ t. length t.items) taken.tallies ∙ work.count;
    tallies = λ remote t at. subst (λ (l : List (RemoteKey × Relation)). IsTallyOf l remote t) (sym taken.loaded)
        (work.tallies remote t (ap (λ l. slice_get l.items remote) (sym taken.tallies) ∙ at));
    entries = subst (All (IsEntry tables remotes)) (sym taken.loaded) work.entries;
    asked = subst AreOrdered (sym taken.all) work.asked;
    there = λ remote key h. work.there remote key (ap (λ (l : List RemoteKey). lists_key l remote key) (sym taken.all) ∙ h);
  }

  pub taken_true : (file : ℕ → ℤ → Result (List (List Value)) Cause) (w v : Work) → HaveTaken w v → IsTrueOf gives block tables remotes file w → IsTrueOf gives block tables remotes file v
  taken_true file w v taken true' remote key = (
    λ h. subst For (sym taken.loaded) ((true' remote key).0 (ap (λ (l : List RemoteKey). lists_key l remote key) (sym taken.all) ∙ h)),
    λ h. ap (λ (l : List RemoteKey). lists_key l remote key) taken.all ∙ (true' remote key).1 (subst For taken.loaded h),
  )
    where
      For : List (RemoteKey × Relation) → Type 0
      For l = IsAskedFor gives block tables remotes (λ r k. rows_of_file (file r k)) (lists_key (known l)) remote key

  pub taken_means : (w v : Work) → HaveTaken w v → Means gives block tables remotes w → Means gives block tables remotes v
  taken_means w v taken means file stored = taken_true file w v taken (means file (subst (AreStored file) taken.loaded stored))

  -- behind a round another one is due
  pub grown_by : (held : Option (List File)) (v x : Work) (keys : List RemoteKey) → HaveLoaded gives block tables remotes held keys v x → length x.loaded ≡ length v.loaded + length keys
  grown_by held v x keys one =
      let joined = one.joined.size in
      omega (arith, joined, length-map x.loaded (λ (e : RemoteKey × Relation). e.0), length-map v.loaded (λ (e : RemoteKey × Relation). e.0))

  pub some_taken : (w : Work) (keys : List RemoteKey) → AreTaken w keys → 0 < length keys
  some_taken w keys taken = by keys taken.some
    where
      by : (ks : List RemoteKey) → ks ≢ [] → 0 < length ks
      by [] some = absurd (some refl)
      by (k ∷ ks) some = omega arith

  pub due_next : (held : Option (List File)) (w v x : Work) (keys : List RemoteKey) → IsDue w → AreTaken w keys → HaveTaken w v → HaveLoaded gives block tables remotes held keys v x → IsDue x
  due_next held w v x keys due taken have one = record {
    work = one.work;
    fresh = record {
      within = λ remote key h. later.within remote key (sym (alike remote key) ∙ h);
      each = λ remote key. later.each remote key ∙ ap (λ (b : Bool). lists_key x.asked.all remote key && not b) (sym (alike remote key));
    };
  }
    where
      alike : (remote : ℕ) (key : ℤ) → lists_key (known x.loaded) remote key ≡ lists_key w.asked.all remote key
      alike remote key =
          one.joined.has remote key
          ∙ ap (λ (l : List (RemoteKey × Relation)). lists_key (known l) remote key || lists_key keys remote key) have.loaded
          ∙ ap (λ (l : List RemoteKey). lists_key (known w.loaded) remote key || lists_key l remote key) taken.is
          ∙ sym (all_have (known w.loaded) w.asked.all w.asked.fresh due.fresh remote key)

      nothing : (b : Bool) → false ≡ (b && not b)
      nothing true = refl
      nothing false = refl

      begun : AreFresh w.asked.all v.asked.all v.asked.fresh
      begun = record {
        within = λ remote key h. ap (λ (l : List RemoteKey). lists_key l remote key) have.all ∙ h;
        each = λ remote key.
            ap (λ (l : List RemoteKey). lists_key l remote key) have.none
            ∙ nothing (lists_key w.asked.all remote key)
            ∙ ap (λ (l : List RemoteKey). lists_key l remote key && not (lists_key w.asked.all remote key)) (sym have.all);
      }

      later : AreFresh w.asked.all x.asked.all x.asked.fresh
      later = one.fresh w.asked.all begun

  -- what is known behind a round is all that was asked for
  known_next : (held : Option (List File)) (w v x : Work) (keys : List RemoteKey) → IsDue w → AreTaken w keys → HaveTaken w v → HaveLoaded gives block tables remotes held keys v x → w.asked.all ≡ known x.loaded
  known_next held w v x keys due taken have one = same_sets w.asked.all (known x.loaded) due.work.asked one.work.ordered alike
    where
      alike : (remote : ℕ) (key : ℤ) → lists_key w.asked.all remote key ≡ lists_key (known x.loaded) remote key
      alike remote key =
          all_have (known w.loaded) w.asked.all w.asked.fresh due.fresh remote key
          ∙ ap (λ (l : List RemoteKey). lists_key (known w.loaded) remote key || lists_key l remote key) (sym taken.is)
          ∙ ap (λ (l : List (RemoteKey × Relation)). lists_key (known l) remote key || lists_key keys remote key) (sym have.loaded)
          ∙ sym (one.joined.has remote key)

  module _ (file : ℕ → ℤ → Result (List (List Value)) Cause) where
    abbrev Comes' : List RemoteKey → Result (List RemoteKey) RemoteFault → Type 0
    Comes' keys due = Comes gives block tables remotes file keys due

    abbrev Reaches' : List RemoteKey → RemoteKey → Type 0
    Reaches' keys at = Reaches gives block tables remotes file keys at

    abbrev True' : Work → Type 0
    True' w = IsTrueOf gives block tables remotes file w

    asked_by : (w : Work) → IsDue w → True' w → AreAskedBy gives block tables remotes file (known w.loaded) w.asked.all
    asked_by w due true' = record { ordered = due.work.asked; each = true' }

    -- where nothing is fresh, the rounds end
    pub ends : (w : Work) → IsDue w → True' w → w.asked.fresh ≡ [] → Comes' (known w.loaded) (Ok (known w.loaded))
    ends w due true' none =
        Ends (known w.loaded) (subst (λ (l : List RemoteKey). AreAskedBy gives block tables remotes file (known w.loaded) l)
        (none_fresh (known w.loaded) w.asked.all w.asked.fresh due.fresh due.work.ordered due.work.asked none) (asked_by w due true'))

    -- where a remote is crowded, they end with it
    pub crowds : (w : Work) (keys : List RemoteKey) (r : ℕ) → IsDue w → AreTaken w keys → True' w → crowded_with w.tallies.items keys ≡ Some r
        → Comes' (known w.loaded) (Err (fault.TooManyKeys r))
    crowds w keys r due taken true' crowd = Crowds (known w.loaded) w.asked.all r (asked_by w due true') (more_asked w keys due taken) (crowded_alike w keys due taken ∙ crowd)

    -- and else one more round comes
    pub goes : (held : Option (List File)) (w v x : Work) (keys : List RemoteKey) → IsDue w → AreTaken w keys → HaveTaken w v → HaveLoaded gives block tables remotes held keys v x → True' w
        → crowded_with w.tallies.items keys ≡ None → first_fault file (known w.loaded) keys ≡ None
        → (due' : Result (List RemoteKey) RemoteFault) → Comes' (known x.loaded) due' → Comes' (known w.loaded) due'
    goes held w v x keys due taken have one true' crowd first due' rest =
        Goes (known w.loaded) w.asked.all due' (asked_by w due true') (more_asked w keys due taken) (crowded_alike w keys due taken ∙ crowd)
        (ap (first_fault file (known w.loaded)) (taken_news w keys due taken) ∙ first)
        (subst (λ (l : List RemoteKey). Comes' l due') (sym (known_next held w v x keys due taken have one)) rest)

    pub goes_on : (held : Option (List File)) (w v x : Work) (keys : List RemoteKey) → IsDue w → AreTaken w keys → HaveTaken w v → HaveLoaded gives block tables remotes held keys v x → True' w
        → crowded_with w.tallies.items keys ≡ None → first_fault file (known w.loaded) keys ≡ None
        → (at : RemoteKey) → Reaches' (known x.loaded) at → Reaches' (known w.loaded) at
    goes_on held w v x keys due taken have one true' crowd first at rest =
        Later (known w.loaded) w.asked.all at (asked_by w due true') (more_asked w keys due taken) (crowded_alike w keys due taken ∙ crowd)
        (ap (first_fault file (known w.loaded)) (taken_news w keys due taken) ∙ first)
        (subst (λ (l : List RemoteKey). Reaches' l at) (sym (known_next held w v x keys due taken have one)) rest)

    -- or its first fault
    breaks : (w : Work) (keys : List RemoteKey) (f : RemoteFault) → IsDue w → AreTaken w keys → True' w → crowded_with w.tallies.items keys ≡ None
        → first_fault file (known w.loaded) keys ≡ Some f → Comes' (known w.loaded) (Err f)
    breaks w keys f due taken true' crowd first =
        Breaks (known w.loaded) w.asked.all f (asked_by w due true') (more_asked w keys due taken) (crowded_alike w keys due taken ∙ crowd)
        (ap (first_fault file (known w.loaded)) (taken_news w keys due taken) ∙ first)

    here : (w : Work) (keys front rest : List RemoteKey) (at : RemoteKey) → IsDue w → AreTaken w keys → True' w → crowded_with w.tallies.items keys ≡ None
        → keys ≡ front ++ at ∷ rest → first_fault file (known w.loaded) front ≡ None → Reaches' (known w.loaded) at
    here w keys front rest at due taken true' crowd split first =
        Here (known w.loaded) w.asked.all front rest at (asked_by w due true') (more_asked w keys due taken) (crowded_alike w keys due taken ∙ crowd)
        (taken_news w keys due taken ∙ split) first

    -- no fault of files is a failed read
    never_read : (keys known' : List RemoteKey) (at : RemoteKey) → first_fault file known' keys ≡ Some (fault.Read at) → ⊥
    unfolding first_fault
    never_read [] known' at e = absurd cc
    never_read (k ∷ keys) known' at e = by (fault_at file known' k (file k.remote k.key)) refl (never_read keys (known' ++ k ∷ []) at)
      where
        of_cause : (cause : Cause) → fault_of k cause ≡ fault.Read at → ⊥
        of_cause TooLong e = cc
        of_cause (Bad why) e = cc

        some_one : {x y : RemoteFault} → Some x ≡ Some y → x ≡ y
        some_one e = cc

        of_count : (b : Bool) → (let o : Option RemoteFault = cond b (Some (fault.TooManyRows k.remote)) None in o) ≡ Some (fault.Read at) → ⊥
        of_count true e = cc
        of_count false e = cc

        of_file : (r : Result (List (List Value)) Cause) → fault_at file known' k r ≡ Some (fault.Read at) → ⊥
        of_file (Err cause) e = of_cause cause (some_one e)
        of_file (Ok new) e = of_count (nat_lt 4000000 (row_count_of file known' k.remote + length new)) e

        by : (o : Option RemoteFault) → fault_at file known' k (file k.remote k.key) ≡ o → (first_fault file (known' ++ k ∷ []) keys ≡ Some (fault.Read at) → ⊥) → ⊥
        by (Some f) is again = of_file (file k.remote k.key) (is ∙ sym (first_found file known' k keys f is) ∙ e)
        by None is again = again (sym (first_none file known' k keys is) ∙ e)

  -- a refusal that the rounds come to may come
  may : (found : KeyBytes) (f : RemoteFault) → ((at : RemoteKey) → f ≢ fault.Read at) → Comes' (key_file_of tables remotes found) [] (Err f) → MayRefuse gives block tables remotes found f
  may found (fault.Read at) apart comes = absurd (apart at refl)
  may found (fault.TooLong at) apart comes = comes
  may found (fault.BadFile at why) apart comes = comes
  may found (fault.TooManyKeys r) apart comes = comes
  may found (fault.TooManyRows r) apart comes = comes
  may found fault.Memory apart comes = tt

  -- the rounds so far, where the files are these: what comes of the later ones comes of all
  pub record AreSoFar (file : ℕ → ℤ → Result (List (List Value)) Cause) (w : Work) : Type 0 where
    pub is : IsTrueOf gives block tables remotes file w
    pub comes : (due : Result (List RemoteKey) RemoteFault) → Comes gives block tables remotes file (known w.loaded) due → Comes gives block tables remotes file [] due
    pub reaches : (at : RemoteKey) → Reaches gives block tables remotes file (known w.loaded) at → Reaches gives block tables remotes file [] at

  -- whatever the files are, where what is loaded are their rows
  abbrev pub SoFar : Work → Type 0
  SoFar w = (file : ℕ → ℤ → Result (List (List Value)) Cause) → AreStored file w.loaded → AreSoFar file w

  pub so_far_begun : (w : Work) → w.loaded ≡ [] → Means gives block tables remotes w → SoFar w
  so_far_begun w none means file stored = record {
    is = means file stored;
    comes = λ due h. subst (λ (l : List (RemoteKey × Relation)). Comes gives block tables remotes file (known l) due) none h;
    reaches = λ at h. subst (λ (l : List (RemoteKey × Relation)). Reaches gives block tables remotes file (known l) at) none h;
  }

  pub so_far_next : (held : Option (List File)) (w v x : Work) (keys : List RemoteKey) → IsDue w → AreTaken w keys → HaveTaken w v → HaveLoaded gives block tables remotes held keys v x
      → crowded_with w.tallies.items keys ≡ None → SoFar w → SoFar x
  so_far_next held w v x keys due taken have one crowd so_far file stored =
      let h = so_far file (subst (AreStored file) have.loaded (one.still file stored)) in
      let first : first_fault file (known w.loaded) keys ≡ None =
      ap (λ (l : List (RemoteKey × Relation)). first_fault file (known l) keys) (sym have.loaded) ∙ one.whole file stored in
      record {
        is = one.means (taken_means w v have (λ any before. (so_far any before).is)) file stored;
        comes = λ due' rest. h.comes due' (goes file held w v x keys due taken have one h.is crowd first due' rest);
        reaches = λ at rest. h.reaches at (goes_on file held w v x keys due taken have one h.is crowd first at rest);
      }

  -- at first a round is due, and nothing is loaded
  pub due_begun : (w : Work) → IsWork tables remotes w → w.loaded ≡ [] → AreFresh [] w.asked.all w.asked.fresh → IsDue w
  due_begun w work none fresh = record {
    work = work;
    fresh = subst (λ (l : List (RemoteKey × Relation)). AreFresh (known l) w.asked.all w.asked.fresh) (sym none) fresh;
  }

  pub found_begun : (held : Option (List File)) (w : Work) → w.loaded ≡ [] → AreFound tables remotes held w.loaded
  found_begun held w none = subst (AreFound tables remotes held) (sym none) (All-nil (IsFound tables remotes held))

  -- each remote has few keys
  pub few_keys : (w : Work) → IsWork tables remotes w → All (λ (t : Tally). t.keys ≤ 10000) w.tallies.items
  few_keys w work k d low = (work.tallies k (get_or w.tallies.items k d) (slice_get-get_or w.tallies.items k d low)).few_keys

  -- what was found is found still
  pub found_next : (held : Option (List File)) (w v x : Work) (keys : List RemoteKey) → HaveTaken w v → HaveLoaded gives block tables remotes held keys v x
      → AreFound tables remotes held w.loaded → AreFound tables remotes held x.loaded
  found_next held w v x keys have one found = one.found (subst (AreFound tables remotes held) (sym have.loaded) found)

  -- at the end
  pub comes_to : (w : Work) → IsDue w → w.asked.fresh ≡ [] → SoFar w → HasCome gives block tables remotes w
  comes_to w due none so_far file stored = (so_far file stored).comes (Ok (known w.loaded)) (ends file w due (so_far file stored).is none)

  -- where a remote is crowded
  pub may_be_crowded : (held : Option (List File)) (w : Work) (keys : List RemoteKey) (r : ℕ) → IsDue w → AreTaken w keys → crowded_with w.tallies.items keys ≡ Some r
      → AreFound tables remotes held w.loaded → SoFar w → OverKeys remotes held (λ found. MayRefuse gives block tables remotes found (fault.TooManyKeys r))
  may_be_crowded held w keys r due taken crowd found so_far =
      let over = over_loaded tables remotes held w.loaded due.work.ordered found in
      let file : ℕ → ℤ → Result (List (List Value)) Cause = key_file_of tables remotes over.0 in
      let h = so_far file over.2 in
      (over.0, over.1, h.comes (Err (fault.TooManyKeys r)) (crowds file w keys r due taken h.is crowd))

  -- where a round stops
  pub may_stop : (held : Option (List File)) (before now : ℕ) (w v : Work) (keys : List RemoteKey) (f : RemoteFault) → IsDue w → AreTaken w keys → HaveTaken w v
      → crowded_with w.tallies.items keys ≡ None
      → (AreFound tables remotes held v.loaded → MayStopIn before now (FirstFaultIs tables remotes held v.loaded) keys f)
      → AreFound tables remotes held w.loaded → SoFar w → OverKeys remotes held (λ found. MayRefuse gives block tables remotes found f)
  may_stop held before now w v keys f due taken have crowd stops found so_far = by (stops (subst (AreFound tables remotes held) (sym have.loaded) found))
    where
      -- the first fault beside what was loaded before
      known_before : (file : ℕ → ℤ → Result (List (List Value)) Cause) (all : List RemoteKey) → first_fault file (known w.loaded) all ≡ first_fault file (known v.loaded) all
      known_before file all = ap (λ (l : List (RemoteKey × Relation)). first_fault file (known l) all) (sym have.loaded)

      of_read : (at : RemoteKey) (front rest : List RemoteKey) → f ≡ fault.Read at → keys ≡ front ++ at ∷ rest → FirstFaultIs tables remotes held v.loaded front None
          → OverKeys remotes held (λ some. MayRefuse gives block tables remotes some f)
      of_read at front rest is split over =
          let file : ℕ → ℤ → Result (List (List Value)) Cause = key_file_of tables remotes over.0 in
          let h = so_far file (subst (AreStored file) have.loaded over.2) in (
            over.0,
            over.1,
            subst (λ (g : RemoteFault). MayRefuse gives block tables remotes over.0 g) (sym is)
                (h.reaches at (here file w keys front rest at due taken h.is crowd split (known_before file front ∙ over.3))),
          )

      of_memory : f ≡ fault.Memory → OverKeys remotes held (λ some. MayRefuse gives block tables remotes some f)
      of_memory is =
          given_any tables remotes held (λ some. MayRefuse gives block tables remotes some f) (λ some. subst (λ (g : RemoteFault). MayRefuse gives block tables remotes some g) (sym is) tt)

      of_first : FirstFaultIs tables remotes held v.loaded keys (Some f) → OverKeys remotes held (λ some. MayRefuse gives block tables remotes some f)
      of_first over =
          let file : ℕ → ℤ → Result (List (List Value)) Cause = key_file_of tables remotes over.0 in
          let h = so_far file (subst (AreStored file) have.loaded over.2) in
          let first : first_fault file (known w.loaded) keys ≡ Some f = known_before file keys ∙ over.3 in (
            over.0,
            over.1,
            may over.0 f (λ at is. never_read file keys (known w.loaded) at (first ∙ ap (λ (g : RemoteFault). let o : Option RemoteFault = Some g in o) is))
                (h.comes (Err f) (breaks file w keys f due taken h.is crowd first)),
          )

      by : MayStopIn before now (FirstFaultIs tables remotes held v.loaded) keys f → OverKeys remotes held (λ some. MayRefuse gives block tables remotes some f)
      by (inl read) = of_read read.0 read.1 read.2 read.3 read.5 read.6
      by (inr (inl memory)) = of_memory memory
      by (inr (inr other)) = of_first other.1
