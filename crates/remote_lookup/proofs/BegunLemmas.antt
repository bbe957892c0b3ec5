-- What holds before any file is loaded.
use Rattle.std.proofs.Common.{◌≡◌, ◌≢◌, ◌⊎◌, inl, inr, ℕ, ◌<◌, ◌≤◌, Bool, true, false, List, [], ◌∷◌, length, map, refl, ap, sym, ◌∙◌, subst, arith}
use Rattle.std.specs.Prelude.{◌||◌, ◌==◌, ℤ, All, AllPairs, Contains, slice_get}
use Rattle.std.specs.List.{AllByRecursion, IsDistinct, list_any}
use Rattle.std.proofs.lemmas.Bool.{false≢true, eqb-true, false_from_ne_true}
use Rattle.std.proofs.lemmas.List.{length-map}
use Rattle.std.proofs.lemmas.List.Elements.{All-head, All-tail}
use Rattle.std.proofs.lemmas.Map.Steps.{length-le_from_distinct_below}
use Rattle.std.proofs.lemmas.Option.{slice_get_within}
use Rattle.sq_value.specs.Relation.{Relation}
use Rattle.sq_value.specs.declared.value.Value.{Value}
use Rattle.sq_value.specs.declared.value.Truth.{Truth}
use Rattle.sq_expr.specs.declared.block.Block.{Block}
use Rattle.bag_meaning.proofs.PairLemmas.{AllPairs-head, AllPairs-nil, AllPairs-tail}
use Rattle.remote_lookup.specs.Asked.{AreFresh, Grows}
use Rattle.remote_lookup.specs.Asking.{AreSpare, IsAskedAt, IsAskedBehind, IsAskedFirst, IsAskedIn}
use Rattle.remote_lookup.specs.Asks.{AreAsks}
use Rattle.remote_lookup.specs.Loaded.{FitRemotes, IsRemote}
use Rattle.remote_lookup.specs.Needed.{IsAskedFor}
use Rattle.remote_lookup.specs.Rounds.{AreOrdered, lists_key, key_order, rows_of_file}
use Rattle.std.specs.declared.cmp.Ordering.TheVariants.{Less}
use Rattle.remote_lookup.specs.Working.{IsEntry, IsTallyOf, IsWork, Means, known}
use Rattle.remote_lookup.specs.declared.asked.Asked.{Asked}
use Rattle.remote_lookup.specs.declared.asks.Ask.{Ask}
use Rattle.remote_lookup.specs.declared.asks.By.{By}
use Rattle.remote_lookup.specs.declared.asks.By.TheVariants as by
use Rattle.remote_lookup.specs.declared.remote.Remote.{Remote}
use Rattle.remote_lookup.specs.declared.remote.RemoteKey.{RemoteKey}
use Rattle.remote_lookup.specs.declared.rounds.Work.{Work}
use Rattle.remote_lookup.proofs.MeantLemmas.{asked_first, meant_of}

-- remotes with different tables are no more than these
pub few_remotes : (block : Block) (tables : List Relation) (remotes : List Remote) → FitRemotes block tables remotes → length remotes ≤ length tables
unfolding IsDistinct
few_remotes block tables remotes fit =
    let few = length-le_from_distinct_below (map (λ (r : Remote). r.table) remotes) (length tables) (distinct remotes fit.differ) (below remotes fit.each) in
    omega (arith, few, length-map remotes (λ (r : Remote). r.table))
  where
    apart : (r : Remote) (rs : List Remote) → All (λ (s : Remote). r.table ≢ s.table) rs → AllByRecursion (λ (y : ℕ). (r.table == y) ≡ false) (map (λ (s : Remote). s.table) rs)
    apart r [] h = tt
    apart r (s ∷ rs) h =
        let ne = All-head (λ (q : Remote). r.table ≢ q.table) s rs h in
        (false_from_ne_true (r.table == s.table) (λ e. ne (eqb-true r.table s.table e)), apart r rs (All-tail (λ (q : Remote). r.table ≢ q.table) s rs h))

    distinct : (rs : List Remote) → AllPairs (λ (a b : Remote). a.table ≢ b.table) rs → IsDistinct (λ (a b : ℕ). a == b) (map (λ (s : Remote). s.table) rs)
    distinct [] h = tt
    distinct (r ∷ rs) h = (apart r rs (AllPairs-head (λ (a b : Remote). a.table ≢ b.table) r rs h), distinct rs (AllPairs-tail (λ (a b : Remote). a.table ≢ b.table) r rs h))

    below : (rs : List Remote) → All (IsRemote tables) rs → (q : ℕ) → list_any (λ (t : ℕ). q == t) (map (λ (s : Remote). s.table) rs) ≡ true → q < length tables
    below [] h q e = absurd (false≢true e)
    below (r ∷ rs) h q e = by (q == r.table) refl e (below rs (All-tail (IsRemote tables) r rs h) q)
      where
        by : (b : Bool) → (q == r.table) ≡ b → (b || list_any (λ (t : ℕ). q == t) (map (λ (s : Remote). s.table) rs)) ≡ true
            → (list_any (λ (t : ℕ). q == t) (map (λ (s : Remote). s.table) rs) ≡ true → q < length tables) → q < length tables
        by true is d again =
            let one = All-head (IsRemote tables) r rs h in
            subst (λ (n : ℕ). n < length tables) (sym (eqb-true q r.table is)) (slice_get_within tables r.table one.table one.is)
        by false is d again = again d

module _ (gives : ℕ → Value → Value → Truth) (block : Block) (tables : List Relation) (remotes : List Remote) (asks : List Ask)
    (are : AreAsks block remotes asks) where
  -- what is asked is a remote that is there
  ask_low : (ask : Ask) → Contains asks ask → ask.remote < length remotes
  ask_low ask in' = let m = meant_of block remotes asks are ask in' in slice_get_within remotes ask.remote m.asks.r m.asks.is

  pub first_low : (remote : ℕ) (key : ℤ) → IsAskedFirst gives block tables remotes asks remote key → remote < length remotes
  first_low remote key h = at h.0.by h.2
    where
      at : (way : By) → IsAskedAt gives block tables remotes h.0.remote way remote key → remote < length remotes
      at (by.Literal k) asked = subst (λ (n : ℕ). n < length remotes) asked.0 (ask_low h.0 h.1)
      at (by.Column c) asked = subst (λ (n : ℕ). n < length remotes) asked.3.2.2.of (ask_low h.0 h.1)

  pub behind_low : (from : ℕ) (rows : List (List Value)) (remote : ℕ) (key : ℤ) → IsAskedBehind gives block remotes from rows asks remote key → remote < length remotes
  behind_low from rows remote key h = at h.0.by h.2
    where
      at : (way : By) → IsAskedIn gives block remotes from rows h.0.remote way remote key → remote < length remotes
      at (by.Literal k) asked = absurd asked
      at (by.Column c) asked = subst (λ (n : ℕ). n < length remotes) asked.3.2.of (ask_low h.0 h.1)

  -- what is asked for is of remotes that are there, also where it grows
  pub still_there : {P : ℕ → ℤ → Type 0} (a b : Asked) → Grows P a b → ((remote : ℕ) (key : ℤ) → P remote key → remote < length remotes)
      → ((remote : ℕ) (key : ℤ) → lists_key a.all remote key ≡ true → remote < length remotes)
      → (remote : ℕ) (key : ℤ) → lists_key b.all remote key ≡ true → remote < length remotes
  still_there {P} a b grows new old remote key h = at ((grows.all remote key).0 h)
    where
      at : (lists_key a.all remote key ≡ true) ⊎ P remote key → remote < length remotes
      at (inl e) = old remote key e
      at (inr p) = new remote key p

  abbrev none : Asked
  none = record { all = []; fresh = [] }

  pub fresh_begun : AreFresh [] [] []
  fresh_begun = record { within = λ remote key h. h; each = λ remote key. refl }

  -- what is asked for before any file is loaded
  pub begun_fresh : (a : Asked) → Grows (IsAskedFirst gives block tables remotes asks) none a → AreFresh [] a.all a.fresh
  begun_fresh a grows = grows.fresh [] fresh_begun

  pub begun_work : (w v : Work) → IsWork tables remotes w → v.loaded ≡ w.loaded → v.tallies ≡ w.tallies → v.spare ≡ w.spare
      → Grows (IsAskedFirst gives block tables remotes asks) none v.asked → IsWork tables remotes v
  begun_work w v work loaded tallies spare grows = record {
    ordered = subst (λ (l : List (RemoteKey × Relation)). AreOrdered (known l)) (sym loaded) work.ordered;
    spare = subst (λ (l : List Relation). AreSpare tables remotes l) (sym spare) work.spare;
    count = ap (λ t. length t.items) tallies ∙ work.count;
    tallies = λ remote t at. subst (λ (l : List (RemoteKey × Relation)). IsTallyOf l remote t) (sym loaded) (work.tallies remote t (ap (λ l. slice_get l.items remote) (sym tallies) ∙ at));
    entries = subst (All (IsEntry tables remotes)) (sym loaded) work.entries;
    asked = grows.ordered (AllPairs-nil (λ (a b : RemoteKey). key_order a b ≡ Less));
    there = still_there none v.asked grows first_low (λ remote key h. absurd (false≢true h));
  }

  pub begun_means : (v : Work) → v.loaded ≡ [] → Grows (IsAskedFirst gives block tables remotes asks) none v.asked → Means gives block tables remotes v
  begun_means v loaded grows file stored remote key = (λ h. to ((grows.all remote key).0 h), λ h. (grows.all remote key).1 (from h))
    where
      For : List (RemoteKey × Relation) → Type 0
      For l = IsAskedFor gives block tables remotes (λ r k. rows_of_file (file r k)) (lists_key (known l)) remote key

      to : (lists_key [] remote key ≡ true) ⊎ IsAskedFirst gives block tables remotes asks remote key → For v.loaded
      to (inl e) = absurd (false≢true e)
      to (inr h) =
          subst For (sym loaded) ((asked_first gives block tables remotes (λ r k. rows_of_file (file r k)) asks are remote key).0 h)

      from : For v.loaded → (lists_key [] remote key ≡ true) ⊎ IsAskedFirst gives block tables remotes asks remote key
      from h = inr ((asked_first gives block tables remotes (λ r k. rows_of_file (file r k)) asks are remote key).1 (subst For loaded h))
