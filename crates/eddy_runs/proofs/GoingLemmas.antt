-- Each step keeps that the pending tuples are unfinished and have made hops within the bounds, and that no key is asked for twice.
use Rattle.std.proofs.Common.{◌≡◌, ◌⊎◌, inl, inr, ⊎_elim, ℕ, zero, suc, ◌+◌, ◌<◌, true, false, List, [], ◌∷◌, ◌++◌, length, Option, Some, refl, ap, sym, ◌∙◌, arith, subst}
use Rattle.std.specs.Prelude.{All, slice_get, slice_set, slice_index}
use Rattle.std.proofs.lemmas.Option.{slice_get_within}
use Rattle.std.proofs.lemmas.List.{append-nil}
use Rattle.std.proofs.lemmas.List.Elements.{All-push, All-head}
use Rattle.sq_value.specs.Relation.{Relation}
use Rattle.sq_value.specs.declared.value.Value.{Value}
use Rattle.sq_value.specs.declared.value.Truth.{Truth}
use Rattle.sq_value.specs.declared.predicate.Kinds.{Kinds}
use Rattle.sq_expr.specs.Fits.{IsFit}
use Rattle.sq_expr.specs.declared.block.Block.{Block}
use Rattle.eddy_runs.specs.declared.event.Event.{Event}
use Rattle.eddy_runs.specs.declared.event.Event.TheVariants as event
use Rattle.eddy_meaning.specs.Tuple.{Tuple}
use Rattle.eddy_meaning.specs.Route.{came}
use Rattle.eddy_meaning.specs.Faithful.{IsFaithful, is_finished}
use Rattle.eddy_runs.specs.State.{State, Asked, IsAsked, IsNewKey, IsStep, IsKeeping}
use Rattle.eddy_meaning.specs.Route.{single}
use Rattle.eddy_meaning.specs.Hops.{HasHops, AreGoing}
use Rattle.eddy_meaning.proofs.MatchLemmas.{All-at}
use Rattle.eddy_runs.specs.Reached.{AreApart}
use Rattle.eddy_runs.proofs.KeepLemmas.{Contains-at, place_cases}
use Rattle.eddy_meaning.proofs.CountLemmas.{going_act}
use Rattle.eddy_meaning.proofs.HopLemmas.{hops_came, hops_single}

module _ (gives : ℕ → Value → Value → Truth) (kinds : ℕ → Option Kinds) (block : Block) (tables : List Relation) (fits : IsFit kinds tables block) where
  abbrev Goes : Tuple → Type 0
  Goes t = (is_finished block t ≡ false) × HasHops t

  pub going : (old new : State) (event : Event) → IsKeeping gives block tables old → AreGoing block old.pending → IsStep gives block tables old event new → AreGoing block new.pending
  going old new (event.Claim alias) keeps h step =
      subst (AreGoing block) (sym (ap (λ (s : State). s.pending) step.is))
      (All-push Goes old.pending (single alias (slice_index old.next alias)) h
      (refl, hops_single alias (slice_index old.next alias) (omega (arith, slice_get_within block.aliases alias step.u step.at, fits.few_aliases))))
  going old new (event.Fetch place) keeps h step =
      subst (AreGoing block) (sym (ap (λ (s : State). s.pending) step.is))
      (All-push Goes old.pending (single step.k.alias step.row) h
      (refl, hops_single step.k.alias step.row (omega (arith, slice_get_within block.aliases step.k.alias step.u step.used, fits.few_aliases))))
  going old new (event.End place) keeps h step = subst (AreGoing block) (sym (ap (λ (s : State). s.pending) step.is)) h
  going old new (event.Route place route) keeps h step =
      let cs = came gives block tables old.log step.t route in
      let own : HasHops step.t = (All-at Goes old.pending place step.t h step.at).1 in
      let wide : length step.t.parts ≡ 12 = (All-at (IsFaithful gives block tables old.log) old.pending place step.t keeps.faithful step.at).sound.wide in
      let hops = hops_came gives kinds block tables fits old.log step.t route wide step.legal own in
      subst (AreGoing block) (sym step.pending) (going_act block old.pending place step.t cs step.at h hops)

-- an entry written anew with the same alias and key
apart_set : (asked : List Asked) (place : ℕ) (k l : Asked) → slice_get asked place ≡ Some k → l.alias ≡ k.alias → l.key ≡ k.key → AreApart asked → AreApart (slice_set asked place l)
apart_set asked place k l at alias key h = record {
  apart = λ i j x y ex ey ea ek.
      let a = old i x ex in
      let b = old j y ey in
      h.apart i j a.0 b.0 a.1 b.1 (a.2 ∙ ea ∙ sym b.2) (a.3 ∙ ek ∙ sym b.3);
}
  where
    old : (i : ℕ) (x : Asked) → slice_get (slice_set asked place l) i ≡ Some x → (y : Asked) × (slice_get asked i ≡ Some y) × (y.alias ≡ x.alias) × (y.key ≡ x.key)
    old i x e =
        ⊎_elim (λ here. (k, ap (slice_get asked) here.0 ∙ at, sym alias ∙ ap (λ (z : Asked). z.alias) (sym here.1), sym key ∙ ap (λ (z : Asked). z.key) (sym here.1)))
        (λ there. (x, there, refl, refl)) (place_cases asked place i l x e)

-- one more that wasn't there
apart_push : (asked : List Asked) (x : Asked) → (IsAsked asked x.alias x.key → ⊥) → AreApart asked → AreApart (asked ++ x ∷ [])
apart_push asked x absent h = record { apart = λ i j k l ek el ea ekey. by i j k l ek el ea ekey (place i k ek) (place j l el) }
  where
    end_only : (xs : List Asked) (i : ℕ) (k : Asked) → slice_get (xs ++ x ∷ []) i ≡ Some k → (slice_get xs i ≡ Some k) ⊎ ((i ≡ length xs) × (k ≡ x))
    end_only [] zero k e = inr (refl, cc)
    end_only [] (suc i) k e = absurd cc
    end_only (y ∷ xs) zero k e = inl e
    end_only (y ∷ xs) (suc i) k e = ⊎_elim (λ a. inl a) (λ b. inr (ap (λ (n : ℕ). suc n) b.0, b.1)) (end_only xs i k e)

    place : (i : ℕ) (k : Asked) → slice_get (asked ++ x ∷ []) i ≡ Some k → (slice_get asked i ≡ Some k) ⊎ ((i ≡ length asked) × (k ≡ x))
    place = end_only asked

    by : (i j : ℕ) (k l : Asked) → slice_get (asked ++ x ∷ []) i ≡ Some k → slice_get (asked ++ x ∷ []) j ≡ Some l → k.alias ≡ l.alias → k.key ≡ l.key
        → (slice_get asked i ≡ Some k) ⊎ ((i ≡ length asked) × (k ≡ x)) → (slice_get asked j ≡ Some l) ⊎ ((j ≡ length asked) × (l ≡ x)) → i ≡ j
    by i j k l ek el ea ekey (inl a) (inl b) = h.apart i j k l a b ea ekey
    by i j k l ek el ea ekey (inr a) (inr b) = a.0 ∙ sym b.0
    by i j k l ek el ea ekey (inl a) (inr b) =
        absurd (absent (record { k = k; in' = Contains-at asked i k a; of = ea ∙ ap (λ (z : Asked). z.alias) b.1; is = ekey ∙ ap (λ (z : Asked). z.key) b.1 }))
    by i j k l ek el ea ekey (inr a) (inl b) =
        absurd (absent (record { k = l; in' = Contains-at asked j l b; of = sym ea ∙ ap (λ (z : Asked). z.alias) a.1; is = sym ekey ∙ ap (λ (z : Asked). z.key) a.1 }))

pub apart_step : (gives : ℕ → Value → Value → Truth) (block : Block) (tables : List Relation) (old new : State) (event : Event) → AreApart old.asked → IsStep gives block tables old event new → AreApart new.asked
apart_step gives block tables old new (event.Claim alias) h step = subst AreApart (sym (ap (λ (s : State). s.asked) step.is)) h
apart_step gives block tables old new (event.Fetch place) h step =
    subst AreApart (sym (ap (λ (s : State). s.asked) step.is)) (apart_set old.asked place step.k (record step.k { fetched = step.k.fetched + 1 }) step.at refl refl h)
apart_step gives block tables old new (event.End place) h step =
    subst AreApart (sym (ap (λ (s : State). s.asked) step.is)) (apart_set old.asked place step.k (record step.k { ended = true }) step.at refl refl h)
apart_step gives block tables old new (event.Route place route) h step =
    subst AreApart (sym step.asked.is) (by step.asked.more step.asked.few step.asked.new')
  where
    by : (more : List Asked) → length more < 2 → All (IsNewKey block tables step.t route old.asked) more → AreApart (old.asked ++ more)
    by [] few all = subst AreApart (sym (append-nil old.asked)) h
    by (x ∷ []) few all = apart_push old.asked x (All-head (IsNewKey block tables step.t route old.asked) x [] all).absent h
    by (x ∷ (y ∷ more)) few all = absurd (omega arith)
