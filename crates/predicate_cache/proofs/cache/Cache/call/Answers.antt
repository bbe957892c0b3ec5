use Rattle.std.proofs.Common.{◌≡◌, ℕ, true, List, None, ap, ◌∙◌, sym, subst}
use Rattle.std.specs.Map.{lookup}
use Rattle.lru.specs.LruCache.{promoted}
use Rattle.sq_value.specs.declared.value.Value.{Value}
use Rattle.sq_value.specs.declared.value.Truth.{Truth}
use Rattle.predicate_cache.specs.Cached.{after_call}
use Rattle.predicate_cache.specs.Calls.{is_key}
use Rattle.predicate_cache.specs.Store.{entries_of, room_of}
use Rattle.predicate_cache.specs.declared.call_key.CallKey.{CallKey}
use Rattle.predicate_cache.proofs.KeyLemmas.{given-known_by}
use Rattle.predicate_cache.proofs.EntryLemmas.{given-lookup}
use Rattle.predicate_cache.proofs.StepLemmas.{IsPut, seen-found, seen-kept, AreGiven-kept, AreGiven-promoted, promoted-none}
use Rattle.predicate_cache.proofs.cache.Cache.call.Goals as goal

-- a kept answer was found, and goes first

pub invariant_of-self : goal.invariant_of-self
invariant_of-self g c =
    AreGiven-promoted g.F.Predicates.gives c.in-Some.key (entries_of c.self.inside.store) (entries_of c.found.new.store) c.in-Some-found.truth
    c.self.invariant (sym c.in-Some-found.ensures.answer) c.found.ensures.first

pub returns-in-Some-found-clause-truth : goal.returns-in-Some-found-clause-truth
returns-in-Some-found-clause-truth g c =
    let gives = g.F.Predicates.gives in
    given-lookup gives c.in-Some.key (entries_of c.self.inside.store) c.in-Some-found.truth c.self.invariant (sym c.in-Some-found.ensures.answer)
    ∙ given-known_by gives c.args.number c.args.x.now c.args.y.now c.in-Some.key (sym c.in-Some.ensures)

pub returns-in-Some-found-clause-cache : goal.returns-in-Some-found-clause-cache
returns-in-Some-found-clause-cache g c =
    let gives = g.F.Predicates.gives in
    let old = c.self.inside in (
      true,
      seen-found gives c.in-Some.key old.functions.now c.args.number c.args.x.now c.args.y.now (sym c.in-Some.ensures)
          (entries_of old.store) (entries_of c.found.new.store) (room_of old.store) (room_of c.found.new.store)
          old.hits c.saturating_add-self-inside.result c.in-Some-found.truth c.self.invariant
          (sym c.in-Some-found.ensures.answer) c.found.ensures.first c.found.ensures.room c.saturating_add-self-inside.ensures
          ∙ ap (after_call gives true c.args.number c.args.x.now c.args.y.now) c.self.view_is,
    )

-- none was found, so all is as it was, and the predicate is asked

-- the kept answers are as they were
stays : (gives : ℕ → Value → Value → Truth) (key : CallKey) (old found : List (CallKey × Truth))
    → lookup (is_key key) old ≡ None → found ≡ promoted (is_key key) old → found ≡ old
stays gives key old found none first = first ∙ promoted-none gives key old none

pub keep-requires : goal.keep-requires
keep-requires g c =
    let none : lookup (is_key c.in-Some.key) (entries_of c.self.inside.store) ≡ None = sym c.in_default-found.ensures.answer in
    ap (lookup (is_key c.in-Some.key)) (stays g.F.Predicates.gives c.in-Some.key (entries_of c.self.inside.store) (entries_of c.found.new.store) none c.found.ensures.first) ∙ none

-- what `keep` leaves of the answers that were kept before the call
put_of : (gives : ℕ → Value → Value → Truth) (key : CallKey) (truth : Truth) (old found new : List (CallKey × Truth)) (room room' : ℕ)
    → lookup (is_key key) old ≡ None → found ≡ promoted (is_key key) old → room' ≡ room
    → IsPut key truth room' found new → IsPut key truth room old new
put_of gives key truth old found new room room' none first same h =
    subst (λ (n : ℕ). IsPut key truth n old new) same
    (subst (λ (l : List (CallKey × Truth)). IsPut key truth room' l new) (stays gives key old found none first) h)

pub invariant_of-self-2 : goal.invariant_of-self-2
invariant_of-self-2 g c =
    let gives = g.F.Predicates.gives in
    let key = c.in-Some.key in
    let old = c.self.inside.store in
    AreGiven-kept gives key (entries_of old) (entries_of c.keep.new.store) (room_of old) c.call-truth.result c.self.invariant
    (c.call-truth.ensures ∙ sym (given-known_by gives c.args.number c.args.x.now c.args.y.now key (sym c.in-Some.ensures)))
    (put_of gives key c.call-truth.result (entries_of old) (entries_of c.found.new.store) (entries_of c.keep.new.store) (room_of old) (room_of c.found.new.store)
    (sym c.in_default-found.ensures.answer) c.found.ensures.first c.found.ensures.room c.keep.ensures.entries)

pub returns-clause-cache : goal.returns-clause-cache
returns-clause-cache g c =
    let gives = g.F.Predicates.gives in
    let key = c.in-Some.key in
    let old = c.self.inside in
    let kept = seen-kept gives key old.functions.now c.args.number c.args.x.now c.args.y.now (sym c.in-Some.ensures)
    (entries_of old.store) (entries_of c.keep.new.store) (room_of old.store) (room_of c.keep.new.store) old.hits c.call-truth.result
    (sym c.in_default-found.ensures.answer)
    (c.call-truth.ensures ∙ sym (given-known_by gives c.args.number c.args.x.now c.args.y.now key (sym c.in-Some.ensures)))
    (put_of gives key c.call-truth.result (entries_of old.store) (entries_of c.found.new.store) (entries_of c.keep.new.store) (room_of old.store) (room_of c.found.new.store)
    (sym c.in_default-found.ensures.answer) c.found.ensures.first c.found.ensures.room c.keep.ensures.entries)
    (c.keep.ensures.room ∙ c.found.ensures.room) in
    (kept.0, kept.1 ∙ ap (after_call gives kept.0 c.args.number c.args.x.now c.args.y.now) c.self.view_is)
