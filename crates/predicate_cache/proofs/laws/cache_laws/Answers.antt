use Rattle.std.proofs.Common.{◌≡◌, ℕ, zero, suc, [], take, refl, sym, arith}
use Rattle.std.proofs.lemmas.List.Elements.{All-nil}
use Rattle.sq_value.specs.declared.value.Truth.{Truth}
use Rattle.predicate_cache.specs.Calls.{given}
use Rattle.predicate_cache.specs.Cached.{unused}
use Rattle.predicate_cache.specs.declared.call_key.CallKey.{CallKey}
use Rattle.predicate_cache.proofs.LawLemmas.{IsSound-after_calls}
use Rattle.predicate_cache.proofs.LatestLemmas.{latest-calls}
use Rattle.predicate_cache.proofs.laws.cache_laws.Goals as goal

pub returns-clause-given : goal.returns-clause-given
returns-clause-given g c = λ functions room calls.
    (IsSound-after_calls g.F.Predicates.gives room 0 calls (unused functions room) (record { room_is = refl; given = All-nil (λ (e : CallKey × Truth). e.1 ≡ given g.F.Predicates.gives e.0); few = omega arith; hits = omega arith })).given

pub returns-clause-few : goal.returns-clause-few
returns-clause-few g c = λ functions room calls.
    (IsSound-after_calls g.F.Predicates.gives room 0 calls (unused functions room) (record { room_is = refl; given = All-nil (λ (e : CallKey × Truth). e.1 ≡ given g.F.Predicates.gives e.0); few = omega arith; hits = omega arith })).few

pub returns-clause-hits : goal.returns-clause-hits
returns-clause-hits g c = λ functions room calls.
    let sound = IsSound-after_calls g.F.Predicates.gives room 0 calls (unused functions room) (record { room_is = refl; given = All-nil (λ (e : CallKey × Truth). e.1 ≡ given g.F.Predicates.gives e.0); few = omega arith; hits = omega arith }) in
    let hits = sound.hits in omega (arith, hits)

take-none : (n : ℕ) → take {A = CallKey} n [] ≡ []
take-none zero = refl
take-none (suc n) = refl

pub returns-clause-latest : goal.returns-clause-latest
returns-clause-latest g c = λ functions room calls all.
    (latest-calls g.F.Predicates.gives room calls (unused functions room) [] all (refl, sym (take-none room))).1
