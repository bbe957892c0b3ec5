use Rattle.std.proofs.Common.{[], sym, subst, arith, Option}
use Rattle.std.specs.List.{IsDistinct}
use Rattle.lru.specs.LruCache.{LruCache}
use Rattle.sq_value.specs.declared.value.Truth.{Truth}
use Rattle.predicate_cache.specs.Calls.{is_key}
use Rattle.predicate_cache.specs.Kept.{AreKept}
use Rattle.predicate_cache.specs.Store.{room_of, entries_of}
use Rattle.predicate_cache.specs.declared.call_key.CallKey.{CallKey}
use Rattle.predicate_cache.proofs.store.count.Goals as goal

none_differ : IsDistinct is_key []
unfolding IsDistinct
none_differ = tt

pub returns-in-None-clause-kept : goal.returns-in-None-clause-kept
returns-in-None-clause-kept c =
    subst (λ (o : Option (LruCache CallKey Truth)). AreKept (room_of o) (entries_of o)) (sym c.in-None.is)
    (record { differ = none_differ; few = omega arith })
