-- For the proofs: the answers that `lru` keeps, or that nothing keeps, where the room is 0.
use Rattle.std.specs.Prelude.{ℕ, List, [], Option, Some, None}
use Rattle.lru.specs.LruCache.{LruCache}
use Rattle.sq_value.specs.declared.value.Truth.{Truth}
use Rattle.predicate_cache.specs.declared.call_key.CallKey.{CallKey}

abbrev pub room_of : Option (LruCache CallKey Truth) → ℕ
room_of None = 0
room_of (Some kept) = kept.cap

abbrev pub entries_of : Option (LruCache CallKey Truth) → List (CallKey × Truth)
entries_of None = []
entries_of (Some kept) = kept.entries
