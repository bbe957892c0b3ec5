-- The calls of a list by their last use: what an answer that was used last is.
use Rattle.std.specs.Prelude.{not, List, [], ◌∷◌, filter, Option, Some, None}
use Rattle.predicate_cache.specs.Calls.{known_by, is_key}
use Rattle.predicate_cache.specs.Cached.{Call}
use Rattle.predicate_cache.specs.declared.call_key.CallKey.{CallKey}

-- what calls are known by, the last one first, before those of earlier calls
abbrev pub with_known : Option CallKey → List CallKey → List CallKey
with_known None earlier = earlier
with_known (Some key) earlier = key ∷ earlier

abbrev pub keys_called : List Call → List CallKey → List CallKey
keys_called [] earlier = earlier
keys_called (c ∷ calls) earlier = keys_called calls (with_known (known_by c.number c.x c.y) earlier)

-- each of these once, where it comes first
abbrev pub last_uses : List CallKey → List CallKey
last_uses [] = []
last_uses (key ∷ keys) = key ∷ filter (λ other. not (is_key key other)) (last_uses keys)
