-- For the proofs: the rows of keys' tables behind those of their remotes' tables.
use Rattle.std.specs.Prelude.{◌≡◌, ◌+◌, ◌<◌, List, [], ◌∷◌, ◌++◌, set, length, slice_get, IfSome, ⊤}
use Rattle.std.specs.Option.{option_map_or}
use Rattle.sq_value.specs.Relation.{Relation}
use Rattle.remote_lookup.specs.declared.remote.RemoteKey.{RemoteKey}

-- tables with the rows of one more key
abbrev pub with_key : List Relation → RemoteKey × Relation → List Relation
with_key into e =
    option_map_or (λ (t : Relation). set into e.0.remote (record t { rows = t.rows ++ e.1.rows }))
    (slice_get into e.0.remote) into

-- and with those of all
abbrev pub with_keys : List Relation → List (RemoteKey × Relation) → List Relation
with_keys into [] = into
with_keys into (e ∷ es) = with_keys (with_key into e) es

-- each key's table has the columns of its remote's, and there is room for the rows of all
abbrev pub CanTake : List Relation → List (RemoteKey × Relation) → Type 0
CanTake into [] = ⊤
CanTake into (e ∷ es) =
    (e.0.remote < length into)
    × IfSome (slice_get into e.0.remote) (λ (t : Relation). (e.1.columns ≡ t.columns)
    × (length t.rows + length e.1.rows < 4294967296))
    × CanTake (with_key into e) es
