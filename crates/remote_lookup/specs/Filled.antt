-- The tables for a set of keys: a remote's table has the rows of the keys' files.
use Rattle.std.specs.Prelude.{◌≡◌, ℕ, ◌+◌, ◌==◌, List, [], ◌∷◌, set, map, filter, Option, Some, None, ℤ, position, slice_get, All, AllPairs}
use Rattle.std.specs.List.{flat_map}
use Rattle.std.specs.Ordering.{int_cmp}
use Rattle.std.specs.declared.cmp.Ordering.TheVariants.{Less}
use Rattle.sq_value.specs.Relation.{Relation}
use Rattle.sq_value.specs.declared.value.Value.{Value}
use Rattle.sq_value.specs.declared.value.Value.TheVariants.{Int}
use Rattle.remote_lookup.specs.declared.remote.Remote.{Remote}
use Rattle.remote_lookup.specs.declared.remote.RemoteKey.{RemoteKey}

-- the remote whose table this is, where there is one
abbrev pub remote_of : List Remote → ℕ → Option ℕ
remote_of remotes table = position (λ (r : Remote). r.table == table) remotes

-- the keys of one remote
abbrev pub keys_at : List RemoteKey → ℕ → List ℤ
keys_at keys remote = map (λ (k : RemoteKey). k.key) (filter (λ (k : RemoteKey). k.remote == remote) keys)

-- In the following `rows` are the rows of the file of a key of a remote. A table, which may be a remote's, for a set
-- of keys
abbrev pub filled : (ℕ → ℤ → List (List Value)) → List RemoteKey → Option ℕ → Relation → Relation
filled rows keys None t = t
filled rows keys (Some remote) t = record t { rows = flat_map (rows remote) (keys_at keys remote) }

-- tables for a set of keys, the first of them with this number
abbrev pub filled_from : List Remote → (ℕ → ℤ → List (List Value)) → List RemoteKey → ℕ → List Relation → List Relation
filled_from remotes rows keys number [] = []
filled_from remotes rows keys number (t ∷ ts) =
    filled rows keys (remote_of remotes number) t ∷ filled_from remotes rows keys (number + 1) ts

-- the tables for a set of keys: a remote's has the rows of its keys' files, by key and then by record
abbrev pub tables_for : List Remote → (ℕ → ℤ → List (List Value)) → List Relation → List RemoteKey → List Relation
tables_for remotes rows tables keys = filled_from remotes rows keys 0 tables

-- tables with others in the places of remotes' tables
abbrev pub exchanged : List Relation → List Remote → List Relation → List Relation
exchanged tables [] others = tables
exchanged tables (r ∷ rs) [] = tables
exchanged tables (r ∷ rs) (t ∷ ts) = exchanged (set tables r.table t) rs ts

-- the keys of each remote rise, so none is there twice
abbrev pub KeysRise : List RemoteKey → Type 0
KeysRise keys = (remote : ℕ) → AllPairs (λ (a b : ℤ). int_cmp a b ≡ Less) (keys_at keys remote)

-- the files of keys are in order: each row has its file's key in the look-up column
abbrev pub AreInOrder : List Remote → (ℕ → ℤ → List (List Value)) → List RemoteKey → Type 0
AreInOrder remotes rows keys =
    (remote : ℕ) (r : Remote) → slice_get remotes remote ≡ Some r
    → All (λ (k : ℤ). All (λ (row : List Value). slice_get row r.column ≡ Some (Int k)) (rows remote k))
    (keys_at keys remote)
