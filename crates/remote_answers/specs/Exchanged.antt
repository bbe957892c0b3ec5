-- For the proofs: tables in the places of those of remotes.
use Rattle.std.specs.Prelude.{◌≡◌, ◌≢◌, ◌<◌, List, length, map, Some, All, AllPairs, slice_get}
use Rattle.sq_value.specs.Relation.{Relation}
use Rattle.remote_lookup.specs.KeyFiles.{table_columns}
use Rattle.remote_lookup.specs.declared.remote.Remote.{Remote}

-- each remote has a table of its own, which is there
pub record HaveTables (tables : List Relation) (remotes : List Remote) : Type 0 where
  pub there : All (λ (r : Remote). r.table < length tables) remotes
  pub differ : AllPairs (λ (a b : Remote). a.table ≢ b.table) remotes

-- other tables with the columns of those of remotes, one each
abbrev pub HaveColumns : List Relation → List Remote → List Relation → Type 0
HaveColumns tables remotes others =
    map (λ (t : Relation). t.columns) others ≡ map (λ (r : Remote). table_columns tables r.table) remotes

-- these are the tables of remotes
abbrev pub AreTablesOf : List Relation → List Remote → List Relation → Type 0
AreTablesOf tables remotes own = map Some own ≡ map (λ (r : Remote). slice_get tables r.table) remotes
