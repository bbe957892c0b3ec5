-- What holds of every command, whatever its words: what a run may rely on.
use Rattle.std.specs.Prelude.{◌≡◌, ◌+◌, ◌≤◌, ◌<◌, ⊤, ℕ, true, [], length, All}
use Rattle.std.specs.Result.{is_ok}
use Rattle.route_policy.specs.ScriptReading.{script_of}
use Rattle.command_line.specs.Tables.{is_named_file, names_differ}
use Rattle.command_line.specs.Accesses.{tables_differ}
use Rattle.command_line.specs.Remotes.{is_remote, remotes_differ}
use Rattle.command_line.specs.declared.command.AccessWord.{AccessWord}
use Rattle.command_line.specs.declared.command.Command.{Command}
use Rattle.command_line.specs.declared.command.Query.{Query as QueryWords}
use Rattle.command_line.specs.declared.command.Task.{Task}
use Rattle.command_line.specs.declared.command.Task.TheVariants.{Query, Demo}

-- an access is one of these tables, and its column has a name
pub record IsAccess (tables : ℕ) (a : AccessWord) : Type 0 where
  pub table : a.table < tables
  pub column : 1 ≤ length a.column

-- there are 1 to 16 tables whose names differ, and accesses of some of them, at most one of each; the remotes are 4 at
-- most, with the tables 16 at most, and their names are new and differ
pub record IsQuery (q : QueryWords) : Type 0 where
  pub some : 1 ≤ length q.tables
  pub few : length q.tables ≤ 16
  pub named : All (λ t. is_named_file t ≡ true) q.tables
  pub names : names_differ q.tables ≡ true
  pub accesses : All (IsAccess (length q.tables)) q.accesses
  pub tables : tables_differ q.accesses ≡ true
  pub remotes : length q.remotes ≤ 4
  pub together : length q.tables + length q.remotes ≤ 16
  pub prefixed : All (λ r. is_remote r ≡ true) q.remotes
  pub apart : remotes_differ q.tables q.remotes ≡ true

-- there are 1 to 100,000 rows
pub record IsDemo (rows : ℕ) : Type 0 where
  pub some : 1 ≤ rows
  pub few : rows ≤ 100000

abbrev pub IsTask : Task → Type 0
IsTask (Query q) = IsQuery q
IsTask (Demo rows) = IsDemo rows

-- no table is reached but by a scan: there is no access and no remote
abbrev pub HasScansAlone : Task → Type 0
HasScansAlone (Query q) = (q.accesses ≡ []) × (q.remotes ≡ [])
HasScansAlone (Demo rows) = ⊤

-- there are 1 to 16 workers, the route text is a route script, and a cache has room for 4,096 answers at most
pub record IsWithin (c : Command) : Type 0 where
  pub some : 1 ≤ c.workers
  pub few : c.workers ≤ 16
  pub route : is_ok (script_of c.route) ≡ true
  pub cache : c.cache ≤ 4096
  pub task : IsTask c.task
  pub shared : c.shared ≡ true → (c.cache ≡ 0) × HasScansAlone c.task
