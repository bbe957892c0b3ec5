-- The form of the command line, and what words in form ask for.
use Rattle.std.specs.Prelude.{ℕ, Bool, true, false, ◌&&◌, ◌==◌, List, [], ◌∷◌, Option, Some, None, is_none, unwrap_or, option_map, codes, if◌then◌else◌}
use Rattle.clap.specs.Walk.{Row, Text, first_of, all_of, is_empty}
use Rattle.clap.specs.Simple.{matches_of}
use Rattle.clap.specs.Takes.{takes}
use Rattle.command_line.specs.Steps.{◌>>=◌}
use Rattle.command_line.specs.Program.{program}
use Rattle.command_line.specs.Tables.{tables_of}
use Rattle.command_line.specs.Accesses.{accesses_of}
use Rattle.command_line.specs.Remotes.{remotes_of}
use Rattle.command_line.specs.Settings.{number_between, workers_of, seed_of, cache_of, policy_of, route_of, is_flag_given}
use Rattle.command_line.specs.declared.command.Command.{Command}
use Rattle.command_line.specs.declared.command.PolicyName.{PolicyName}
use Rattle.command_line.specs.declared.command.Query.{Query as QueryWords}
use Rattle.command_line.specs.declared.command.Task.{Task}
use Rattle.command_line.specs.declared.command.Task.TheVariants.{Query, Demo}

-- a script's file, the tables of the words behind it, the accesses of two options, and the remotes of the third
abbrev pub query_of : List Text → Option Text → Option Text → Option Text → Option QueryWords
query_of [] index lookup remote = None
query_of (script ∷ words) index lookup remote = do
  tables ← tables_of words
  accesses ← accesses_of tables index lookup
  remotes ← remotes_of tables remote
  Some (record { script = script; tables = tables; accesses = accesses; remotes = remotes })

-- the demo's rows, 1 to 100,000, where there is no script, no table, no access and no remote
abbrev pub demo_of : Text → List Text → Option Text → Option Text → Option Text → Option ℕ
demo_of rows words index lookup remote =
    if is_empty words && is_none index && is_none lookup && is_none remote then number_between 1 100000 rows else None

-- whether the queries may run together: no access is asked for, no remote and no cache
abbrev pub may_share : Option Text → Option Text → Option Text → ℕ → Bool
may_share index lookup remote cache = is_none index && is_none lookup && is_none remote && cache == 0

-- whether they do, by the flag
abbrev pub shared_of : Bool → Option Text → Option Text → Option Text → ℕ → Option Bool
shared_of false index lookup remote cache = Some false
shared_of true index lookup remote cache = if may_share index lookup remote cache then Some true else None

-- a command of these parts
abbrev pub command_of : ℕ → PolicyName → ℕ → Text → ℕ → Bool → Bool → Task → Command
command_of workers policy seed route cache tally shared task =
    record {
      workers = workers;
      policy = policy;
      seed = seed;
      route = route;
      cache = cache;
      tally = tally;
      shared = shared;
      task = task;
    }

-- what is to be run, by the text of `--demo`, the words that are no option's, and the texts of the three options
abbrev pub task_of : Option Text → List Text → Option Text → Option Text → Option Text → Option Task
task_of None words index lookup remote = option_map Query (query_of words index lookup remote)
task_of (Some rows) words index lookup remote = option_map Demo (demo_of rows words index lookup remote)

-- the words that are no option's, among what clap finds
abbrev pub other_words_of : List Row → List Text
other_words_of rows = unwrap_or (all_of (codes "words") rows) []

-- what is to be run, by what clap finds
abbrev pub task_in : List Row → Option Task
task_in rows =
    task_of (first_of (codes "demo") rows) (other_words_of rows) (first_of (codes "index") rows)
    (first_of (codes "lookup") rows) (first_of (codes "remote") rows)

-- whether the queries run together, by what clap finds
abbrev pub shared_in : List Row → ℕ → Option Bool
shared_in rows cache =
    shared_of (is_flag_given (first_of (codes "shared") rows)) (first_of (codes "index") rows)
    (first_of (codes "lookup") rows) (first_of (codes "remote") rows) cache

-- what the texts ask for that clap finds in some words
abbrev pub asked_by : List Row → Option Command
asked_by rows = do
  workers ← workers_of (first_of (codes "workers") rows)
  policy ← policy_of (first_of (codes "policy") rows)
  seed ← seed_of (first_of (codes "seed") rows)
  route ← route_of (first_of (codes "route") rows)
  cache ← cache_of (first_of (codes "cache") rows)
  shared ← shared_in rows cache
  task ← task_in rows
  Some (command_of workers policy seed route cache (is_flag_given (first_of (codes "tally") rows)) shared task)

-- the command of some words, where clap takes them and what it finds in them is in form
unfoldable pub command : List Text → Option Command
command words = if takes program words then asked_by (matches_of program words) else None
