-- What the words of the command line ask to be run.
use Rattle.std.specs.Prelude.{◌≡◌, ℕ, Bool, true, false, List, [], length, Option, Some, None, option_map}
use Rattle.std.specs.Option.{option_map_or}
use Rattle.command_line.specs.Form.{command}
use Rattle.command_line.specs.declared.command.AccessWord.{AccessWord}
use Rattle.command_line.specs.declared.command.Command.{Command}
use Rattle.command_line.specs.declared.command.RemoteWord.{RemoteWord}
use Rattle.command_line.specs.declared.command.TableWord.{TableWord}
use Rattle.command_line.specs.declared.command.Task.{Task}
use Rattle.command_line.specs.declared.command.Task.TheVariants.{Query, Demo}
use Rattle.run_plan.specs.Naming.{Counts, counts, zero_counts}
use Rattle.run_notes.specs.Note.{Names, names_of}
use Rattle.run_answers.specs.Settings.{settings_of}
use Rattle.whole_run.specs.declared.asking.Request.{Request}

-- what is to be run, and how its statements are
abbrev pub request_of : Command → Request
request_of c = record { task = c.task; settings = settings_of c }

-- what words ask for, where they are in form
unfoldable pub asked : List (List ℕ) → Option Request
asked words = option_map request_of (command words)

-- whether a task loads no file, as the demo's
abbrev pub loads_none : Task → Bool
loads_none (Query q) = false
loads_none (Demo rows) = true

-- whether words ask for no file to be loaded: they aren't in form, or ask for the demo
abbrev pub are_fileless : List (List ℕ) → Bool
are_fileless words = option_map_or (λ (a : Request). loads_none a.task) (asked words) true

-- words ask for the demo
pub record IsDemoAsked (words : List (List ℕ)) : Type 0 where
  pub request : Request
  pub in_form : asked words ≡ Some request
  pub rows : ℕ
  pub task : request.task ≡ Demo rows

-- the tables, the accesses and the remotes of the words: the demo has none
abbrev pub tables_in : Task → List TableWord
tables_in (Query q) = q.tables
tables_in (Demo rows) = []

abbrev pub accesses_in : Task → List AccessWord
accesses_in (Query q) = q.accesses
accesses_in (Demo rows) = []

abbrev pub remotes_in : Task → List RemoteWord
remotes_in (Query q) = q.remotes
remotes_in (Demo rows) = []

-- how many there are
abbrev pub counts_in : Task → Counts
counts_in task = counts (length (tables_in task)) (length (accesses_in task)) (length (remotes_in task))

abbrev pub counts_asked : List (List ℕ) → Counts
counts_asked words = option_map_or (λ (a : Request). counts_in a.task) (asked words) zero_counts

-- the names of tables and remotes, as they were given
abbrev pub names_in : Task → Names
names_in task = names_of (tables_in task) (remotes_in task)

-- no names
abbrev pub no_names : Names
no_names = names_of [] []

abbrev pub names_asked : List (List ℕ) → Names
names_asked words = option_map_or (λ (a : Request). names_in a.task) (asked words) no_names

-- whether words ask for a line of counts for each statement
abbrev pub is_tallied : List (List ℕ) → Bool
is_tallied words = option_map_or (λ (a : Request). a.settings.tally) (asked words) false
