-- What a run must answer: the outcome of words over what is given to them is the statements that are answered, each
-- with its tables, and the first refusal, where there is one.
use Rattle.std.specs.Prelude.{◌≡◌, ◌≢◌, ◌⊎◌, ℕ, ℤ, List, [], ◌∷◌, Option, None, Some, option_map, slice_get, unwrap_or, Result, Ok, Err, ⊤}
use Rattle.std.specs.Option.{option_map_or}
use Rattle.sq_value.specs.declared.value.Value.{Value}
use Rattle.sq_value.specs.declared.value.Truth.{Truth}
use Rattle.outside.specs.Files.{File, lookup}
use Rattle.command_line.specs.declared.command.RemoteWord.{RemoteWord}
use Rattle.command_line.specs.declared.command.Task.{Task}
use Rattle.command_line.specs.declared.command.Task.TheVariants as task
use Rattle.remote_lookup.specs.KeyFiles.{KeyBytes, key_name}
use Rattle.remote_lookup.specs.declared.remote.Remote.{Remote}
use Rattle.remote_lookup.specs.declared.remote.RemoteKey.{RemoteKey}
use Rattle.remote_answers.specs.Statements.{Over, Course, ReachesKey, RunsTo}
use Rattle.run_base.specs.Items.{Item, items_over}
use Rattle.run_plan.specs.Faults.{remote_status}
use Rattle.run_plan.specs.Given.{Given, IsGiven}
use Rattle.run_plan.specs.Steps.{AndThen, ComesTo, or_refuse}
use Rattle.run_plan.specs.declared.plan.Plan.{Plan}
use Rattle.run_plan.specs.declared.status.Status.{Status}
use Rattle.run_plan.specs.declared.status.Status.TheVariants as status
use Rattle.run_plan.specs.declared.status.FileOf.{FileOf}
use Rattle.run_plan.specs.declared.status.FileOf.TheVariants as file
use Rattle.run_plan.specs.Prepared.{Predicates, IsPlan, IsDemoPlan, Reached}
use Rattle.run_answers.specs.Summary.{summary}
use Rattle.run_answers.specs.Text.{text_of}
use Rattle.whole_run.specs.Asked.{asked, remotes_in}
use Rattle.whole_run.specs.declared.asking.Request.{Request}

-- what is due: the statements that are answered, in order, and what refuses behind them, if anything does
pub record Due : Type 0 where
  pub items : List Item
  pub refusal : Option Status

-- the status of an outcome
abbrev pub status_of : Due → Status
status_of due = unwrap_or due.refusal status.Done

-- what is given to a run: the files that its words name, and the files of remotes' keys, which may be others to each
-- statement. Statements count from 1
pub record RunGiven : Type 0 where
  pub files : Given
  pub keys : ℕ → KeyBytes

-- what is given of the files of a task is what a folder holds, where it tells that; the demo has none
abbrev pub AreTaskFiles : Task → Option (List File) → Given → Type 0
AreTaskFiles (task.Query q) holds files = IsGiven q holds files
AreTaskFiles (task.Demo rows) holds files = ⊤

-- the same of the files of keys
abbrev pub AreKeyFiles : List RemoteWord → Option (List File) → KeyBytes → Type 0
AreKeyFiles words holds found =
    (files : List File) → holds ≡ Some files → (remote : ℕ) (key : ℤ) (word : RemoteWord)
    → slice_get words remote ≡ Some word → found remote key ≡ lookup files (key_name word.prefix key)

-- the same of all that is given for a task
pub record IsGivenFor (t : Task) (holds : Option (List File)) (given : RunGiven) : Type 0 where
  pub files : AreTaskFiles t holds given.files
  pub keys : (statement : ℕ) → AreKeyFiles (remotes_in t) holds (given.keys statement)

-- and for what words ask for
abbrev pub IsGivenTo : List (List ℕ) → Option (List File) → RunGiven → Type 0
IsGivenTo words holds given = (a : Request) → asked words ≡ Some a → IsGivenFor a.task holds given

-- the plan of a script over tables, or of the demo with this seed
abbrev pub IsTaskPlan : Predicates → Task → ℕ → Given → Result Plan Status → Type 0
IsTaskPlan p (task.Query q) seed given due = IsPlan p q given due
IsTaskPlan p (task.Demo rows) seed given due = IsDemoPlan p rows seed due

-- the plan of what words ask for
abbrev pub IsRequested : Predicates → Request → Given → Result Plan Status → Type 0
IsRequested p a given due = IsTaskPlan p a.task a.settings.seed given due

-- the plan of words, or the first refusal before any statement is answered
abbrev pub IsPlanned : Predicates → List (List ℕ) → RunGiven → Result Plan Status → Type 0
IsPlanned p words given due =
    AndThen (ComesTo (or_refuse status.Usage (asked words))) (λ a. IsRequested p a given.files) due

-- the statements of a plan, each over the plan's tables
abbrev pub items_of : Plan → List Item
items_of plan = items_over plan.catalogue.tables plan.statements

-- what the statements of a plan with remotes are run over
abbrev pub over_of : Predicates → RunGiven → Plan → Over
over_of p given plan =
    record { gives = p.gives; tables = plan.catalogue.tables; remotes = plan.remotes; keys = given.keys }

abbrev pub due_as : List Item → Option Status → Due
due_as items refusal = record { items = items; refusal = refusal }

-- what is due by a plan with these remotes: without any all of its statements; else what these come to, each over the
-- tables for its needed keys, up to the first whose keys are refused
abbrev pub IsDueOver : Predicates → RunGiven → Plan → List Remote → Due → Type 0
IsDueOver p given plan [] due = due ≡ due_as (items_of plan) None
IsDueOver p given plan (r ∷ rs) due =
    (c : Course) × RunsTo (over_of p given plan) 1 plan.statements c
    × (due ≡ due_as c.items (option_map remote_status c.refusal))

-- what is due by a plan; or no statement, and the refusal
abbrev pub IsDueBy : Predicates → RunGiven → Result Plan Status → Due → Type 0
IsDueBy p given (Ok plan) due = IsDueOver p given plan plan.remotes due
IsDueBy p given (Err refusal) due = due ≡ due_as [] (Some refusal)

-- the outcome of words over what is given
abbrev pub IsOutcome : Predicates → List (List ℕ) → RunGiven → Due → Type 0
IsOutcome p words given due =
    (plan : Result Plan Status) × IsPlanned p words given plan × IsDueBy p given plan due

-- the text of what is run: the answers, or the demo's summary
abbrev pub task_text : Task → (ℕ → Value → Value → Truth) → List Item → List ℕ
task_text (task.Query q) gives items = text_of gives items
task_text (task.Demo rows) gives items = summary gives items

-- the text before a refusal: the answers before it. A summary tells of all queries or isn't begun
abbrev pub text_before : Task → (ℕ → Value → Value → Truth) → List Item → List ℕ
text_before (task.Query q) gives items = text_of gives items
text_before (task.Demo rows) gives items = []

abbrev pub text_till : Option Status → Task → (ℕ → Value → Value → Truth) → List Item → List ℕ
text_till None task gives items = task_text task gives items
text_till (Some refusal) task gives items = text_before task gives items

-- the text that is due, for what the words ask for
abbrev pub text_due : Predicates → List (List ℕ) → Due → List ℕ
text_due p words due =
    option_map_or (λ (a : Request). text_till due.refusal a.task p.gives due.items) (asked words) []

-- a text is due, which may be empty: a statement is answered, or nothing refuses
abbrev pub IsTextDue : Due → Type 0
IsTextDue due = (due.items ≢ []) ⊎ (due.refusal ≡ None)

-- the demo reaches no file
abbrev pub ReachedFor : Task → Given → FileOf → Type 0
ReachedFor (task.Query q) files f = Reached q files f
ReachedFor (task.Demo rows) files f = ⊥

-- a key's file is reached where a plan has remotes, and the rounds of a statement reach the key, after statements that
-- are answered with these items
pub record ReachedKey (p : Predicates) (words : List (List ℕ)) (given : RunGiven) (items : List Item) (at : RemoteKey)
    : Type 0 where
  pub request : Request
  pub in_form : asked words ≡ Some request
  pub plan : Plan
  pub planned : IsRequested p request given.files (Ok plan)
  pub some : plan.remotes ≢ []
  pub reached : ReachesKey (over_of p given plan) plan.statements items at

-- a file of the words is reached
pub record ReachedFile (words : List (List ℕ)) (given : RunGiven) (f : FileOf) : Type 0 where
  pub request : Request
  pub in_form : asked words ≡ Some request
  pub reached : ReachedFor request.task given.files f

-- a file is reached: nothing refuses before it is loaded
abbrev pub ReachedBy : Predicates → List (List ℕ) → RunGiven → FileOf → Type 0
ReachedBy p words given (file.Key at) = (items : List Item) × ReachedKey p words given items at
ReachedBy p words given f = ReachedFile words given f

-- the law that words over what is given have one outcome
abbrev pub OneOutcome : Type 0
OneOutcome = (p : Predicates) (words : List (List ℕ)) (given : RunGiven)
    → (due : Due) × IsOutcome p words given due
    × ((other : Due) → IsOutcome p words given other → other ≡ due)
