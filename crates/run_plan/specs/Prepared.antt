-- What a script over its tables, or the demo, must be prepared to: a plan, or the first refusal.
use Rattle.std.specs.Prelude.{◌≡◌, ◌<◌, ℕ, ◌+◌, ◌%◌, true, false, List, [], ◌∷◌, length, take, Option, Some, None, Result, Ok, Err, IsOk, ⊤}
use Rattle.sq_value.specs.declared.value.Value.{Value}
use Rattle.sq_value.specs.declared.value.Truth.{Truth}
use Rattle.sq_value.specs.declared.predicate.Kinds.{Kinds}
use Rattle.sq_expr.specs.declared.block.Block.{Block}
use Rattle.sq_expr.specs.declared.shape.Shape.{Shape}
use Rattle.sq_parse.specs.Fault.{ReadsAs}
use Rattle.sq_parse.specs.Shaped.{is_shaped}
use Rattle.sq_parse.specs.declared.parser.ParseFault.{ParseFault}
use Rattle.sq_parse.specs.declared.tree.Script.{Script}
use Rattle.sq_parse.specs.declared.tree.Statement.{Statement}
use Rattle.catalogue.specs.Named.{NamedTables}
use Rattle.sq_bind.specs.Answer as binding
use Rattle.sq_bind.specs.Condition.{Calls, calling}
use Rattle.sq_bind.specs.Given.{over}
use Rattle.sq_bind.specs.Statement.{Scope}
use Rattle.sq_bind.specs.declared.fault.BindFault.{BindFault}
use Rattle.demo_tables.specs.Demo.{demo}
use Rattle.command_line.specs.declared.command.AccessWord.{AccessWord}
use Rattle.command_line.specs.declared.command.Query.{Query}
use Rattle.command_line.specs.declared.command.TableWord.{TableWord}
use Rattle.run_base.specs.declared.bound.Bound.{Bound}
use Rattle.run_plan.specs.DemoScript.{demo_script}
use Rattle.run_plan.specs.Faults.{script_status, bind_status}
use Rattle.run_plan.specs.Given.{Given}
use Rattle.run_plan.specs.Files.{file_read, tables_read, catalogue_read}
use Rattle.command_line.specs.declared.command.RemoteWord.{RemoteWord}
use Rattle.run_plan.specs.Accesses.{accesses_read}
use Rattle.run_plan.specs.Headings.{Opened, opened_as, remotes_opened}
use Rattle.run_plan.specs.Steps.{◌>>=◌, AndThen, ComesTo, or_fault}
use Rattle.run_plan.specs.declared.plan.Plan.{Plan}
use Rattle.run_plan.specs.declared.status.Status.{Status}
use Rattle.run_plan.specs.declared.status.FileOf.{FileOf}
use Rattle.run_plan.specs.declared.status.FileOf.TheVariants as file

-- the predicates that are handed in: their names, numbers and types, and their stated meaning
pub record Predicates : Type 0 where
  pub calls : Calls
  pub gives : ℕ → Value → Value → Truth

abbrev pub predicates : (List ℕ → Option ℕ) → (ℕ → Option Kinds) → (ℕ → Value → Value → Truth) → Predicates
predicates number kinds gives = record { calls = calling number kinds; gives = gives }

-- what a text is as a script: the script that it spells, or its fault
abbrev pub IsSpelled : List ℕ → Result Script Status → Type 0
IsSpelled text due = (read : Result Script ParseFault) × ReadsAs text read × (due ≡ or_fault script_status read)

-- the script, by what is given of its file
abbrev pub IsScript : Option (List ℕ) → Result Script Status → Type 0
IsScript found due = AndThen (ComesTo (file_read file.Script found)) IsSpelled due

-- a statement is bound to a block; one with groups, DISTINCT or LIMIT to a block and a shape
abbrev pub IsBoundAs : Scope → Statement → Block → Option Shape → Type 0
IsBoundAs scope s block None = (is_shaped s ≡ false) × binding.IsBound scope s block
IsBoundAs scope s block (Some shape) =
    (is_shaped s ≡ true) × binding.IsBoundShape scope s record { block = block; shape = shape }

-- what a statement is bound to, or its fault; statements count from 1
abbrev pub IsBoundTo : Scope → ℕ → Statement → Result Bound Status → Type 0
IsBoundTo scope number s (Ok bound) = IsBoundAs scope s bound.block bound.shape
IsBoundTo scope number s (Err refusal) =
    (f : BindFault) × binding.IsBindFault scope s f × (refusal ≡ bind_status number f)

-- what statements are bound to, in order, the first of them with this number
unfoldable pub AreBoundTo : Scope → ℕ → List Statement → Result (List Bound) Status → Type 0
AreBoundTo scope number [] due = due ≡ Ok []
AreBoundTo scope number (s ∷ more) due =
    AndThen (IsBoundTo scope number s)
    (λ bound. AndThen (AreBoundTo scope (number + 1) more) (λ bounds. ComesTo (Ok (bound ∷ bounds)))) due

-- a plan of these statements, over a catalogue and the remotes there
abbrev pub plan_opened : Opened → List Bound → Plan
plan_opened o bounds = record { statements = bounds; catalogue = o.catalogue; remotes = o.remotes }

-- the plan of a script over a catalogue and its remotes: the accesses' columns are found, and then all statements are
-- bound
abbrev pub IsBoundPlan : Predicates → List AccessWord → Script → Opened → Result Plan Status → Type 0
IsBoundPlan p asked script o due =
    AndThen (ComesTo (accesses_read o.catalogue.tables asked o.remotes))
    (λ accesses. AndThen (AreBoundTo (over o.catalogue accesses p.calls) 1 script.statements)
    (λ bounds. ComesTo (Ok (plan_opened o bounds)))) due

-- the remotes of these words behind the tables of a catalogue
abbrev pub opened_over : List (Option (List ℕ)) → NamedTables → List RemoteWord → Result Opened Status
opened_over founds catalogue remotes = remotes_opened 0 founds (opened_as catalogue []) remotes

-- the tables in order, and then the headings of the remotes
abbrev pub all_read : Given → Query → Result Opened Status
all_read given q = do
  catalogue ← catalogue_read given.tables q.tables
  opened_over given.headings catalogue q.remotes

-- what is to be run: the script is read first, then the tables, and then the headings of the remotes
unfoldable pub IsPlan : Predicates → Query → Given → Result Plan Status → Type 0
IsPlan p q given due =
    AndThen (IsScript given.script)
    (λ script. AndThen (ComesTo (all_read given q)) (λ o. IsBoundPlan p q.accesses script o)) due

-- the demo, with so many rows a table: its queries over its tables
unfoldable pub IsDemoPlan : Predicates → ℕ → ℕ → Result Plan Status → Type 0
IsDemoPlan p rows seed due =
    AndThen (IsSpelled demo_script) (λ script. IsBoundPlan p [] script (opened_as (demo rows (seed % 1000)) [])) due

-- the demo has a plan
abbrev pub HasDemoPlan : Predicates → ℕ → ℕ → Type 0
HasDemoPlan p rows seed = (plan : Plan) × IsDemoPlan p rows seed (Ok plan)

-- whether a file is one of these tables', and all tables before it are there and in form
abbrev pub ReachedTable : List (Option (List ℕ)) → FileOf → Type 0
ReachedTable founds file.Script = ⊥
ReachedTable founds (file.Table number) = (number < length founds) × IsOk (tables_read 0 (take number founds))
ReachedTable founds (file.Heading remote) = ⊥
ReachedTable founds (file.Key at) = ⊥

-- whether a file is the heading of one of these remotes, and all headings before it are there and in form
abbrev pub ReachedHeading : List (Option (List ℕ)) → Opened → List RemoteWord → FileOf → Type 0
ReachedHeading founds start remotes file.Script = ⊥
ReachedHeading founds start remotes (file.Table number) = ⊥
ReachedHeading founds start remotes (file.Heading number) =
    (number < length remotes) × IsOk (remotes_opened 0 founds start (take number remotes))
ReachedHeading founds start remotes (file.Key at) = ⊥

-- a heading behind the tables, all of which are there and in form
abbrev pub ReachedBehind : Query → Given → FileOf → Type 0
ReachedBehind q given f =
    (catalogue : NamedTables) × ComesTo (catalogue_read given.tables q.tables) (Ok catalogue)
    × ReachedHeading given.headings (opened_as catalogue []) q.remotes f

-- nothing refuses a table or a heading before a file is loaded
abbrev pub ReachedTables : Query → Given → FileOf → Type 0
ReachedTables q given file.Script = ⊥
ReachedTables q given (file.Table number) = ReachedTable given.tables (file.Table number)
ReachedTables q given (file.Heading number) = ReachedBehind q given (file.Heading number)
ReachedTables q given (file.Key at) = ⊥

-- nothing refuses before a file is loaded: the script is loaded first, then the tables in order, and then the headings.
-- No key's file is loaded for a plan
abbrev pub Reached : Query → Given → FileOf → Type 0
Reached q given file.Script = ⊤
Reached q given (file.Table number) =
    ((script : Script) × IsScript given.script (Ok script)) × ReachedTables q given (file.Table number)
Reached q given (file.Heading number) =
    ((script : Script) × IsScript given.script (Ok script)) × ReachedTables q given (file.Heading number)
Reached q given (file.Key at) = ⊥
