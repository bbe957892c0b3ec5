-- Serves proofs: how a run ended, before its note and behind it.
use Rattle.std.specs.Prelude.{◌≡◌, ◌≢◌, ◌⊎◌, ℕ, Bool, true, false, List, length, Option, Some, None, IsSome, Result, Ok, Err}
use Rattle.outside.specs.Faults.{NeverFalls, RoseOrFull}
use Rattle.outside.specs.Told.{Adds, AddsFront}
use Rattle.remote_lookup.specs.declared.remote.RemoteKey.{RemoteKey}
use Rattle.run_base.specs.Items.{Item}
use Rattle.run_base.specs.Seen.{Folder, Sink, Outputs, World}
use Rattle.command_line.specs.declared.command.Task.{Task}
use Rattle.sq_value.specs.declared.value.Value.{Value}
use Rattle.sq_value.specs.declared.value.Truth.{Truth}
use Rattle.remote_answers.specs.Answered.{AnsweredTo}
use Rattle.remote_answers.specs.declared.halting.Halt.{Halt}
use Rattle.remote_answers.specs.declared.halting.Halt.TheVariants as halt
use Rattle.run_answers.specs.declared.settings.Settings.{Settings}
use Rattle.run_plan.specs.Prepared.{Predicates}
use Rattle.run_plan.specs.Naming.{IsNamed}
use Rattle.run_plan.specs.Refusal.{UnlessReadOrMemory}
use Rattle.run_plan.specs.Stage.{stage_of}
use Rattle.run_plan.specs.Faults.{IsPlaced, remote_status}
use Rattle.run_plan.specs.declared.plan.Plan.{Plan}
use Rattle.run_plan.specs.declared.status.FileOf.{FileOf}
use Rattle.run_plan.specs.declared.status.FileOf.TheVariants as file
use Rattle.run_plan.specs.declared.status.Stage.{Stage}
use Rattle.run_plan.specs.declared.status.Stage.TheVariants as stage
use Rattle.run_plan.specs.declared.status.Status.{Status}
use Rattle.run_plan.specs.declared.status.Status.TheVariants as status
use Rattle.run_notes.specs.Note.{line_of}
use Rattle.run_answers.specs.Answering.{Tallied}
use Rattle.run_answers.specs.Text.{text_of}
use Rattle.run_answers.specs.Together.{IsBundleTally, bundles_of, in_bundles}
use Rattle.run_answers.specs.declared.stopping.Stop.{Stop}
use Rattle.run_answers.specs.declared.stopping.Stop.TheVariants as stop
use Rattle.whole_run.specs.Outcome.{Due, IsGivenTo, IsOutcome, ReachedBy, ReachedKey, RunGiven, items_of, task_text, text_due}
use Rattle.whole_run.specs.Run.{MayEnd, IsBeforeOutput, IsLate}
use Rattle.whole_run.specs.Asked.{asked, counts_asked, names_asked, is_tallied}
use Rattle.whole_run.specs.Lines.{AllLines, SomeLines, IsCutOff, IsNotedBehind, MayFail}
use Rattle.whole_run.specs.declared.run.End.{End}
use Rattle.whole_run.specs.declared.run.End.TheVariants as end

-- a run ended with this status; a fault of the output or the notes has its reason
pub record Ended {O N : Type 0} (p : Predicates) (words : List (List ℕ)) (given : RunGiven) (old new : World O N)
    (fault : Type 0) (s : Status) : Type 0 where
  pub keeps : new.folder.holds ≡ old.folder.holds
  pub folder_counts : NeverFalls old.folder.faults new.folder.faults
  pub out_counts : NeverFalls old.outputs.out.faults new.outputs.out.faults
  pub ends : MayEnd (λ file. RoseOrFull old.folder.faults new.folder.faults × ReachedBy p words given file) fault
      (IsOutcome p words given) s
  pub done : s ≡ status.Done → (due : Due) × IsOutcome p words given due × (due.refusal ≡ None)
      × Adds old.outputs.out.written new.outputs.out.written (text_due p words due)
  pub front : (new.outputs.out.written ≡ old.outputs.out.written)
      ⊎ ((due : Due) × IsOutcome p words given due
      × AddsFront old.outputs.out.written new.outputs.out.written (text_due p words due))
  pub kept : UnlessReadOrMemory s (new.folder.faults ≡ old.folder.faults)
  pub read : (f : FileOf) → s ≡ status.Read f → RoseOrFull old.folder.faults new.folder.faults
  pub write : s ≡ status.Write → fault
  pub not_found : (f : FileOf) → s ≡ status.NotFound f → IsSome old.folder.holds
  pub nothing : IsBeforeOutput s → new.outputs.out ≡ old.outputs.out
  pub out_kept : s ≡ status.Done → new.outputs.out.faults ≡ old.outputs.out.faults
  pub placed : IsPlaced s
  pub named : IsNamed (counts_asked words) s
  pub usage_only : s ≡ status.Usage → asked words ≡ None
  pub refused : (due : Due) → IsOutcome p words given due → due.refusal ≡ Some s
      → Adds old.outputs.out.written new.outputs.out.written (text_due p words due)
  pub unread : (at : RemoteKey) → s ≡ status.Read (file.Key at) → (items : List Item)
      × ReachedKey p words given items at
      × Adds old.outputs.out.written new.outputs.out.written (text_of p.gives items)

-- answers were written, or a front of their text
pub record Answered {S : Type 0} (old new : Sink S) (fault : Type 0) (text : List ℕ) (s : Status) : Type 0 where
  pub counts : NeverFalls old.faults new.faults
  pub done : s ≡ status.Done → Adds old.written new.written text
  pub kept : s ≡ status.Done → new.faults ≡ old.faults
  pub front : AddsFront old.written new.written text
  pub write : s ≡ status.Write → fault
  pub late : IsLate s

-- the same of how a plan ended: a fault of the notes comes only where lines of counts are wanted
abbrev pub AnsweredBy : {O N : Type 0} → Bool → Outputs O N → Outputs O N → List ℕ → End → Type 0
AnsweredBy tally old new text (end.By s) =
    Answered old.out new.out (RoseOrFull old.out.faults new.out.faults) text s
AnsweredBy tally old new text end.ByNotes =
    Answered old.out new.out ((tally ≡ true) × RoseOrFull old.notes.faults new.notes.faults) text status.Write

abbrev pub EndedBy : {O N : Type 0} → Predicates → List (List ℕ) → RunGiven → World O N → World O N → End → Type 0
EndedBy p words given old new (end.By s) =
    Ended p words given old new (RoseOrFull old.outputs.out.faults new.outputs.out.faults) s
EndedBy p words given old new end.ByNotes =
    Ended p words given old new
    ((is_tallied words ≡ true) × RoseOrFull old.outputs.notes.faults new.outputs.notes.faults) status.Write

-- how the lines of counts ended
abbrev pub stop_at : Stage → Result (Unit {0}) Stop
stop_at stage.Run = Ok tt
stop_at _ = Err stop.Memory

abbrev pub stop_of : End → Result (Unit {0}) Stop
stop_of (end.By s) = stop_at (stage_of s)
stop_of end.ByNotes = Err stop.Notes

-- how a run ends by its answers, and by those over remotes
abbrev pub end_with : Result (Unit {0}) Stop → End
end_with (Ok x) = end.By status.Done
end_with (Err stop.Output) = end.By status.Write
end_with (Err stop.Notes) = end.ByNotes
end_with (Err stop.Memory) = end.By status.Memory

abbrev pub end_of : Result (Unit {0}) Halt → End
end_of (Ok x) = end_with (Ok x)
end_of (Err (halt.Refused why)) = end.By (remote_status why)
end_of (Err (halt.Stopped why)) = end_with (Err why)

-- the statements of a plan without remotes were run, and ended so
pub record RanAlone {O N : Type 0} (s : Settings) (gives : ℕ → Value → Value → Truth) (t : Task) (plan : Plan)
    (old new : Outputs O N) (e : End) : Type 0 where
  pub out : AnsweredBy s.tally old new (task_text t gives (in_bundles (bundles_of s.shared (items_of plan)))) e
  pub notes : Tallied s.tally (IsBundleTally s.shared s.cache gives) 1 (bundles_of s.shared (items_of plan))
      (λ bundles. task_text t gives (in_bundles bundles)) old new (stop_of e)

-- statements over remotes were run, and ended so
pub record RanOver {O N : Type 0} (s : Settings) (gives : ℕ → Value → Value → Truth) (plan : Plan)
    (before after : Folder) (old new : Outputs O N) (e : End) : Type 0 where
  pub answer : Result (Unit {0}) Halt
  pub answered : AnsweredTo s gives plan.catalogue.tables plan.remotes plan.statements before after old new answer
  pub is : e ≡ end_of answer

-- lines of counts were put, and no note yet
abbrev pub LinedBy : {O N : Type 0} → Predicates → List (List ℕ) → RunGiven → Outputs O N → Outputs O N
    → Result (Unit {0}) Stop → Type 0
LinedBy p words given old new (Ok x) =
    (lines : List ℕ) × AllLines p words given old.out new.out lines
    × Adds old.notes.written new.notes.written lines × (new.notes.faults ≡ old.notes.faults)
LinedBy p words given old new (Err stop.Notes) = IsCutOff p words given old new
LinedBy p words given old new (Err _) =
    (lines : List ℕ) × SomeLines p words given old.out new.out lines
    × Adds old.notes.written new.notes.written lines × NeverFalls old.notes.faults new.notes.faults

pub record NotedLines {O N : Type 0} (p : Predicates) (words : List (List ℕ)) (given : RunGiven) (old new : Outputs O N)
    (e : End) : Type 0 where
  pub end' : LinedBy p words given old new (stop_of e)
  pub quiet : is_tallied words ≡ false → new.notes ≡ old.notes

-- a run ended so but for its note, by what was given to it
pub record Ran {O N : Type 0} (p : Predicates) (words : List (List ℕ)) (old new : World O N) (e : End) : Type 0 where
  pub given : RunGiven
  pub is_given : IsGivenTo words old.folder.holds given
  pub ended : EndedBy p words given old new e
  pub lines : NotedLines p words given old.outputs new.outputs e

-- a run ended with this status, by what was given to it, and said so on the notes
pub record Finished {O N : Type 0} (p : Predicates) (words : List (List ℕ)) (old new : World O N) (s : Status)
    : Type 0 where
  pub given : RunGiven
  pub is_given : IsGivenTo words old.folder.holds given
  pub ended : Ended p words given old new (MayFail words old.outputs new.outputs) s
  pub usage : asked words ≡ None → (s ≡ status.Usage) ⊎ (s ≡ status.Memory)
  pub tallied : s ≡ status.Done → (lines : List ℕ)
      × AllLines p words given old.outputs.out new.outputs.out lines
      × Adds old.outputs.notes.written new.outputs.notes.written lines
  pub kept : s ≡ status.Done → new.outputs.notes.faults ≡ old.outputs.notes.faults
  pub silent : s ≡ status.Done → is_tallied words ≡ false → new.outputs.notes ≡ old.outputs.notes
  pub noted_lines : s ≢ status.Done
      → ((lines : List ℕ) × SomeLines p words given old.outputs.out new.outputs.out lines
      × IsNotedBehind old.outputs.notes new.outputs.notes lines (line_of (names_asked words) s))
      ⊎ ((s ≡ status.Write) × IsCutOff p words given old.outputs new.outputs)
  pub cut : s ≡ status.Write → ¬ (RoseOrFull old.outputs.out.faults new.outputs.out.faults)
      → IsCutOff p words given old.outputs new.outputs
