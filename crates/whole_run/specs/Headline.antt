-- The headline: what a run promises, whatever its words, files, predicates, workers and faults. A promise is a field.
use Rattle.std.specs.Prelude.{◌≡◌, ◌≢◌, ◌⊎◌, ℕ, true, false, List, Some, None, IsSome}
use Rattle.outside.specs.Faults.{NeverFalls, RoseOrFull}
use Rattle.outside.specs.Told.{Adds, AddsFront}
use Rattle.remote_lookup.specs.declared.remote.RemoteKey.{RemoteKey}
use Rattle.run_base.specs.Items.{Item}
use Rattle.run_base.specs.Seen.{World}
use Rattle.run_plan.specs.Faults.{IsPlaced}
use Rattle.run_plan.specs.Naming.{IsNamed}
use Rattle.run_plan.specs.Prepared.{Predicates}
use Rattle.run_plan.specs.Refusal.{UnlessReadOrMemory}
use Rattle.run_plan.specs.Stage.{stage_of, code_of}
use Rattle.run_plan.specs.declared.status.FileOf.{FileOf}
use Rattle.run_plan.specs.declared.status.FileOf.TheVariants as file
use Rattle.run_plan.specs.declared.status.Status.{Status}
use Rattle.run_plan.specs.declared.status.Status.TheVariants as status
use Rattle.run_notes.specs.Note.{line_of}
use Rattle.run_answers.specs.Text.{text_of}
use Rattle.whole_run.specs.Asked.{IsDemoAsked, asked, are_fileless, counts_asked, is_tallied, names_asked}
use Rattle.whole_run.specs.Lines.{AllLines, SomeLines, IsCutOff, IsNotedBehind, MayFail}
use Rattle.whole_run.specs.Outcome.{Due, IsGivenTo, IsOutcome, ReachedBy, ReachedKey, RunGiven, status_of, text_due}
use Rattle.whole_run.specs.Run.{MayEnd, IsBeforeOutput, IsUnrefused}

-- a run of these words over these predicates ended with this status, and left the folder and the world as these
pub record Headline {D O N : Type 0} (p : Predicates) (words : List (List ℕ)) (before after : D) (old new : World O N)
    (s : Status) : Type 0 where
  -- something was given of each file that the run may come to: what the folder holds, where it tells that
  pub given : RunGiven
  pub is_given : IsGivenTo words old.folder.holds given
  -- a run that is done has written exactly the text that is due, by an outcome that refuses nothing
  pub done : s ≡ status.Done → (due : Due) × IsOutcome p words given due × (due.refusal ≡ None)
      × Adds old.outputs.out.written new.outputs.out.written (text_due p words due)
  -- and no put of it failed
  pub out_kept : s ≡ status.Done → new.outputs.out.faults ≡ old.outputs.out.faults
  -- each status has its cause: a fault of the words, text, data, files or output, or want of memory
  pub causes : MayEnd (λ f. RoseOrFull old.folder.faults new.folder.faults × ReachedBy p words given f)
      (MayFail words old.outputs new.outputs) (IsOutcome p words given) s
  -- and the fault is there: without one of the folder, the output or the notes the status is the outcome's, or want of
  -- memory
  pub complete : ¬ (RoseOrFull old.folder.faults new.folder.faults) → ¬ (MayFail words old.outputs new.outputs)
      → (due : Due) → IsOutcome p words given due → (s ≡ status_of due) ⊎ (s ≡ status.Memory)
  -- one line says why a run was refused, behind the lines of just the finished statements; or the notes failed at a
  -- line of counts
  pub noted : s ≢ status.Done
      → ((lines : List ℕ) × SomeLines p words given old.outputs.out new.outputs.out lines
      × IsNotedBehind old.outputs.notes new.outputs.notes lines (line_of (names_asked words) s))
      ⊎ ((s ≡ status.Write) × IsCutOff p words given old.outputs new.outputs)
  -- where they failed, and not the output, they were cut off there
  pub cut : s ≡ status.Write → ¬ (RoseOrFull old.outputs.out.faults new.outputs.out.faults)
      → IsCutOff p words given old.outputs new.outputs
  -- a run that ends by what its outcome refuses has written exactly the text before the refusal
  pub refused : (due : Due) → IsOutcome p words given due → due.refusal ≡ Some s
      → Adds old.outputs.out.written new.outputs.out.written (text_due p words due)
  -- where a key's file isn't read, exactly the answers before its statement are written
  pub unread : (at : RemoteKey) → s ≡ status.Read (file.Key at) → (items : List Item)
      × ReachedKey p words given items at
      × Adds old.outputs.out.written new.outputs.out.written (text_of p.gives items)
  -- however a run ends, it has written nothing but a front of the text that is due
  pub front : (due : Due) → IsOutcome p words given due
      → AddsFront old.outputs.out.written new.outputs.out.written (text_due p words due)
  -- a refusal before anything is due leaves the output as it was
  pub nothing : IsBeforeOutput s → new.outputs.out ≡ old.outputs.out
  -- a run that is done has put the lines of counts that are asked for to the notes, each right for its statement
  pub tallied : s ≡ status.Done → (lines : List ℕ)
      × AllLines p words given old.outputs.out new.outputs.out lines
      × Adds old.outputs.notes.written new.outputs.notes.written lines
  -- where none are, it leaves the notes as they were
  pub silent : s ≡ status.Done → is_tallied words ≡ false → new.outputs.notes ≡ old.outputs.notes
  -- and no put to them failed
  pub silent_count : s ≡ status.Done → new.outputs.notes.faults ≡ old.outputs.notes.faults
  -- words that aren't in form end as Usage, or for want of memory
  pub usage : asked words ≡ None → (s ≡ status.Usage) ⊎ (s ≡ status.Memory)
  -- and only they end as Usage
  pub usage_only : s ≡ status.Usage → asked words ≡ None
  -- such words, and those of the demo, leave the folder as it was
  pub untouched : are_fileless words ≡ true → after ≡ before
  -- the demo has a plan: it is done, or ends by a fault of the output or the notes, or for want of memory
  pub demo : IsDemoAsked words → IsUnrefused s
  -- a run that met a failed read ends by a read fault, or for want of memory
  pub kept : UnlessReadOrMemory s (new.folder.faults ≡ old.folder.faults)
  -- a read fault comes only where the folder's count of faults rose
  pub read : (f : FileOf) → s ≡ status.Read f → RoseOrFull old.folder.faults new.folder.faults
  -- a fault of the output only where its count rose, or, where lines of counts are asked for, that of the notes
  pub write : s ≡ status.Write → MayFail words old.outputs new.outputs
  -- a file is missing only where the folder tells what it holds
  pub not_found : (f : FileOf) → s ≡ status.NotFound f → IsSome old.folder.holds
  -- no fault is want of memory, and one that passes a limit is named as a limit
  pub placed : IsPlaced s
  -- a table, an access or a remote that a status names is one of the words'
  pub named : IsNamed (counts_asked words) s
  -- the folder holds what it held
  pub keeps : new.folder.holds ≡ old.folder.holds
  -- and no count of faults falls
  pub folder_counts : NeverFalls old.folder.faults new.folder.faults
  pub out_counts : NeverFalls old.outputs.out.faults new.outputs.out.faults

-- the same of a program that ends with this code: it is that of the run's status, and 0 just where the run is done
pub record HeadlineByCode {D O N : Type 0} (p : Predicates) (words : List (List ℕ)) (before after : D)
    (old new : World O N) (code : ℕ) : Type 0 where
  -- the run ended with a status, and this is the code of its stage
  pub ended : Status
  pub is_code : code ≡ code_of (stage_of ended)
  -- 0 is the code of no other status than Done
  pub done : code ≡ 0 → ended ≡ status.Done
  -- and all of the headline holds of the run
  pub run : Headline p words before after old new ended
