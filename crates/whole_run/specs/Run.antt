-- How a run may end, beside the outcome of its words over the files.
use Rattle.std.specs.Prelude.{◌≡◌, ◌⊎◌, Option, None, Some, MatchOption, ⊤}
use Rattle.run_plan.specs.Stage.{Phase, Before, AtStatement, Writing, AnyTime, phase_of, stage_of, file_unread}
use Rattle.run_plan.specs.declared.status.FileOf.{FileOf}
use Rattle.run_plan.specs.declared.status.Stage.{Stage}
use Rattle.run_plan.specs.declared.status.Stage.TheVariants as stage
use Rattle.run_plan.specs.declared.status.Status.{Status}
use Rattle.run_plan.specs.declared.status.Status.TheVariants as status
use Rattle.whole_run.specs.Outcome.{Due, IsTextDue}

-- a run ends at this stage: done, where nothing refuses; by a fault of the output that has its reason, where a text is
-- due; for want of memory at any time; and by any other refusal only where that is due
abbrev pub EndsAt : Stage → Type 0 → (Due → Type 0) → Status → Type 0
EndsAt stage.Run writes IsDue s = (due : Due) × IsDue due × (due.refusal ≡ None)
EndsAt stage.Output writes IsDue s = writes × ((due : Due) × IsDue due × IsTextDue due)
EndsAt stage.Memory writes IsDue s = ⊤
EndsAt _ writes IsDue s = (due : Due) × IsDue due × (due.refusal ≡ Some s)

-- a run may end so: by a read fault of a file that has its reason, and by any other status as its stage says
abbrev pub MayEnd : (FileOf → Type 0) → Type 0 → (Due → Type 0) → Status → Type 0
MayEnd reads writes IsDue s = MatchOption (file_unread s) (EndsAt (stage_of s) writes IsDue s) reads

-- the phases of steps that write
abbrev pub IsWriting : Phase → Type 0
IsWriting Before = ⊥
IsWriting AtStatement = ⊥
IsWriting Writing = ⊤
IsWriting AnyTime = ⊤

-- what a step that writes may answer
abbrev pub IsLate : Status → Type 0
IsLate s = IsWriting (phase_of s)

-- the phases before anything is due to be written
abbrev pub IsSilent : Phase → Type 0
IsSilent Before = ⊤
IsSilent AtStatement = ⊥
IsSilent Writing = ⊥
IsSilent AnyTime = ⊥

-- a refusal before anything is due to be written
abbrev pub IsBeforeOutput : Status → Type 0
IsBeforeOutput s = IsSilent (phase_of s)

-- the ends of a run whose outcome refuses nothing
abbrev pub IsUnrefused : Status → Type 0
IsUnrefused s = (s ≡ status.Done) ⊎ ((s ≡ status.Write) ⊎ (s ≡ status.Memory))
