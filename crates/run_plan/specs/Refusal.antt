-- Serves proofs, but for `UnlessReadOrMemory`: when a step may refuse, beside its definition.
use Rattle.std.specs.Prelude.{MatchOption, ⊤}
use Rattle.run_plan.specs.Faults.{IsPlaced}
use Rattle.run_plan.specs.Naming.{Counts, IsNamed}
use Rattle.run_plan.specs.Stage.{Phase, Before, AtStatement, Writing, AnyTime, phase_of, stage_of, file_unread}
use Rattle.run_plan.specs.declared.status.FileOf.{FileOf}
use Rattle.run_plan.specs.declared.status.Stage.{Stage}
use Rattle.run_plan.specs.declared.status.Stage.TheVariants as stage
use Rattle.run_plan.specs.declared.status.Status.{Status}
use Rattle.run_plan.specs.declared.status.Status.TheVariants.{NotFound, Usage}

-- a step before the output refuses in this phase: want of memory is free, and any other refusal is the expected one
abbrev pub RefusesIn : Phase → Type 0 → Type 0
RefusesIn Before expected = expected
RefusesIn AtStatement expected = ⊥
RefusesIn Writing expected = ⊥
RefusesIn AnyTime expected = ⊤

-- a step may refuse so: a read fault of a file has its reason, and any other status is expected, but for want of memory
abbrev pub MayRefuse : (FileOf → Type 0) → Type 0 → Status → Type 0
MayRefuse reads expected s = MatchOption (file_unread s) (RefusesIn (phase_of s) expected) reads

-- the phases in which a step before the output may end
abbrev pub IsNotWriting : Phase → Type 0
IsNotWriting Before = ⊤
IsNotWriting AtStatement = ⊥
IsNotWriting Writing = ⊥
IsNotWriting AnyTime = ⊤

-- the statuses by which a step between the words and the output may end
abbrev pub IsBetween : Status → Type 0
IsBetween Usage = ⊥
IsBetween s = IsNotWriting (phase_of s)

-- a file isn't there only where the folder tells what it holds
abbrev pub IsFounded : Type 0 → Status → Type 0
IsFounded told (NotFound file) = told
IsFounded told _ = ⊤

-- what a step between the words and the output may answer in any folder, where it knows so many tables, accesses and
-- remotes
pub record IsEarly (known : Counts) (told : Type 0) (s : Status) : Type 0 where
  pub between : IsBetween s
  pub founded : IsFounded told s
  pub placed : IsPlaced s
  pub named : IsNamed known s

-- what holds of a status but for want of memory
abbrev pub HoldsAt : Stage → Type 0 → Type 0
HoldsAt stage.Memory P = ⊤
HoldsAt _ P = P

-- what holds of a status that is neither a read fault nor want of memory
abbrev pub UnlessReadOrMemory : Status → Type 0 → Type 0
UnlessReadOrMemory s P = MatchOption (file_unread s) (HoldsAt (stage_of s) P) (λ file. ⊤)
