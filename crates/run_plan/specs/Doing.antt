-- Serves proofs, and the contracts of steps: what a step over a folder has done.
use Rattle.std.specs.Prelude.{◌≡◌, ℕ, List, Option, IsSome}
use Rattle.outside.specs.Files.{File}
use Rattle.outside.specs.Faults.{NeverFalls, RoseOrFull}
use Rattle.sq_parse.specs.Spelling.{Spelled}
use Rattle.sq_parse.specs.declared.tree.Script.{Script}
use Rattle.run_plan.specs.Naming.{Counts}
use Rattle.run_plan.specs.Refusal.{MayRefuse, IsEarly, UnlessReadOrMemory}
use Rattle.run_base.specs.Seen.{Folder}
use Rattle.run_plan.specs.declared.status.FileOf.{FileOf}
use Rattle.run_plan.specs.declared.status.Status.{Status}
use Rattle.run_plan.specs.declared.status.Status.TheVariants as status

-- no file is reached
abbrev pub never : FileOf → Type 0
never file = ⊥

-- a script that some text spells
abbrev pub IsParsedScript : Script → Type 0
IsParsedScript script = (text : List ℕ) × Spelled text script

-- a step went well: the folder is as it was, and this holds of what was given, which is what the folder holds, where it
-- tells that
pub record Went (old new : Folder) {X : Type 0} (IsAs : Option (List File) → X → Type 0) (told : X → Type 0)
    : Type 0 where
  pub keeps : new.holds ≡ old.holds
  pub kept : new.faults ≡ old.faults
  pub given : X
  pub agrees : IsAs old.holds given
  pub tells : told given

-- a step that touches no folder refused, and named at most one of so many tables, accesses or remotes
pub record Refuses (known : Counts) (expected : Type 0) (s : Status) : Type 0 where
  pub may : MayRefuse never expected s
  pub early : IsEarly known ⊥ s

-- a step refused: by what was given that was expected, or a file that was reached wasn't read. It named at most one of
-- so many tables, accesses or remotes
pub record Stopped (known : Counts) (old new : Folder) {X : Type 0} (IsAs : Option (List File) → X → Type 0)
    (expected : X → Type 0) (reached : X → FileOf → Type 0) (s : Status) : Type 0 where
  pub keeps : new.holds ≡ old.holds
  pub counts : NeverFalls old.faults new.faults
  pub kept : UnlessReadOrMemory s (new.faults ≡ old.faults)
  pub given : X
  pub agrees : IsAs old.holds given
  pub refused : MayRefuse (reached given) (expected given) s
  pub read : (f : FileOf) → s ≡ status.Read f → RoseOrFull old.faults new.faults
  pub early : IsEarly known (IsSome old.holds) s
