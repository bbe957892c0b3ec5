-- The exit status of a refusal: the one of eddyql for the same cause.
use Rattle.std.specs.Prelude.{ℕ}
use Rattle.run_plan.specs.Stage.{code_of, stage_of}
use Rattle.run_plan.specs.declared.status.Stage.TheVariants as stage
use Rattle.show_parts.specs.declared.refusal.Refusal.{Refusal}
use Rattle.show_parts.specs.declared.refusal.Refusal.TheVariants.{Words, Noted, Memory, Output}

-- the exit status of a refusal
abbrev pub refusal_code : Refusal → ℕ
refusal_code Words = code_of stage.Words
refusal_code (Noted status) = code_of (stage_of status)
refusal_code Memory = code_of stage.Memory
refusal_code Output = code_of stage.Output
