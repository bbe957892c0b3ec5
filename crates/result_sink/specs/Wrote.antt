-- What a step did that writes a text into a sink, by its result.
use Rattle.std.specs.Prelude.{◌≡◌, ℕ, List, Option, Result, Err, OnOk, OnErr}
use Rattle.outside.specs.Faults.{NeverFalls, RoseOrFull}
use Rattle.outside.specs.Told.{Adds, AddsFront}
use Rattle.result_sink.specs.Ready.{AddsPart}
use Rattle.result_sink.specs.declared.fault.WriteFault.{WriteFault}
use Rattle.result_sink.specs.declared.fault.WriteFault.TheVariants as write

-- a text was written, or a front of it and an error: one of the errors is the output's, and one is want of memory. It
-- is over what the sink took and its count of faults, before the step and after it
pub record WroteBy {E : Type 0} (output memory : E) (text : List ℕ) (before now : Option (List ℕ))
    (faults_before faults_now : ℕ) {A : Type 0} (r : Result A E) : Type 0 where
  -- the count of faults didn't fall
  pub counts : NeverFalls faults_before faults_now
  -- after Ok the text was added
  pub ok : OnOk r (Adds before now text)
  -- after Ok no fault was counted
  pub kept : OnOk r (faults_now ≡ faults_before)
  -- the output's error comes only where the count of faults rose
  pub failed : r ≡ Err output → RoseOrFull faults_before faults_now
  -- after an error a front of the text was added
  pub front : OnErr r (AddsFront before now text)
  -- for want of memory not all of it was
  pub short : r ≡ Err memory → AddsPart before now text

-- the same of a step that ends with a `WriteFault`
abbrev pub Wrote : List ℕ → Option (List ℕ) → Option (List ℕ) → ℕ → ℕ → {A : Type 0} → Result A WriteFault → Type 0
Wrote text before now faults_before faults_now r =
    WroteBy write.Failed write.Memory text before now faults_before faults_now r
