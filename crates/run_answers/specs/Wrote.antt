-- Serves proofs: what a step into a sink has done.
use Rattle.std.specs.Prelude.{◌≢◌, ℕ, List, Result, Ok, Err}
use Rattle.result_sink.specs.Wrote.{WroteBy}
use Rattle.result_sink.specs.declared.fault.WriteFault.{WriteFault}
use Rattle.result_sink.specs.declared.fault.WriteFault.TheVariants as write
use Rattle.run_base.specs.Seen.{Sink}
use Rattle.run_answers.specs.declared.stopping.Stop.{Stop}
use Rattle.run_answers.specs.declared.stopping.Stop.TheVariants as stop

-- a text was written to the output, or a front of it, where the step stopped so
abbrev pub Wrote : {S : Type 0} → Sink S → Sink S → List ℕ → Result (Unit {0}) Stop → Type 0
Wrote old new text r = WroteBy stop.Output stop.Memory text old.written new.written old.faults new.faults r

-- the same of a line that is written to the notes
abbrev pub Noted : {S : Type 0} → Sink S → Sink S → List ℕ → Result (Unit {0}) Stop → Type 0
Noted old new line r = WroteBy stop.Notes stop.Memory line old.written new.written old.faults new.faults r

-- how a step ended, as the output knows it: whole, by its own fault, or by another, where nothing may be lacking
abbrev pub by_output : Result (Unit {0}) Stop → Result (Unit {0}) Stop
by_output (Ok x) = Ok x
by_output (Err stop.Output) = Err stop.Output
by_output (Err stop.Notes) = Err stop.Notes
by_output (Err stop.Memory) = Err stop.Notes

-- how a text was written by a step that stopped so
abbrev pub of_output : Result (Unit {0}) Stop → Result (Unit {0}) WriteFault
of_output (Ok x) = Ok x
of_output (Err stop.Output) = Err write.Failed
of_output (Err stop.Notes) = Err write.Memory
of_output (Err stop.Memory) = Err write.Memory

-- a text was written, or a front of it, which isn't the whole text where memory was wanting; and no notes were touched
pub record Put {S : Type 0} (text : List ℕ) (old new : Sink S) (r : Result (Unit {0}) Stop) : Type 0 where
  pub out : Wrote old new text r
  pub silent : r ≢ Err stop.Notes
