-- Serves proofs: what steps have done that put answers to the output and lines of counts to the notes.
use Rattle.std.specs.Prelude.{◌≡◌, ◌≢◌, ℕ, ◌+◌, Bool, true, false, List, [], ◌∷◌, ◌++◌, length, Option, None, option_map, unwrap_or, Result, Ok, Err, ⊤}
use Rattle.std.specs.String.{string_bytes}
use Rattle.sq_value.specs.declared.value.Value.{Value}
use Rattle.sq_value.specs.declared.value.Truth.{Truth}
use Rattle.eddy_runs.specs.Complete.{IsBagOf}
use Rattle.outside.specs.Faults.{NeverFalls, RoseOrFull}
use Rattle.outside.specs.Told.{Adds}
use Rattle.run_answers.specs.Wrote.{Noted, Wrote, by_output}
use Rattle.run_answers.specs.SoFar.{TookSoFar, AddsFrontBehind}
use Rattle.run_base.specs.Items.{Item}
use Rattle.run_base.specs.Seen.{Sink, Outputs}
use Rattle.run_answers.specs.Tally.{IsTally}
use Rattle.run_answers.specs.Lines.{IsLine, AreLines}
use Rattle.run_answers.specs.declared.answering.Found.{Found}
use Rattle.run_answers.specs.declared.stopping.Stop.{Stop}
use Rattle.run_answers.specs.declared.stopping.Stop.TheVariants as stop

-- a fault of the notes came at the line of the next statement, whose text was put, behind the lines of those before
pub record BrokeOff {A O N : Type 0} (IsRight : ℕ → A → List ℕ → Type 0) (number : ℕ)
    (text : List A → List ℕ) (finished left : List A) (lines : List ℕ) (old new : Outputs O N)
    : Type 0 where
  pub next : A
  pub rest : List A
  pub is : left ≡ next ∷ rest
  pub whole : Adds old.out.written new.out.written (text (finished ++ next ∷ []))
  pub kept : new.out.faults ≡ old.out.faults
  pub line : List ℕ
  pub right : IsRight (number + length finished) next line
  pub front : AddsFrontBehind old.notes.written new.notes.written lines line
  pub rose : RoseOrFull old.notes.faults new.notes.faults

-- the lines of finished statements were put, and so much of all texts
pub record LinesPut {A O N : Type 0} (text : List A → List ℕ) (finished left : List A) (lines : List ℕ)
    (old new : Outputs O N) : Type 0 where
  pub put : Adds old.notes.written new.notes.written lines
  pub counts : NeverFalls old.notes.faults new.notes.faults
  pub took : TookSoFar text finished left old.out new.out

-- how the statements of a step ended, the first of them finished
abbrev pub EndsSo : {A O N : Type 0} → Bool → (ℕ → A → List ℕ → Type 0) → ℕ → (List A → List ℕ) → List A
    → List A → List ℕ → Outputs O N → Outputs O N → Result (Unit {0}) Stop → Type 0
EndsSo tally IsRight number text finished left lines old new (Ok x) =
    LinesPut text finished left lines old new × (left ≡ []) × (new.notes.faults ≡ old.notes.faults)
EndsSo tally IsRight number text finished left lines old new (Err stop.Notes) =
    BrokeOff IsRight number text finished left lines old new × (tally ≡ true)
EndsSo tally IsRight number text finished left lines old new (Err stop.Output) =
    LinesPut text finished left lines old new
EndsSo tally IsRight number text finished left lines old new (Err stop.Memory) =
    LinesPut text finished left lines old new

-- the first of these statements are finished, the first of all with this number, and their lines were put
pub record Tallied {A O N : Type 0} (tally : Bool) (IsRight : ℕ → A → List ℕ → Type 0) (number : ℕ)
    (items : List A) (text : List A → List ℕ) (old new : Outputs O N) (r : Result (Unit {0}) Stop)
    : Type 0 where
  pub finished : List A
  pub left : List A
  pub split : items ≡ finished ++ left
  pub lines : List ℕ
  pub are : AreLines tally IsRight number finished lines
  pub end' : EndsSo tally IsRight number text finished left lines old new r
  pub quiet : tally ≡ false → new.notes ≡ old.notes

-- the text of these statements was put, or a front of it, and the lines of those that are finished
pub record Answers {A O N : Type 0} (tally : Bool) (IsRight : ℕ → A → List ℕ → Type 0) (number : ℕ)
    (items : List A) (text : List A → List ℕ) (old new : Outputs O N) (r : Result (Unit {0}) Stop)
    : Type 0 where
  pub out : Wrote old.out new.out (text items) (by_output r)
  pub notes : Tallied tally IsRight number items text old new r

-- the bytes of a line that may be there
abbrev pub line_bytes : Option (List ℕ) → List ℕ
line_bytes line = unwrap_or line []

-- a line is right for its statement, and is there only where one is wanted
pub record IsLineFor {A : Type 0} (tally : Bool) (IsRight : ℕ → A → List ℕ → Type 0) (number : ℕ) (item : A)
    (line : Option (List ℕ)) : Type 0 where
  pub right : IsLine tally IsRight number item (line_bytes line)
  pub none : tally ≡ false → line ≡ None

-- what was found for a statement: its matches in some order, and its line
pub record IsFound (room : ℕ) (tally : Bool) (gives : ℕ → Value → Value → Truth) (number : ℕ) (item : Item) (f : Found)
    : Type 0 where
  pub bag : IsBagOf gives item.bound.block item.tables f.combos.items
  pub line : IsLineFor tally (IsTally room gives) number item (option_map string_bytes f.line)

-- a line was put, or a front of it, or nothing
abbrev pub Lined : {S : Type 0} → Option (List ℕ) → Sink S → Sink S → Result (Unit {0}) Stop → Type 0
Lined line old new (Ok x) =
    Noted old new (line_bytes line) (Ok tt) × (new.faults ≡ old.faults) × (line ≡ None → new ≡ old)
Lined line old new (Err stop.Notes) =
    Noted old new (line_bytes line) (Err stop.Notes) × (line ≢ None)
Lined line old new (Err stop.Output) = new ≡ old
Lined line old new (Err stop.Memory) = new ≡ old

-- a text was put, and then a line: the text is whole where the line failed, and isn't where memory was wanting
pub record PutBoth {O N : Type 0} (text : List ℕ) (line : Option (List ℕ)) (old new : Outputs O N)
    (r : Result (Unit {0}) Stop) : Type 0 where
  pub out : Wrote old.out new.out text r
  pub whole : r ≡ Err stop.Notes → Adds old.out.written new.out.written text
  pub kept : r ≡ Err stop.Notes → new.out.faults ≡ old.out.faults
  pub notes : Lined line old.notes new.notes r

-- what holds where a line was put, or failed
abbrev pub OnTold : Result (Unit {0}) Stop → Type 0 → Type 0
OnTold (Ok x) P = P
OnTold (Err stop.Notes) P = P
OnTold (Err _) P = ⊤

-- the text of one statement was put, and then its line
pub record AnswersOne {A O N : Type 0} (tally : Bool) (IsRight : ℕ → A → List ℕ → Type 0) (number : ℕ)
    (item : A) (text : List ℕ) (old new : Outputs O N) (r : Result (Unit {0}) Stop) : Type 0 where
  pub line : Option (List ℕ)
  pub right : OnTold r (IsLineFor tally IsRight number item line)
  pub put : PutBoth text line old new r
