-- The lines of counts of a run, and how far it came: which statements are finished, by what was written of their text.
-- Statements that run together are one bundle, with one line.
use Rattle.std.specs.Prelude.{◌≡◌, ◌⊎◌, ℕ, ◌+◌, true, List, [], ◌∷◌, ◌++◌, length, Option, Some}
use Rattle.outside.specs.Faults.{RoseOrFull}
use Rattle.outside.specs.Told.{Adds}
use Rattle.run_base.specs.Items.{Item}
use Rattle.run_base.specs.Seen.{Sink, Outputs}
use Rattle.run_plan.specs.Prepared.{Predicates}
use Rattle.run_answers.specs.Lines.{AreLines}
use Rattle.run_answers.specs.Together.{IsBundleTally, in_bundles, bundles_of}
use Rattle.run_answers.specs.SoFar.{TookSoFar, AddsFrontBehind}
use Rattle.whole_run.specs.Asked.{asked, is_tallied}
use Rattle.whole_run.specs.Outcome.{Due, IsOutcome, IsTextDue, RunGiven, task_text}
use Rattle.whole_run.specs.declared.asking.Request.{Request}

-- these statements are what is due, and a text is
abbrev pub AreDue : Predicates → List (List ℕ) → RunGiven → List Item → Type 0
AreDue p words given items = (due : Due) × IsOutcome p words given due × IsTextDue due × (due.items ≡ items)

-- what is run: what the words ask for, and the statements that are due over what is given
pub record RunOf (p : Predicates) (words : List (List ℕ)) (given : RunGiven) : Type 0 where
  pub request : Request
  pub in_form : asked words ≡ Some request
  pub items : List Item
  pub due : AreDue p words given items

-- its statements in bundles, each with one line of counts: each by itself, or all, where they run together
abbrev pub bundles_in : {p : Predicates} {words : List (List ℕ)} {given : RunGiven} → RunOf p words given
    → List (List Item)
bundles_in r = bundles_of r.request.settings.shared r.items

-- the text of its first bundles
abbrev pub text_in : {p : Predicates} {words : List (List ℕ)} {given : RunGiven} → RunOf p words given
    → List (List Item) → List ℕ
text_in {p = p} r bundles = task_text r.request.task p.gives (in_bundles bundles)

-- a line is right for the bundle with this number
abbrev pub IsLineIn : {p : Predicates} {words : List (List ℕ)} {given : RunGiven} → RunOf p words given
    → ℕ → List Item → List ℕ → Type 0
IsLineIn {p = p} r = IsBundleTally r.request.settings.shared r.request.settings.cache p.gives

-- the lines of its first bundles, which are none where none are asked for
abbrev pub AreLinesIn : {p : Predicates} {words : List (List ℕ)} {given : RunGiven} → RunOf p words given
    → List (List Item) → List ℕ → Type 0
AreLinesIn r bundles lines = AreLines r.request.settings.tally (IsLineIn r) 1 bundles lines

-- a run came so far: the first of its bundles are finished, by what the output took, and these are their lines
pub record Progress {S : Type 0} (p : Predicates) (words : List (List ℕ)) (given : RunGiven) (before now : Sink S)
    (lines : List ℕ) : Type 0 where
  pub of : RunOf p words given
  pub finished : List (List Item)
  pub left : List (List Item)
  pub split : bundles_in of ≡ finished ++ left
  pub are : AreLinesIn of finished lines
  pub took : TookSoFar (text_in of) finished left before now

-- the lines of all statements of a run
abbrev pub AllLines : {S : Type 0} → Predicates → List (List ℕ) → RunGiven → Sink S → Sink S → List ℕ → Type 0
AllLines p words given before now lines = (g : Progress p words given before now lines) × (g.left ≡ [])

-- the lines of the finished statements; or none, where nothing was put to the output
abbrev pub SomeLines : {S : Type 0} → Predicates → List (List ℕ) → RunGiven → Sink S → Sink S → List ℕ → Type 0
SomeLines p words given before now lines =
    ((lines ≡ []) × (now ≡ before)) ⊎ Progress p words given before now lines

-- the notes failed at a line of counts: the output took the text of its statement and of those before, and nothing
-- else; and the notes took the lines of those before, and a front of this line
pub record IsCutOff {O N : Type 0} (p : Predicates) (words : List (List ℕ)) (given : RunGiven) (old new : Outputs O N)
    : Type 0 where
  pub of : RunOf p words given
  pub finished : List (List Item)
  pub next : List Item
  pub left : List (List Item)
  pub split : bundles_in of ≡ finished ++ next ∷ left
  pub text : Adds old.out.written new.out.written (text_in of (finished ++ next ∷ []))
  pub kept : new.out.faults ≡ old.out.faults
  pub lines : List ℕ
  pub are : AreLinesIn of finished lines
  pub line : List ℕ
  pub right : IsLineIn of (1 + length finished) next line
  pub wanted : of.request.settings.tally ≡ true
  pub front : AddsFrontBehind old.notes.written new.notes.written lines line
  pub rose : RoseOrFull old.notes.faults new.notes.faults

-- a sink has lines more, and behind them a line, or a front of it where its count rose
abbrev pub IsNotedBehind : {S : Type 0} → Sink S → Sink S → List ℕ → List ℕ → Type 0
IsNotedBehind before now lines line =
    Adds before.written now.written (lines ++ line)
    ⊎ (RoseOrFull before.faults now.faults × AddsFrontBehind before.written now.written lines line)

-- what may end a run as Write: a fault of the output, or, where the words ask for lines of counts, of the notes
abbrev pub MayFail : {O N : Type 0} → List (List ℕ) → Outputs O N → Outputs O N → Type 0
MayFail words old new =
    RoseOrFull old.out.faults new.out.faults
    ⊎ ((is_tallied words ≡ true) × RoseOrFull old.notes.faults new.notes.faults)
