-- Steps of a run, one after another, up to the first refusal.
use Rattle.std.specs.Prelude.{◌≡◌, Option, Some, None, Result, Ok, Err}
use Rattle.run_plan.specs.declared.status.Status.{Status}

-- the value of an option, or else a refusal
abbrev pub or_refuse : {A : Type 0} → Status → Option A → Result A Status
or_refuse refusal None = Err refusal
or_refuse refusal (Some x) = Ok x

-- a value, or else the refusal of its fault
abbrev pub or_fault : {A F : Type 0} → (F → Status) → Result A F → Result A Status
or_fault refusal (Ok x) = Ok x
or_fault refusal (Err f) = Err (refusal f)

-- one step after another, where each is computed
infixl 10 ◌>>=◌
abbrev pub ◌>>=◌ : {A B : Type 0} → Result A Status → (A → Result B Status) → Result B Status
Err refusal >>= more = Err refusal
Ok x >>= more = more x

-- what steps behind a first one come to
abbrev pub Behind : {A B : Type 0}
    → (A → Result B Status → Type 0) → Result A Status → Result B Status → Type 0
Behind more (Err refusal) due = due ≡ Err refusal
Behind more (Ok x) due = more x due

-- one step after another, where each is a relation: it says what the step comes to
abbrev pub AndThen : {A B : Type 0}
    → (Result A Status → Type 0) → (A → Result B Status → Type 0) → Result B Status → Type 0
AndThen {A = A} first more due = (r : Result A Status) × first r × Behind more r due

-- a step that is computed, as a relation
abbrev pub ComesTo : {A : Type 0} → Result A Status → Result A Status → Type 0
ComesTo x due = due ≡ x
