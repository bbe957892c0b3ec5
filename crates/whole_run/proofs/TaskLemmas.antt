-- What was put of the text of a task.
use Rattle.std.proofs.Common.{◌≡◌, ℕ, Bool, List, Result, sym, subst}
use Rattle.sq_value.specs.declared.value.Value.{Value}
use Rattle.sq_value.specs.declared.value.Truth.{Truth}
use Rattle.command_line.specs.declared.command.Task.{Task}
use Rattle.run_base.specs.Items.{Item}
use Rattle.run_base.specs.Seen.{Outputs}
use Rattle.run_answers.specs.Answering.{Answers}
use Rattle.run_answers.specs.declared.stopping.Stop.{Stop}
use Rattle.whole_run.specs.Outcome.{task_text}

-- the texts of what the words ask for, of equal tasks and of equal statements, or bundles of these
pub answers_task : {A O N : Type 0} (tally : Bool) (IsRight : ℕ → A → List ℕ → Type 0) (gives : ℕ → Value → Value → Truth) (of : List A → List Item)
    (all same : List A) (asked other : Task) (old new : Outputs O N) (r : Result (Unit {0}) Stop) → asked ≡ other → all ≡ same
    → Answers tally IsRight 1 all (λ xs. task_text other gives (of xs)) old new r
    → Answers tally IsRight 1 same (λ xs. task_text asked gives (of xs)) old new r
answers_task {A} tally IsRight gives of all same asked other old new r e f a =
    subst (λ (l : List A). Answers tally IsRight 1 l (λ xs. task_text asked gives (of xs)) old new r) f
    (subst (λ (t : Task). Answers tally IsRight 1 all (λ xs. task_text t gives (of xs)) old new r) (sym e) a)
