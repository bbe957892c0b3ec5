use Rattle.std.proofs.Common.{◌≡◌, true, refl, sym, ◌∙◌, inr, map, subst}
use Rattle.std.specs.String.{string_bytes}
use Rattle.command_line.specs.Within.{HasScansAlone, IsTask}
use Rattle.run_answers.specs.Settings.{AreSettings}
use Rattle.whole_run.specs.declared.asking.Request.{Request}
use Rattle.whole_run.proofs.AskedLemmas.{asked_of, asked_none, request_within, shared_within}
use Rattle.whole_run.proofs.asking.asked.Goals as goal

pub returns-in-Ok-clause-ok : goal.returns-in-Ok-clause-ok
returns-in-Ok-clause-ok c =
    asked_of (map string_bytes c.args.words.now) c.in-Ok.command c.request_of.result c.in-Ok.ensures.taken c.request_of.ensures

pub returns-in-Err-OutOfForm-clause-refused : goal.returns-in-Err-OutOfForm-clause-refused
returns-in-Err-OutOfForm-clause-refused c = inr (refl, asked_none (map string_bytes c.args.words.now) (c.in-Err-OutOfForm.ensures.refused c.in-Err-OutOfForm.field-0-is))

pub returns-in-Ok-clause-task : goal.returns-in-Ok-clause-task
returns-in-Ok-clause-task c =
    subst (λ (r : Request). IsTask r.task) (sym c.request_of.ensures) (request_within c.in-Ok.command c.in-Ok.ensures.within).0

pub returns-in-Ok-clause-settings : goal.returns-in-Ok-clause-settings
returns-in-Ok-clause-settings c =
    subst (λ (r : Request). AreSettings r.settings) (sym c.request_of.ensures) (request_within c.in-Ok.command c.in-Ok.ensures.within).1

pub returns-in-Ok-clause-shared : goal.returns-in-Ok-clause-shared
returns-in-Ok-clause-shared c =
    subst (λ (r : Request). r.settings.shared ≡ true → HasScansAlone r.task) (sym c.request_of.ensures)
    (shared_within c.in-Ok.command c.in-Ok.ensures.within)
