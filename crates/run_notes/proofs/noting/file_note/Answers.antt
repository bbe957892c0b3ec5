use Rattle.std.proofs.Common.{refl, ◌∙◌}
use Rattle.std.proofs.lemmas.Result.{IfOk-weaker}
use Rattle.run_notes.proofs.noting.file_note.Goals as goal

pub returns-in-Heading : goal.returns-in-Heading
returns-in-Heading c =
    IfOk-weaker c.format-in-Heading.result _ _ (λ s h. h ∙ simp (c.in-Heading.is, c.remote_at-name.ensures) refl) c.format-in-Heading.ensures.ok
