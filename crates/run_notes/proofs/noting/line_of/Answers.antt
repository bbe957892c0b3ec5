use Rattle.std.proofs.Common.{refl, ◌∙◌}
use Rattle.std.proofs.lemmas.Result.{IfOk-weaker}
use Rattle.run_notes.specs.Note.{line_of}
use Rattle.run_notes.proofs.noting.line_of.Goals as goal

pub returns : goal.returns
unfolding line_of
returns c = IfOk-weaker c.format.result _ _ (λ s h. h ∙ simp c.in_ok-text.ensures refl) c.format.ensures.ok
