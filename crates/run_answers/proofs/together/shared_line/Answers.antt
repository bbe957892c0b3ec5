use Rattle.std.proofs.Common.{refl, ◌∙◌, append_assoc}
use Rattle.std.proofs.lemmas.Result.{IfOk-weaker}
use Rattle.run_answers.specs.Together.{shared_line}
use Rattle.run_answers.proofs.together.shared_line.Goals as goal

pub returns : goal.returns
unfolding shared_line
returns c = IfOk-weaker c.format.result _ _ (λ s h. h ∙ simp (append_assoc) refl) c.format.ensures.ok
