use Rattle.std.proofs.Common.{refl, ◌∙◌, append_assoc}
use Rattle.std.proofs.lemmas.Result.{IfOk-weaker}
use Rattle.run_notes.proofs.noting.table_note.Goals as goal

pub returns-in-NotUtf8 : goal.returns-in-NotUtf8
returns-in-NotUtf8 c = IfOk-weaker c.format-in-NotUtf8.result _ _ (λ s h. h ∙ simp (append_assoc, c.in-NotUtf8.is) refl) c.format-in-NotUtf8.ensures.ok

pub returns-in-BadInteger : goal.returns-in-BadInteger
returns-in-BadInteger c = IfOk-weaker c.format-in-BadInteger.result _ _ (λ s h. h ∙ simp (append_assoc, c.in-BadInteger.is) refl) c.format-in-BadInteger.ensures.ok

pub returns-in-BadDecimal : goal.returns-in-BadDecimal
returns-in-BadDecimal c = IfOk-weaker c.format-in-BadDecimal.result _ _ (λ s h. h ∙ simp (append_assoc, c.in-BadDecimal.is) refl) c.format-in-BadDecimal.ensures.ok
