use Rattle.std.proofs.Common.{◌≡◌, ◌++◌, ℤ, to_z, of_z, w64, refl, ◌∙◌, subst, append_assoc}
use Rattle.std.proofs.Math.Facts.{to_z-of_z}
use Rattle.std.proofs.lemmas.Result.{IfOk-weaker}
use Rattle.std.specs.String.{string_bytes}
use Rattle.run_notes.specs.Note.{keyed_text}
use Rattle.run_notes.proofs.noting.keyed_note.Goals as goal

pub returns : goal.returns
returns c =
    let same : to_z w64 (of_z w64 c.args.key) ≡ c.args.key = to_z-of_z c.ranges.key in
    IfOk-weaker c.format.result _ _
    (λ s h. subst (λ (key : ℤ). string_bytes s ≡ c.args.front.now ++ keyed_text c.args.name.now key ++ c.args.back.now) same (h ∙ simp append_assoc refl))
    c.format.ensures.ok
