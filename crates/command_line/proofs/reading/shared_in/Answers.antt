use Rattle.std.proofs.Common.{◌≡◌, ◌∙◌, ℕ, Bool, Option, ap, subst}
use Rattle.clap.specs.Walk.{Text}
use Rattle.command_line.specs.Answers.{Reads}
use Rattle.command_line.specs.Form.{shared_of}
use Rattle.command_line.specs.Settings.{is_flag_given}
use Rattle.command_line.proofs.reading.shared_in.Goals as goal

same_shared : (a b : Bool) (c d e f g h : Option Text) (cache : ℕ) → a ≡ b → c ≡ d → e ≡ f → g ≡ h → shared_of a c e g cache ≡ shared_of b d f h cache
same_shared a b c d e f g h cache p q r s =
    ap (λ (x : Bool). shared_of x c e g cache) p ∙ (ap (λ (x : Option Text). shared_of b x e g cache) q
    ∙ (ap (λ (x : Option Text). shared_of b d x g cache) r ∙ ap (λ (x : Option Text). shared_of b d f x cache) s))

pub returns : goal.returns
returns c =
    subst (λ (o : Option Bool). Reads o c.shared_of.result)
    (same_shared _ _ _ _ _ _ _ _ c.args.cache (c.is_flag_given-shared.ensures ∙ ap is_flag_given c.text_of-flag.ensures) c.text_of-index.ensures c.text_of-lookup.ensures c.text_of-remote.ensures)
    c.shared_of.ensures
