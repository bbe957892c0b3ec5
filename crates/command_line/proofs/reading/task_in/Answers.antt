use Rattle.std.proofs.Common.{◌≡◌, ◌∙◌, List, [], Option, ap, subst, codes}
use Rattle.std.specs.Prelude.{unwrap_or}
use Rattle.clap.specs.Matches.{found_of}
use Rattle.clap.specs.Walk.{Text}
use Rattle.clap.proofs.WalkLemmas.{raw_values-rows}
use Rattle.command_line.specs.Answers.{Reads}
use Rattle.command_line.specs.Form.{task_of}
use Rattle.command_line.specs.declared.command.Task.{Task}
use Rattle.command_line.proofs.reading.task_in.Goals as goal

same_task : (a b : Option Text) (ws vs : List Text) (c d e f g h : Option Text) → a ≡ b → ws ≡ vs → c ≡ d → e ≡ f → g ≡ h
    → task_of a ws c e g ≡ task_of b vs d f h
same_task a b ws vs c d e f g h p q r s t =
    ap (λ (x : Option Text). task_of x ws c e g) p ∙ (ap (λ (x : List Text). task_of b x c e g) q
    ∙ (ap (λ (x : Option Text). task_of b vs x e g) r ∙ (ap (λ (x : Option Text). task_of b vs d x g) s
    ∙ ap (λ (x : Option Text). task_of b vs d f x) t)))

abbrev or_none : Option (List Text) → List Text
or_none o = unwrap_or o []

pub returns-in-Some : goal.returns-in-Some
returns-in-Some c =
    let found = found_of c.args.matches.now in
    subst (λ (o : Option Task). Reads o c.task_of.result)
    (same_task _ _ _ _ _ _ _ _ _ _ c.text_of-demo.ensures (ap or_none (c.in-Some.ensures ∙ raw_values-rows found (codes "words"))) c.text_of-index.ensures c.text_of-lookup.ensures c.text_of-remote.ensures)
    c.task_of.ensures

pub returns-in-None : goal.returns-in-None
returns-in-None c =
    let found = found_of c.args.matches.now in
    subst (λ (o : Option Task). Reads o c.task_of-in-None.result)
    (same_task _ _ _ _ _ _ _ _ _ _ c.text_of-demo.ensures (ap or_none (c.in-None.ensures ∙ raw_values-rows found (codes "words"))) c.text_of-index.ensures c.text_of-lookup.ensures c.text_of-remote.ensures)
    c.task_of-in-None.ensures
