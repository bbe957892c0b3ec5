use Rattle.std.proofs.Common.{◌≡◌, ◌+◌, List, ℕ, Option, None, Err, refl, sym, ◌∙◌, ap, subst, arith}
use Rattle.std.proofs.lemmas.Result.{IfOk-weaker, IfErr-weaker}
use Rattle.table_csv.specs.TableFile.{table_of_bytes}
use Rattle.run_plan.specs.Given.{IsFileGiven, heading_name}
use Rattle.run_plan.specs.Headings.{heading_in}
use Rattle.run_plan.specs.Naming.{counts}
use Rattle.run_plan.specs.Steps.{ComesTo, or_refuse}
use Rattle.run_plan.specs.declared.status.FileOf.{FileOf}
use Rattle.run_plan.specs.declared.status.FileOf.TheVariants as file
use Rattle.run_plan.specs.declared.status.Status.TheVariants as status
use Rattle.run_plan.proofs.DoingLemmas.{through, went_into, stopped_first, stopped_pure, stopped_into}
use Rattle.run_plan.proofs.GivenLemmas.{found_at, is_found}
use Rattle.run_plan.proofs.HeadingLemmas.{heading_read-ok, heading_read-due, heading_read-unread}
use Rattle.run_plan.proofs.opening.load_heading.Goals as goal

pub returns-in_default-clause-stopped : goal.returns-in_default-clause-stopped
returns-in_default-clause-stopped g c =
    let held = g.F.Folder.holds c.args.folder.now in
    let name = heading_name c.args.word.now.prefix in
    stopped_first _ _ _ _ (found_at held name None) (is_found held name None)

pub returns-in_err-bytes-clause-stopped : goal.returns-in_err-bytes-clause-stopped
returns-in_err-bytes-clause-stopped g c =
    let r = c.in_err-bytes.ensures.stopped in
    let s = c.in_err-bytes.field-0.0 in
    let name = c.as_str-2.ensures.value ∙ c.in-Ok.ensures ∙ ap heading_name c.as_str.ensures in
    through c.from_residual.result s _ c.from_residual.ensures.1
    (stopped_into _ _ _ _ _ _ _ _ _ s refl refl r r.given
    (subst (λ (n : List ℕ). IsFileGiven n (g.F.Folder.holds c.args.folder.now) r.given) name r.agrees)
    (λ e. heading_read-unread c.args.number r.given c.args.word.now s e) (λ f k. k)
    (record { tables = omega arith; accesses = omega arith; remotes = omega arith }))

pub returns-clause-went : goal.returns-clause-went
returns-clause-went g c =
    let w = c.in_ok-bytes.ensures.went in
    let bytes = c.in_ok-bytes.bytes.items in
    let name = c.as_str-2.ensures.value ∙ c.in-Ok.ensures ∙ ap heading_name c.as_str.ensures in
    IfOk-weaker c.heading_in.result _ _
    (λ h e. went_into _ _ _ _ _ _ _ refl refl w w.given
    (subst (λ (n : List ℕ). IsFileGiven n (g.F.Folder.holds c.args.folder.now) w.given) name w.agrees)
    (λ k. heading_read-ok c.args.number w.given c.args.word.now bytes h k
    (ap (λ (n : List ℕ). heading_in n (table_of_bytes bytes)) (sym c.as_str-3.ensures)
    ∙ ap (λ (b : List ℕ). heading_in c.as_str-3.result.now (table_of_bytes b)) (sym c.as_slice.ensures.value) ∙ e)))
    c.heading_in.ensures.ok

pub returns-clause-stopped : goal.returns-clause-stopped
returns-clause-stopped g c =
    let w = c.in_ok-bytes.ensures.went in
    let bytes = c.in_ok-bytes.bytes.items in
    let number = c.args.number in
    let word = c.args.word.now in
    let name = c.as_str-2.ensures.value ∙ c.in-Ok.ensures ∙ ap heading_name c.as_str.ensures in
    let agrees = subst (λ (n : List ℕ). IsFileGiven n (g.F.Folder.holds c.args.folder.now) w.given) name w.agrees in
    IfErr-weaker c.heading_in.result _ _
    (λ s r. stopped_into _ _ _ _ _ _ _ _ _ s refl refl
    (stopped_pure {many = counts 0 0 (number + 1)} _ _ _ _ (λ found. ComesTo (or_refuse (status.BadHeading number) (heading_in c.as_str-3.result.now (table_of_bytes c.as_slice.result.now))) (Err s))
    (λ (found : Option (List ℕ)) (f : FileOf). f ≡ file.Heading number) _ s w
    (λ due. due) r (record { tables = omega arith; accesses = omega arith; remotes = omega arith }))
    w.given agrees
    (λ due. heading_read-due number w.given word bytes s w.tells
    (subst (λ (n : List ℕ). ComesTo (or_refuse (status.BadHeading number) (heading_in n (table_of_bytes bytes))) (Err s)) c.as_str-3.ensures
    (subst (λ (b : List ℕ). ComesTo (or_refuse (status.BadHeading number) (heading_in c.as_str-3.result.now (table_of_bytes b))) (Err s)) c.as_slice.ensures.value due)))
    (λ f k. k)
    (record { tables = omega arith; accesses = omega arith; remotes = omega arith }))
    c.heading_in.ensures.refused
