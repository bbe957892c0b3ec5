use Rattle.std.proofs.Common.{List, [], length, ap, Ok, Err, refl, subst, arith}
use Rattle.command_line.specs.declared.command.RemoteWord.{RemoteWord}
use Rattle.command_line.specs.declared.command.TableWord.{TableWord}
use Rattle.run_plan.specs.Files.{catalogue_read}
use Rattle.run_plan.specs.Headings.{opened_as, remotes_opened}
use Rattle.run_plan.specs.Prepared.{ReachedHeading}
use Rattle.run_plan.specs.Steps.{ComesTo}
use Rattle.run_plan.specs.declared.status.FileOf.{FileOf}
use Rattle.run_plan.proofs.DoingLemmas.{through, stopped_into}
use Rattle.run_plan.proofs.PlanLemmas.{all_untabled, all_over, unopened_of, opened_given, given_tables, given_opened, went_opened, tables_reached, headings_reached}
use Rattle.run_plan.proofs.preparing.load_all.Goals as goal

pub returns-in_err-catalogue-clause-stopped : goal.returns-in_err-catalogue-clause-stopped
returns-in_err-catalogue-clause-stopped g c =
    let q = c.args.query.now in
    let r = c.in_err-catalogue.ensures.stopped in
    let s = c.in_err-catalogue.field-0.0 in
    let given = unopened_of q (g.F.Folder.holds c.args.folder.now) r.given in
    through c.from_residual.result s _ c.from_residual.ensures.1
    (stopped_into _ _ _ _ _ _ _ _ _ s refl refl r given
    (given_tables q _ c.as_slice.result.now r.given c.as_slice.ensures r.agrees)
    (λ e. all_untabled given q s (subst (λ (ts : List TableWord). ComesTo (catalogue_read r.given ts) (Err s)) c.as_slice.ensures e))
    (λ f k. tables_reached given q f k)
    (record { tables = omega (arith, ap (length {A = TableWord}) c.as_slice.ensures); accesses = omega arith; remotes = omega arith }))

pub returns-in_err-remotes-clause-stopped : goal.returns-in_err-remotes-clause-stopped
returns-in_err-remotes-clause-stopped g c =
    let q = c.args.query.now in
    let catalogue = c.in_ok-catalogue.catalogue in
    let w = c.in_ok-catalogue.ensures.went in
    let r = c.in_err-remotes.ensures.stopped in
    let s = c.in_err-remotes.field-0.0 in
    let given = opened_given w.given r.given in
    let read = subst (λ (ts : List TableWord). ComesTo (catalogue_read w.given ts) (Ok catalogue)) c.as_slice.ensures w.tells in
    through c.from_residual-in_err-remotes.result s _ c.from_residual-in_err-remotes.ensures.1
    (stopped_into _ _ _ _ _ _ _ _ _ s w.keeps w.kept r given
    (given_opened q _ _ c.as_slice.result.now c.as_slice-2.result.now w.given r.given c.as_slice.ensures c.as_slice-2.ensures w.keeps w.agrees r.agrees)
    (λ e. all_over given q catalogue (Err s) read
    (subst (λ (rs : List RemoteWord). ComesTo (remotes_opened 0 r.given (opened_as catalogue []) rs) (Err s)) c.as_slice-2.ensures e))
    (λ f k. headings_reached given q catalogue f read
    (subst (λ (rs : List RemoteWord). ReachedHeading r.given (opened_as catalogue []) rs f) c.as_slice-2.ensures k))
    (record { tables = omega arith; accesses = omega arith; remotes = omega (arith, ap (length {A = RemoteWord}) c.as_slice-2.ensures) }))

pub returns-clause-went : goal.returns-clause-went
returns-clause-went g c =
    went_opened c.args.query.now _ _ _ c.as_slice.result.now c.as_slice-2.result.now c.in_ok-catalogue.catalogue _ c.as_slice.ensures c.as_slice-2.ensures
    c.in_ok-catalogue.ensures.went c.in_ok-remotes.ensures.went
