use Rattle.std.proofs.Common.{Err, Ok, refl, arith}
use Rattle.std.proofs.lemmas.Result.{IfOk-weaker, IfErr-weaker}
use Rattle.run_plan.specs.Headings.{opened_as}
use Rattle.run_plan.proofs.DoingLemmas.{through, went_into, stopped_pure, stopped_into}
use Rattle.run_plan.proofs.PlanLemmas.{given_both, given_script, went_both, with_script, unread_of, plan_unscripted, plan_untabled, plan_over, reached_tables, reached_script}
use Rattle.run_plan.proofs.preparing.prepare.Goals as goal

pub returns-in_err-script-clause-stopped : goal.returns-in_err-script-clause-stopped
returns-in_err-script-clause-stopped g c =
    let q = c.args.query.now in
    let r = c.in_err-script.ensures.stopped in
    let held = g.F.Folder.holds c.args.folder.now in
    through c.from_residual.result c.in_err-script.field-0.0 _ c.from_residual.ensures.1
    (stopped_into _ _ _ _ _ _ _ _ _ c.in_err-script.field-0.0 refl refl r (unread_of q held r.given)
    (given_script q held c.as_str.result.now r.given c.as_str.ensures r.agrees)
    (λ e. plan_unscripted _ q (unread_of q held r.given) c.in_err-script.field-0.0 e)
    (λ f k. reached_script q (unread_of q held r.given) f k)
    (record { tables = omega arith; accesses = omega arith; remotes = omega arith }))

pub returns-in_err-opened-clause-stopped : goal.returns-in_err-opened-clause-stopped
returns-in_err-opened-clause-stopped g c =
    let q = c.args.query.now in
    let w = c.in_ok-script.ensures.went in
    let r = c.in_err-opened.ensures.stopped in
    let given = with_script r.given w.given in
    through c.from_residual-in_err-opened.result c.in_err-opened.field-0.0 _ c.from_residual-in_err-opened.ensures.1
    (stopped_into _ _ _ _ _ _ _ _ _ c.in_err-opened.field-0.0 w.keeps w.kept r given
    (given_both q _ _ c.as_str.result.now w.given r.given c.as_str.ensures w.keeps w.agrees r.agrees)
    (λ e. plan_untabled _ q given c.in_ok-script.script c.in_err-opened.field-0.0 w.tells e)
    (λ f k. reached_tables q given c.in_ok-script.script f w.tells k)
    (record { tables = omega arith; accesses = omega arith; remotes = omega arith }))

pub returns-clause-went : goal.returns-clause-went
returns-clause-went g c =
    let o = opened_as c.in_ok-opened.opened.0 c.in_ok-opened.opened.1 in
    let b = went_both c.args.query.now _ _ _ c.as_str.result.now c.in_ok-script.script o c.as_str.ensures c.in_ok-script.ensures.went c.in_ok-opened.ensures.went in
    IfOk-weaker c.plan_over.result _ _
    (λ plan e. went_into _ _ _ _ _ _ _ refl refl b b.given b.agrees (λ k. plan_over _ c.args.query.now b.given c.in_ok-script.script o (Ok plan) k.0 k.1 e))
    c.plan_over.ensures.ok

pub returns-clause-stopped : goal.returns-clause-stopped
returns-clause-stopped g c =
    let o = opened_as c.in_ok-opened.opened.0 c.in_ok-opened.opened.1 in
    let b = went_both c.args.query.now _ _ _ c.as_str.result.now c.in_ok-script.script o c.as_str.ensures c.in_ok-script.ensures.went c.in_ok-opened.ensures.went in
    IfErr-weaker c.plan_over.result _ _
    (λ s r. stopped_pure _ _ _ _ _ _ _ s b (λ due. plan_over _ c.args.query.now b.given c.in_ok-script.script o (Err s) b.tells.0 b.tells.1 due) r
    (record { tables = omega arith; accesses = omega arith; remotes = omega arith }))
    c.plan_over.ensures.refused
