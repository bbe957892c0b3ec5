use Rattle.std.proofs.Common.{List, ℕ, Err, Ok, length, ap, subst, refl, arith}
use Rattle.std.proofs.lemmas.Result.{IfOk-weaker, IfErr-weaker}
use Rattle.run_plan.specs.Prepared.{IsSpelled}
use Rattle.run_plan.proofs.DoingLemmas.{through, went_into, stopped_pure, stopped_into}
use Rattle.run_plan.proofs.preparing.read_script.Goals as goal

pub returns-in_err-text-clause-stopped : goal.returns-in_err-text-clause-stopped
returns-in_err-text-clause-stopped g c =
    let r = c.in_err-text.ensures.stopped in
    through c.from_residual.result c.in_err-text.field-0.0 _ c.from_residual.ensures.1
    (stopped_into _ _ _ _ _ _ _ _ _ c.in_err-text.field-0.0 refl refl r r.given r.agrees (λ e. (Err c.in_err-text.field-0.0, e, refl)) (λ f k. k)
    (record { tables = omega arith; accesses = omega arith; remotes = omega arith }))

pub parse_script-requires : goal.parse_script-requires
parse_script-requires g c = omega (arith, ap (length {A = ℕ}) c.as_slice.ensures.value, c.in_ok-text.ensures.short)

pub returns-clause-went : goal.returns-clause-went
returns-clause-went g c =
    let w = c.in_ok-text.ensures.went in
    IfOk-weaker c.parse_script.result _ _
    (λ script e. went_into _ _ _ _ _ _ _ refl refl w w.given w.agrees
    (λ k. (Ok c.in_ok-text.text.items, k, subst (λ (t : List ℕ). IsSpelled t (Ok script)) c.as_slice.ensures.value e)))
    c.parse_script.ensures.ok

pub returns-clause-stopped : goal.returns-clause-stopped
returns-clause-stopped g c =
    let w = c.in_ok-text.ensures.went in
    IfErr-weaker c.parse_script.result _ _
    (λ s r. stopped_pure _ _ _ _ _ _ _ s w
    (λ due. (Ok c.in_ok-text.text.items, w.tells, subst (λ (t : List ℕ). IsSpelled t (Err s)) c.as_slice.ensures.value due)) r
    (record { tables = omega arith; accesses = omega arith; remotes = omega arith }))
    c.parse_script.ensures.refused
