use Rattle.std.proofs.Common.{Err, Ok, ◌∙◌}
use Rattle.std.proofs.lemmas.Result.{IfOk-weaker, IfErr-weaker}
use Rattle.run_plan.proofs.DoingLemmas.{refuses_weaker}
use Rattle.run_plan.proofs.PlanLemmas.{demo_unscripted, demo_over}
use Rattle.run_plan.proofs.StageLemmas.{memory_alone}
use Rattle.run_plan.specs.Prepared.{predicates}
use Rattle.run_plan.proofs.DemoBinding.{planned_demo, unrefused_demo}
use Rattle.run_plan.proofs.demoing.prepare_demo.Goals as goal

pub returns-in-Ok-clause-ok : goal.returns-in-Ok-clause-ok
returns-in-Ok-clause-ok g c =
    IfOk-weaker c.plan_demo.result _ _
    (λ plan e. demo_over _ c.args.rows c.args.seed _ c.in-Ok.script (Ok plan) (c.as_bytes.ensures.value ∙ c.queries.ensures.script) c.in-Ok.ensures.ok e)
    c.plan_demo.ensures.ok

pub returns-in-Ok-clause-refused : goal.returns-in-Ok-clause-refused
returns-in-Ok-clause-refused g c =
    IfErr-weaker c.plan_demo.result _ _
    (λ s r. refuses_weaker _ _ s
    (λ e. demo_over _ c.args.rows c.args.seed _ c.in-Ok.script (Err s) (c.as_bytes.ensures.value ∙ c.queries.ensures.script) c.in-Ok.ensures.ok e) r)
    c.plan_demo.ensures.refused

pub returns-in-Err-clause-refused : goal.returns-in-Err-clause-refused
returns-in-Err-clause-refused g c =
    refuses_weaker _ _ c.in-Err.refusal
    (λ e. demo_unscripted _ c.args.rows c.args.seed _ c.in-Err.refusal (c.as_bytes.ensures.value ∙ c.queries.ensures.script) e) c.in-Err.ensures.refused

pub returns-in-Ok-clause-planned : goal.returns-in-Ok-clause-planned
returns-in-Ok-clause-planned g c = planned_demo _ c.args.rows c.args.seed

pub returns-in-Err-clause-planned : goal.returns-in-Err-clause-planned
returns-in-Err-clause-planned g c = planned_demo _ c.args.rows c.args.seed

pub returns-in-Ok-clause-memory : goal.returns-in-Ok-clause-memory
returns-in-Ok-clause-memory g c =
    let p = predicates (g.P.Predicates.number_of c.args.functions.now) (g.P.Predicates.kinds_of c.args.functions.now) g.P.Predicates.gives in
    IfErr-weaker c.plan_demo.result _ _
    (λ s r. memory_alone _ s
    (λ e. unrefused_demo p c.args.rows c.args.seed s
    (demo_over _ c.args.rows c.args.seed _ c.in-Ok.script (Err s) (c.as_bytes.ensures.value ∙ c.queries.ensures.script) c.in-Ok.ensures.ok e))
    r.may)
    c.plan_demo.ensures.refused

pub returns-in-Err-clause-memory : goal.returns-in-Err-clause-memory
returns-in-Err-clause-memory g c =
    let p = predicates (g.P.Predicates.number_of c.args.functions.now) (g.P.Predicates.kinds_of c.args.functions.now) g.P.Predicates.gives in
    memory_alone _ c.in-Err.refusal
    (λ e. unrefused_demo p c.args.rows c.args.seed c.in-Err.refusal
    (demo_unscripted _ c.args.rows c.args.seed _ c.in-Err.refusal (c.as_bytes.ensures.value ∙ c.queries.ensures.script) e))
    c.in-Err.ensures.refused.may
