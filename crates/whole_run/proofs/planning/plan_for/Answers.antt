use Rattle.std.proofs.Common.{None}
use Rattle.std.proofs.lemmas.Result.{IfOk-weaker, IfErr-weaker}
use Rattle.run_base.specs.Seen.{Folder}
use Rattle.whole_run.proofs.PlanLemmas.{went_query, went_demo, stopped_query, stopped_demo}
use Rattle.whole_run.proofs.ShareLemmas.{can_share}
use Rattle.whole_run.proofs.planning.plan_for.Goals as goal

pub returns-in-Query-clause-went : goal.returns-in-Query-clause-went
returns-in-Query-clause-went g c =
    IfOk-weaker c.prepare.result _ _
    (λ plan w. went_query c.args.request.now.task c.in-Query.query _ c.args.request.now.settings.seed _ _ plan c.in-Query.is w) c.prepare.ensures.went

pub returns-in-Query-clause-stopped : goal.returns-in-Query-clause-stopped
returns-in-Query-clause-stopped g c =
    IfErr-weaker c.prepare.result _ _
    (λ s r. stopped_query c.args.request.now.task c.in-Query.query _ c.args.request.now.settings.seed _ _ s c.in-Query.is r) c.prepare.ensures.stopped

pub returns-in-Demo-clause-went : goal.returns-in-Demo-clause-went
returns-in-Demo-clause-went g c =
    IfOk-weaker c.prepare_demo.result _ _
    (λ plan h. went_demo c.args.request.now.task c.in-Demo.rows _ c.args.request.now.settings.seed _ plan c.in-Demo.is h) c.prepare_demo.ensures.ok

pub returns-in-Demo-clause-stopped : goal.returns-in-Demo-clause-stopped
returns-in-Demo-clause-stopped g c =
    IfErr-weaker c.prepare_demo.result _ _
    (λ s r. stopped_demo c.args.request.now.task c.in-Demo.rows _ c.args.request.now.settings.seed _ s c.in-Demo.is r) c.prepare_demo.ensures.refused

pub returns-in-Query-clause-scanned : goal.returns-in-Query-clause-scanned
returns-in-Query-clause-scanned g c = λ alone.
    IfOk-weaker c.prepare.result _ _
    (λ plan w.
    let went = went_query c.args.request.now.task c.in-Query.query _ c.args.request.now.settings.seed _ _ plan c.in-Query.is w in
    can_share _ c.args.request.now.task c.args.request.now.settings.seed _ went.given plan c.requires alone went.agrees went.tells)
    c.prepare.ensures.went

-- a folder that tells nothing: the demo loads none
abbrev untold : Folder
untold = record { holds = None; faults = 0 }

pub returns-in-Demo-clause-scanned : goal.returns-in-Demo-clause-scanned
returns-in-Demo-clause-scanned g c = λ alone.
    IfOk-weaker c.prepare_demo.result _ _
    (λ plan h.
    let went = went_demo c.args.request.now.task c.in-Demo.rows _ c.args.request.now.settings.seed untold plan c.in-Demo.is h in
    can_share _ c.args.request.now.task c.args.request.now.settings.seed None went.given plan c.requires alone went.agrees went.tells)
    c.prepare_demo.ensures.ok
