use Rattle.std.proofs.Common.{ap, ◌∙◌}
use Rattle.run_base.specs.Seen.{folder_seen}
use Rattle.whole_run.proofs.RanLemmas.{ran_any, ran_unplanned, unremote}
use Rattle.whole_run.proofs.run.run_query.Goals as goal

pub returns-in-Ok-clause-ran : goal.returns-in-Ok-clause-ran
returns-in-Ok-clause-ran g c = λ words e.
    ran_any _ words c.args.request.now c.in-Ok.plan _ _ _ c.args.outputs.now c.run_any.new.outputs c.run_any.result e c.requires.shared c.in-Ok.ensures.went
    c.run_any.ensures.keeps c.run_any.ensures.counts
    (λ none. ap (λ f. folder_seen (g.F.Folder.holds f) (g.F.Folder.faults f)) (c.run_any.ensures.alone none)) c.run_any.ensures.ran c.run_any.ensures.over

pub returns-in-Err-clause-ran : goal.returns-in-Err-clause-ran
returns-in-Err-clause-ran g c = λ words e. ran_unplanned _ words c.args.request.now _ _ c.args.outputs.now c.in-Err.refusal e c.in-Err.ensures.stopped

pub returns-in-Ok-clause-untouched : goal.returns-in-Ok-clause-untouched
returns-in-Ok-clause-untouched g c = λ none.
    let w = c.in-Ok.ensures.went in
    c.run_any.ensures.alone (unremote _ c.args.request.now.task c.args.request.now.settings.seed _ w.given c.in-Ok.plan none w.agrees w.tells) ∙ c.plan_for.ensures.untouched none
