use Rattle.std.proofs.Common.{ap, ◌∷◌, [], length, arith}
use Rattle.std.proofs.lemmas.List.{length-append}
use Rattle.route_policy.specs.declared.any_policy.AnyPolicy.{AnyPolicy}
use Rattle.run_answers.proofs.settings.Settings.shared_policies.Goals as goal

pub loop-worker-preserved : goal.loop-worker-preserved
loop-worker-preserved c =
    let items = ap (length {A = AnyPolicy}) c.in_ok-push.ensures.items in
    let more = length-append c.loop-worker.policies.items (c.touched_by_all.result ∷ []) in
    omega (arith, items, more, c.loop-worker.invariant)
