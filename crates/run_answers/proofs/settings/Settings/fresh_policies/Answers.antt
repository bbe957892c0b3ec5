use Rattle.std.proofs.Common.{List, ap, sym, ◌∙◌, ◌++◌, ◌∷◌, [], map}
use Rattle.std.specs.List.{range_with_len}
use Rattle.std.proofs.lemmas.List.{map-append}
use Rattle.route_policy.specs.declared.any_policy.AnyPolicy.{AnyPolicy}
use Rattle.bag_meaning.proofs.RangeLemmas.{range_with_len-more}
use Rattle.run_answers.specs.Settings.{fresh_of}
use Rattle.run_answers.proofs.settings.Settings.fresh_policies.Goals as goal

pub loop-worker-preserved : goal.loop-worker-preserved
loop-worker-preserved c =
    let fresh = fresh_of c.args.self.now in
    let worker = c.loop-worker.worker in
    c.in_ok-push.ensures.items
    ∙ ap (λ (policies : List AnyPolicy). policies ++ c.fresh_policy.result ∷ []) c.loop-worker.invariant
    ∙ ap (λ (policy : AnyPolicy). map fresh (range_with_len 0 worker) ++ policy ∷ []) c.fresh_policy.ensures
    ∙ sym (ap (map fresh) (range_with_len-more worker) ∙ map-append fresh (range_with_len 0 worker) (worker ∷ []))
