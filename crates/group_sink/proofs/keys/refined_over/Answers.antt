use Rattle.std.proofs.Common.{ap, ◌∙◌}
use Rattle.std.specs.Prelude.{map}
use Rattle.group_sink.specs.Dense.{numbered}
use Rattle.group_sink.specs.Parts.{is_same_pair, pairs, rank_kept}
use Rattle.group_sink.proofs.Results.{on_ok}
use Rattle.group_sink.proofs.keys.refined_over.Goals as goal

pub returns : goal.returns
returns c =
    on_ok c.refined.result
    (λ numbers h. h ∙ ap (λ ks. numbered is_same_pair (pairs c.args.numbers.now (map rank_kept ks))) c.as_slice.ensures.value
    ∙ ap (λ rs. numbered is_same_pair (pairs c.args.numbers.now rs)) c.in_ok-keys.ensures)
    c.refined.ensures
