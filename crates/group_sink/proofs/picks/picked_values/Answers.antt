use Rattle.std.proofs.Common.{ap, ◌∙◌}
use Rattle.std.specs.Prelude.{map}
use Rattle.group_sink.specs.Picked.{picked}
use Rattle.group_sink.specs.Picks.{seen, pick_of}
use Rattle.group_sink.proofs.Results.{on_ok}
use Rattle.group_sink.proofs.picks.picked_values.Goals as goal

pub returns : goal.returns
returns c =
    on_ok c.picks_by.result
    (λ best h. λ group below.
    h group below
    ∙ ap (λ vs. pick_of c.args.pick (picked group c.args.numbers.now (map seen vs))) c.as_slice.ensures.value
    ∙ ap (λ vs. pick_of c.args.pick (picked group c.args.numbers.now vs)) c.in_ok-values.ensures)
    c.picks_by.ensures
