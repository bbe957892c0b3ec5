use Rattle.std.proofs.Common.{sym, ap, ◌∙◌}
use Rattle.group_sink.specs.Dense.{numbered}
use Rattle.group_sink.specs.Parts.{is_same_part, is_same_pair, seen_part}
use Rattle.group_sink.proofs.ViewLemmas.{numbered_seen}
use Rattle.group_sink.proofs.Results.{on_ok}
use Rattle.group_sink.proofs.part.refined.Goals as goal

pub returns : goal.returns
returns c =
    let parts = c.in_ok-parts.parts.items in
    on_ok c.number_parts.result
    (λ numbers h. h ∙ ap (numbered is_same_part) c.as_slice.ensures.value ∙ sym (numbered_seen seen_part is_same_pair parts) ∙ ap (numbered is_same_pair) c.in_ok-parts.ensures)
    c.number_parts.ensures
