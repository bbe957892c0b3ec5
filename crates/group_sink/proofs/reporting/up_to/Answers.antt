use Rattle.std.proofs.Common.{ℕ, List, [], ◌∷◌, ◌++◌, ap, sym, ◌∙◌}
use Rattle.group_sink.proofs.RangeRises.{range-push}
use Rattle.group_sink.proofs.reporting.up_to.Goals as goal

pub loop-number-preserved : goal.loop-number-preserved
loop-number-preserved c =
    c.in_ok-push.ensures.items ∙ ap (λ (l : List ℕ). l ++ c.loop-number.number ∷ []) c.loop-number.invariant ∙ sym (range-push c.loop-number.number)
