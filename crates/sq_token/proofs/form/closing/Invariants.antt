use Rattle.std.proofs.Common.{◌≡◌, ◌-◌, ◌≤◌, length, drop, slice_index, true, false}
use Rattle.sq_token.specs.Form.{closing}
use Rattle.sq_token.proofs.form.closing.Given as goal

abbrev pub invariant-loop-end : goal.invariant-loop-end
invariant-loop-end l =
    (closing l.quote l.is_second l.end (drop l.end l.text) ≡ closing l.quote false 0 l.text)
    × (l.end ≤ length l.text)
    × (l.is_second ≡ true → (1 ≤ l.end) × (slice_index l.text (l.end - 1) ≡ l.quote))

abbrev pub decreases-loop-end : goal.decreases-loop-end
decreases-loop-end l = length l.text - l.end
