use Rattle.std.proofs.Common.{◌≡◌, ◌+◌, ◌-◌, ◌≤◌, length, drop, slice_index, true}
use Rattle.std.specs.List.{prefix_len}
use Rattle.sq_token.specs.Form.{is_in}
use Rattle.sq_token.proofs.form.run.Given as goal

abbrev pub invariant-loop-end : goal.invariant-loop-end
invariant-loop-end l =
    (l.end + prefix_len (is_in l.class) (drop l.end l.text) ≡ prefix_len (is_in l.class) l.text) × (l.end ≤ length l.text)
    × (1 ≤ l.end → is_in l.class (slice_index l.text (l.end - 1)) ≡ true)

abbrev pub decreases-loop-end : goal.decreases-loop-end
decreases-loop-end l = length l.text - l.end
