use Rattle.std.proofs.Common.{◌≡◌, ◌++◌, ◌-◌, ◌≤◌, length, take, drop, false}
use Rattle.sq_token.specs.Quoted.{undoubled}
use Rattle.sq_token.proofs.quoted.past_quote.Given as goal

abbrev pub invariant-loop-at : goal.invariant-loop-at
invariant-loop-at l =
    (undoubled l.quote false l.bytes ≡ take l.at l.bytes ++ undoubled l.quote false (drop l.at l.bytes)) × (l.at ≤ length l.bytes)

abbrev pub decreases-loop-at : goal.decreases-loop-at
decreases-loop-at l = length l.bytes - l.at
