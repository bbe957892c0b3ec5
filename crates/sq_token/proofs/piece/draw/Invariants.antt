use Rattle.std.proofs.Common.{◌≡◌, ◌+◌, ◌≤◌, length}
use denote.Shadow.{shadow}
use denote.Text.{Utf8}
use Rattle.sq_token.specs.Piece.{pieces}
use Rattle.sq_token.proofs.piece.draw.Given as goal

abbrev pub invariant-loop-text : goal.invariant-loop-text
invariant-loop-text l =
    shadow (Utf8 l.text)
    × (pieces l.at l.text ≡ pieces l.initial.at l.initial.text)
    × (l.initial.at ≤ l.at)
    × (l.at + length l.text ≡ l.initial.at + length l.initial.text)

abbrev pub decreases-loop-text : goal.decreases-loop-text
decreases-loop-text l = length l.text
