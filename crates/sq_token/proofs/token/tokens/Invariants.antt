use Rattle.std.proofs.Common.{◌≡◌, ◌+◌, ◌++◌, ◌≤◌, length, map}
use denote.Shadow.{shadow}
use denote.Text.{Utf8}
use Rattle.sq_token.specs.Piece.{pieces}
use Rattle.sq_token.specs.Token.{token_of, tokens_of, InOrder}
use Rattle.sq_token.proofs.token.tokens.Given as goal

abbrev pub invariant-loop-drawn : goal.invariant-loop-drawn
invariant-loop-drawn l =
    shadow (Utf8 l.rest)
    × (l.found.items ++ map token_of (pieces l.at l.rest) ≡ tokens_of l.text)
    × InOrder 0 l.at l.found.items
    × (l.at + length l.rest ≤ length l.text)

abbrev pub decreases-loop-drawn : goal.decreases-loop-drawn
decreases-loop-drawn l = length l.rest
