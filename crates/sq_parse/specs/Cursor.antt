-- For the proofs of the parser alone: what a cursor shows, the tokens that are left.
use Rattle.std.specs.Prelude.{◌≡◌, ◌+◌, ◌<◌, ◌≤◌, List, [], ◌∷◌, length, take, Option, Some, None, MatchOption}
use Rattle.sq_token.specs.declared.piece.Drawn.{Drawn}
use Rattle.sq_token.specs.declared.mark.Mark.TheVariants as k
use Rattle.sq_parse.specs.declared.cursor.Cursor.TheInside.{Inside}
use Rattle.sq_token.specs.Form.{IsCut}
use Rattle.sq_token.specs.Mark.{mark_of}
use Rattle.sq_token.specs.Piece.{piece_of}
use Rattle.sq_token.specs.Tok.{Tok, tok_of, toks}

-- the token that was drawn last, and those behind it
abbrev pub drawn_toks : Option Drawn → List Tok
drawn_toks None = []
drawn_toks (Some d) = tok_of (piece_of d) ∷ toks (d.at + d.length) d.rest.now

abbrev pub left_in : Inside → List Tok
left_in c = drawn_toks c.ahead

-- the token that was drawn last can be cut, and places fit
abbrev pub IsSound : Drawn → Type 0
IsSound d = IsCut d.form d.text.now d.length × (1 ≤ d.length) × (d.length ≤ length d.text.now)
    × (d.at + d.length + length d.rest.now < 4294967295)

-- and its mark is known
abbrev pub ShowsAhead : Inside → Type 0
ShowsAhead c = MatchOption c.ahead (c.mark ≡ k.End) (λ d. IsSound d
    × (c.mark ≡ mark_of d.form (take d.length d.text.now)))
