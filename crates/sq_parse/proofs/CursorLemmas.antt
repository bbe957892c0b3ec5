use Rattle.std.proofs.Common.{◌≡◌, ◌+◌, ◌*◌, ℕ, Option, Some, None, map, min, ap, sym, arith}
use Rattle.sq_token.specs.declared.piece.Drawn.{Drawn}
use Rattle.sq_token.specs.Form.{Text}
use Rattle.sq_token.specs.Piece.{IsDrawn}
use Rattle.sq_token.specs.Tok.{tok_of, toks}
use Rattle.sq_parse.specs.Cursor.{drawn_toks}

-- what was drawn from a text shows the text's tokens
pub drawn_toks_is : (at : ℕ) (z : Text) (r : Option Drawn) → IsDrawn at z r → drawn_toks r ≡ toks at z
unfolding toks
drawn_toks_is at z None h = sym (ap (map tok_of) h)
drawn_toks_is at z (Some d) h = sym (ap (map tok_of) h)

-- reading on with a cap is reading on, and then the cap
pub capped_step : (n d cap : ℕ) → min (10 * min n cap + d) cap ≡ min (10 * n + d) cap
capped_step n d cap = omega arith
