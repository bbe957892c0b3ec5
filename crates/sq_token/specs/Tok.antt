-- The tokens of a script as the grammar sees them.
use Rattle.std.specs.Prelude.{ℕ, ◌+◌, ◌-◌, ◌*◌, List, [], ◌∷◌, Bool, true, false, map, fold}
use Rattle.sq_token.specs.declared.form.Form.{Form}
use Rattle.sq_token.specs.declared.form.Form.TheVariants as form
use Rattle.sq_token.specs.declared.mark.Mark.{Mark}
use Rattle.sq_token.specs.declared.mark.Mark.TheVariants as k
use Rattle.sq_token.specs.Form.{Text}
use Rattle.sq_token.specs.Mark.{mark_of}
use Rattle.sq_token.specs.Piece.{Piece, pieces}
use Rattle.sq_token.specs.Quoted.{name_within, text_within}

-- a token: its place, what it is to the grammar, its content, and the number that it writes
pub record Tok : Type 0 where
  pub at : ℕ
  pub mark : Mark
  pub text : Text
  pub number : ℕ

-- the content of a quoted token, or else its bytes; what is no token has none
abbrev pub content : Form → Text → Text
content form.Delimited z = name_within z
content form.Text z = text_within z
content form.Bad z = []
content _ z = z

-- the number that decimal digits write
unfoldable pub decimal : Text → ℕ
decimal z = fold (λ n b. 10 * n + (b - 48)) 0 z

abbrev pub number_written : Form → Text → ℕ
number_written form.Number z = decimal z
number_written _ z = 0

abbrev pub tok_of : Piece → Tok
tok_of p = record {
  at = p.at;
  mark = mark_of p.form p.bytes;
  text = content p.form p.bytes;
  number = number_written p.form p.bytes;
}

-- the tokens of a text that begins at a place
unfoldable pub toks : ℕ → Text → List Tok
toks at z = map tok_of (pieces at z)

-- the next token, which is the end where none is left
abbrev pub head : List Tok → Tok
head [] = record { at = 0; mark = k.End; text = []; number = 0 }
head (t ∷ ts) = t

abbrev pub next : List Tok → Mark
next ts = (head ts).mark

-- the tokens behind the next one
abbrev pub behind : List Tok → List Tok
behind [] = []
behind (t ∷ ts) = ts

-- no token is left
abbrev pub done : List Tok → Bool
done [] = true
done (t ∷ ts) = false
