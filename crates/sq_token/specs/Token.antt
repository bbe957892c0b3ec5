-- The tokens of a text, as the tokenizer's callers see them.
use Rattle.std.specs.Prelude.{ℕ, ◌+◌, ◌<◌, ◌≤◌, List, [], ◌∷◌, length, map}
use Rattle.sq_token.specs.declared.form.Form.{Form}
use Rattle.sq_token.specs.declared.form.Form.TheVariants as form
use Rattle.sq_token.specs.declared.token.Token.{Token}
use Rattle.sq_token.specs.declared.token.TokenKind.{TokenKind}
use Rattle.sq_token.specs.declared.token.TokenKind.TheVariants as kind
use Rattle.sq_token.specs.Form.{Text}
use Rattle.sq_token.specs.Piece.{Piece, pieces}
use Rattle.sq_token.specs.Quoted.{name_within, text_within}

-- what a token is, by its form and its bytes
abbrev pub kind_of : Form → Text → TokenKind
kind_of form.Word z = kind.Word
kind_of form.Delimited z = kind.Name (name_within z)
kind_of form.Number z = kind.Number
kind_of form.Text z = kind.Text (text_within z)
kind_of form.Symbol z = kind.Symbol
kind_of _ z = kind.Bad

abbrev pub token_of : Piece → Token
token_of p = record { span = record { from = p.at; to = p.at + length p.bytes }; kind = kind_of p.form p.bytes }

-- the tokens of a text
unfoldable pub tokens_of : Text → List Token
tokens_of z = map token_of (pieces 0 z)

-- the spans lie between these two places, one behind the other, and none is empty
abbrev pub InOrder : ℕ → ℕ → List Token → Type 0
InOrder low high [] = low ≤ high
InOrder low high (t ∷ ts) = (low ≤ t.span.from) × (t.span.from < t.span.to) × InOrder t.span.to high ts
