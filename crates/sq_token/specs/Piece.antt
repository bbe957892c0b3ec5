-- The tokens of a text, as one list.
use Rattle.std.specs.Prelude.{◌≡◌, Option, Some, None, ℕ, zero, suc, ◌+◌, ◌-◌, List, [], ◌∷◌, take}
use Rattle.sq_token.specs.declared.form.Form.{Form}
use Rattle.sq_token.specs.declared.form.Form.TheVariants as form
use Rattle.sq_token.specs.declared.piece.Drawn.{Drawn}
use Rattle.sq_token.specs.Form.{Text, front}

-- a token as it stands in a text: its place, its form and its bytes
pub record Piece : Type 0 where
  pub at : ℕ
  pub form : Form
  pub bytes : Text

-- the token of a form, length and place at the front of a text, and the ones behind it
abbrev pub piece_then : Form → ℕ → ℕ → Text → List Piece → List Piece
piece_then form.Blank n at z more = more
piece_then form.Bad n at z more = record { at = at; form = form.Bad; bytes = take n z } ∷ []
piece_then f n at z more = record { at = at; form = f; bytes = take n z } ∷ more

-- The tokens from the place `at` on, from left to right, each the longest that fits; blanks and
-- comments stand between, and what is no token ends the list. The first `left` bytes are of the
-- token, blank or comment before.
abbrev pub pieces_from : ℕ → ℕ → Text → List Piece
pieces_from left at [] = []
pieces_from (suc left) at (b ∷ z) = pieces_from left (at + 1) z
pieces_from zero at (b ∷ z) =
    piece_then (front (b ∷ z)).0 (front (b ∷ z)).1 at (b ∷ z) (pieces_from ((front (b ∷ z)).1 - 1) (at + 1) z)

-- the tokens of a text that begins at a place
unfoldable pub pieces : ℕ → Text → List Piece
pieces at z = pieces_from 0 at z

-- the token that a drawn one is
abbrev pub piece_of : Drawn → Piece
piece_of d = record { at = d.at; form = d.form; bytes = take d.length d.text.now }

-- what a text that was read from the place `at` on gave: nothing where it has no token, else its first
-- token, and the text behind that
abbrev pub IsDrawn : ℕ → Text → Option Drawn → Type 0
IsDrawn at z None = pieces at z ≡ []
IsDrawn at z (Some d) = pieces at z ≡ piece_of d ∷ pieces (d.at + d.length) d.rest.now
