-- What the tokens of a text are, said of the text alone: gap, token, gap and so on, where each token is the longest
-- that begins what is left.
use Rattle.std.specs.Prelude.{◌≡◌, ◌≢◌, ◌⊎◌, ◌≤◌, ℕ, ◌+◌, true, false, List, [], ◌∷◌, ◌++◌, length, slice_index, codes, if◌then◌else◌, ◌==◌, ⊤}
use Rattle.std.specs.List.{list_all, concat}
use Rattle.sq_token.specs.declared.form.Class.TheVariants as class
use Rattle.sq_token.specs.declared.form.Form.{Form}
use Rattle.sq_token.specs.declared.form.Form.TheVariants as form
use Rattle.sq_token.specs.Form.{Text, is_in}
use Rattle.sq_token.specs.Piece.{Piece}

-- ---- the forms of tokens

-- a text with each quote in it doubled
abbrev pub doubled : ℕ → Text → Text
doubled quote [] = []
doubled quote (b ∷ t) = if b == quote then b ∷ b ∷ doubled quote t else b ∷ doubled quote t

-- a text is another byte's, or nothing: it doesn't begin with this one
abbrev pub BeginsNot : ℕ → Text → Type 0
BeginsNot b [] = ⊤
BeginsNot b (c ∷ z) = c ≢ b

-- a text between quotes, each quote in it doubled, where no quote follows
pub record IsQuoted (quote : ℕ) (least : ℕ) (token rest : Text) : Type 0 where
  pub content : Text
  pub long : least ≤ length content
  pub is : token ≡ quote ∷ (doubled quote content ++ (quote ∷ []))
  pub ends : BeginsNot quote rest

abbrev pub symbols : List Text
symbols =
    codes "," ∷ codes ";" ∷ codes "." ∷ codes "*" ∷ codes "(" ∷ codes ")" ∷ codes "+" ∷ codes "-" ∷ codes "="
    ∷ codes "<>" ∷ codes "!=" ∷ codes "<" ∷ codes "<=" ∷ codes ">" ∷ codes ">=" ∷ []

-- a text is one of some
abbrev pub IsOneOf : List Text → Text → Type 0
IsOneOf [] z = ⊥
IsOneOf (s ∷ more) z = (z ≡ s) ⊎ IsOneOf more z

-- a word begins with no digit
abbrev pub IsWordToken : Text → Type 0
IsWordToken [] = ⊥
IsWordToken (b ∷ z) = (is_in class.Digit b ≡ false) × (list_all (is_in class.Word) (b ∷ z) ≡ true)

abbrev pub IsNumberToken : Text → Type 0
IsNumberToken [] = ⊥
IsNumberToken (b ∷ z) = list_all (is_in class.Digit) (b ∷ z) ≡ true

-- a token of a form, before what follows it
abbrev pub IsToken : Form → Text → Text → Type 0
IsToken form.Word token rest = IsWordToken token
IsToken form.Number token rest = IsNumberToken token
IsToken form.Delimited token rest = IsQuoted 34 1 token rest
IsToken form.Text token rest = IsQuoted 39 0 token rest
IsToken form.Symbol token rest = IsOneOf symbols token
IsToken form.Blank token rest = ⊥
IsToken form.Bad token rest = ⊥

-- no longer token begins what this one begins
pub record IsLongest (f : Form) (token rest : Text) : Type 0 where
  pub is : IsToken f token rest
  pub longest : (g : Form) (other after : Text) → other ++ after ≡ token ++ rest → IsToken g other after
      → length other ≤ length token

-- no token begins a text
abbrev pub NoToken : Text → Type 0
NoToken z = (f : Form) (token rest : Text) → token ++ rest ≡ z → IsToken f token rest → ⊥

-- ---- what stands between tokens

-- a comment is followed by the end of its line, or of the text
abbrev pub EndsLine : Text → Type 0
EndsLine [] = ⊤
EndsLine (b ∷ z) = b ≡ 10

-- `--`, and the rest of a line
pub record IsComment (z : Text) (rest : Text) : Type 0 where
  pub line : Text
  pub is : z ≡ 45 ∷ 45 ∷ line
  pub inside : list_all (is_in class.Line) line ≡ true
  pub ends : EndsLine rest

-- blanks, or a comment
abbrev pub IsBetween : Text → Text → Type 0
IsBetween z rest = (list_all (is_in class.Blank) z ≡ true) ⊎ IsComment z rest

-- such parts, one after another
abbrev pub AreBetween : List Text → Text → Type 0
AreBetween [] rest = ⊤
AreBetween (z ∷ more) rest = IsBetween z (concat more ++ rest) × AreBetween more rest

-- a gap: blanks and comments
pub record IsGap (gap rest : Text) : Type 0 where
  pub parts : List Text
  pub is : gap ≡ concat parts
  pub between : AreBetween parts rest

-- what is left begins with neither a blank nor a comment
pub record NoGap (z : Text) : Type 0 where
  pub no_blank : is_in class.Blank (slice_index z 0) ≡ false
  pub no_comment : slice_index z 0 ≡ 45 → slice_index z 1 ≢ 45

-- ---- the tokens

-- A text from a place on is a gap, and where there are tokens then the first of them, as the longest that begins what
-- is left, and the others. Where no token begins what is left, one byte of it is the last token, and of the form Bad.
abbrev pub AreTokens : ℕ → Text → List Piece → Type 0
AreTokens at z [] = IsGap z []
AreTokens at z (p ∷ ps) =
    (gap : Text) × ((rest : Text)
    × ((z ≡ gap ++ (p.bytes ++ rest))
    × ((p.at ≡ at + length gap)
    × (IsGap gap (p.bytes ++ rest)
    × (NoGap (p.bytes ++ rest)
    × ((IsLongest p.form p.bytes rest × AreTokens (p.at + length p.bytes) rest ps)
    ⊎ ((p.form ≡ form.Bad) × ((length p.bytes ≡ 1) × (NoToken (p.bytes ++ rest) × (ps ≡ []))))))))))
