-- What stands at the front of a text: the longest blank, comment or token that begins there.
use Rattle.std.specs.Prelude.{◌≡◌, ◌⊎◌, ◌≤◌, ◌<◌, ℕ, ◌+◌, ◌-◌, Bool, true, false, not, ◌&&◌, ◌||◌, if◌then◌else◌, ◌==◌, nat_lt, List, [], ◌∷◌, length, drop, slice_index, Option, Some, None, ⊤}
use Rattle.std.specs.Char.{is_ascii_alphanumeric, is_ascii_digit}
use Rattle.std.specs.List.{prefix_len}
use Rattle.std.specs.Str.{IsCharBoundary}
use Rattle.sq_token.specs.declared.form.Class.{Class}
use Rattle.sq_token.specs.declared.form.Class.TheVariants as class
use Rattle.sq_token.specs.declared.form.Form.{Form}
use Rattle.sq_token.specs.declared.form.Form.TheVariants as form

-- the bytes of a text in UTF-8
abbrev pub Text : Type 0
Text = List ℕ

-- whether a byte is of a class: a blank, one that stands in a line, one of a word, or a digit
abbrev pub is_in : Class → ℕ → Bool
is_in class.Blank b = b == 32 || b == 9 || b == 10 || b == 13
is_in class.Line b = not (b == 10)
is_in class.Word b = is_ascii_alphanumeric b || b == 95
is_in class.Digit b = is_ascii_digit b

-- how many bytes of a class stand at the front
abbrev pub run : Class → Text → ℕ
run c z = prefix_len (is_in c) z

-- The length up to and with the first quote that isn't doubled, where there is one. The text begins
-- behind `n` bytes, of which the last is a quote that may be the first of two where `is_second` holds.
abbrev pub closing : ℕ → Bool → ℕ → Text → Option ℕ
closing quote false n [] = None
closing quote true n [] = Some n
closing quote false n (b ∷ z) = closing quote (b == quote) (n + 1) z
closing quote true n (b ∷ z) = if b == quote then closing quote false (n + 1) z else Some n

-- a quoted token with at least this many bytes behind its first quote; else that quote is no token
abbrev pub closed : Form → ℕ → Option ℕ → Form × ℕ
closed f least None = (form.Bad, 1)
closed f least (Some n) = if nat_lt n least then (form.Bad, 1) else (f, n + 1)

abbrev pub quoted : Form → ℕ → Text → Form × ℕ
quoted f least z = closed f least (closing (slice_index z 0) false 0 (drop 1 z))

-- the symbol that begins with these two bytes, the longer one where both fit
abbrev pub symbol : ℕ → ℕ → Form × ℕ
symbol b next =
    if b == 60 then (form.Symbol, if next == 61 || next == 62 then 2 else 1)
    else (if b == 62 then (form.Symbol, if next == 61 then 2 else 1)
    else (if b == 33 then (if next == 61 then (form.Symbol, 2) else (form.Bad, 1))
    else (if b == 44 || b == 59 || b == 46 || b == 42 || b == 40 || b == 41 || b == 43 || b == 45 || b == 61
    then (form.Symbol, 1)
    else (form.Bad, 1))))

-- What begins a text that isn't empty, and its length. A comment runs to the end of its line; a
-- delimited name has at least one character.
unfoldable pub front : Text → Form × ℕ
front z =
    let b = slice_index z 0 in
    if is_in class.Blank b then (form.Blank, run class.Blank z)
    else (if b == 45 && slice_index z 1 == 45 then (form.Blank, run class.Line z)
    else (if is_in class.Digit b then (form.Number, run class.Digit z)
    else (if is_in class.Word b then (form.Word, run class.Word z)
    else (if b == 34 then quoted form.Delimited 2 z
    else (if b == 39 then quoted form.Text 1 z
    else symbol b (slice_index z 1))))))

-- a text of UTF-8 may be cut at this place, by the bytes beside it
abbrev pub IsSeam : Text → ℕ → Type 0
IsSeam z n = (slice_index z (n - 1) < 128) ⊎ ((n ≡ length z) ⊎ (slice_index z n < 128))

-- the text may be cut behind what begins it, and a quoted one inside its quotes
abbrev pub IsSeamed : Form → Text → ℕ → Type 0
IsSeamed form.Bad z n = ⊤
IsSeamed form.Delimited z n = (2 ≤ n) × (slice_index z 0 < 128) × (slice_index z (n - 1) < 128)
IsSeamed form.Text z n = (2 ≤ n) × (slice_index z 0 < 128) × (slice_index z (n - 1) < 128)
IsSeamed _ z n = IsSeam z n

-- the same as places where a character begins
abbrev pub IsCut : Form → Text → ℕ → Type 0
IsCut form.Bad z n = ⊤
IsCut form.Delimited z n = (2 ≤ n) × IsCharBoundary z n × IsCharBoundary z 1 × IsCharBoundary z (n - 1)
IsCut form.Text z n = (2 ≤ n) × IsCharBoundary z n × IsCharBoundary z 1 × IsCharBoundary z (n - 1)
IsCut _ z n = IsCharBoundary z n
