-- How the text of a route script is read, and its first fault.
use Rattle.std.specs.Prelude.{ℕ, ◌+◌, ◌-◌, ◌*◌, nat_lt, nat_le, Bool, ◌==◌, ◌&&◌, List, [], ◌∷◌, length, take, sum_by, filter_map, Option, None, Some, is_none, option_map, Result, Ok, Err, if◌then◌else◌}
use Rattle.std.specs.List.{position_or_len}
use Rattle.route_policy.specs.declared.fault.ScriptFault.{ScriptFault}
use Rattle.route_policy.specs.declared.fault.ScriptFault.TheVariants.{BadWord, TooLong}
use Rattle.route_policy.specs.declared.word.RouteWord.{RouteWord}
use Rattle.route_policy.specs.declared.word.RouteWord.TheVariants as word
use Rattle.route_policy.specs.Script.{ScriptState, fresh_script}

-- whether a byte is a decimal digit
abbrev pub is_digit : ℕ → Bool
is_digit byte = nat_le 48 byte && nat_le byte 57

-- a number, if it is below a limit
abbrev pub below_limit : ℕ → ℕ → Option ℕ
below_limit limit n = if nat_lt n limit then Some n else None

-- the number below a limit, and so of at most two digits, that these bytes are without a leading zero
abbrev pub digits_number : ℕ → List ℕ → Option ℕ
digits_number limit [] = None
digits_number limit (d ∷ []) = if is_digit d then below_limit limit (d - 48) else None
digits_number limit (d ∷ e ∷ []) =
    if is_digit d && is_digit e && nat_lt 48 d then below_limit limit (10 * (d - 48) + (e - 48)) else None
digits_number limit (d ∷ e ∷ (f ∷ more)) = None

-- the word that a letter and the bytes behind it are
abbrev pub lettered : ℕ → List ℕ → Option RouteWord
lettered letter number =
    if letter == 115 then option_map word.Select (digits_number 48 number)
    else if letter == 97 then option_map word.All (digits_number 12 number)
    else if letter == 118 then option_map word.By (digits_number 48 number)
    else if letter == 119 then option_map word.Band (digits_number 48 number)
    else None

-- the word that these bytes are
abbrev pub read_word : List ℕ → Option RouteWord
read_word [] = None
read_word (c ∷ []) = if c == 98 then Some word.Build else None
read_word (c ∷ d ∷ more) = lettered c (d ∷ more)

-- a byte before the first of some pieces
abbrev pub onto_first : ℕ → List (List ℕ) → List (List ℕ)
onto_first c [] = (c ∷ []) ∷ []
onto_first c (piece ∷ pieces) = (c ∷ piece) ∷ pieces

-- bytes cut at their commas
abbrev pub pieces_of : List ℕ → List (List ℕ)
pieces_of [] = [] ∷ []
pieces_of (c ∷ cs) = if c == 44 then [] ∷ pieces_of cs else onto_first c (pieces_of cs)

-- the pieces of a text: none where it is empty
abbrev pub text_pieces : List ℕ → List (List ℕ)
text_pieces [] = []
text_pieces (c ∷ cs) = pieces_of (c ∷ cs)

-- the pieces of what is left of a text behind a comma, if one came
abbrev pub pieces_left : Option (List ℕ) → List (List ℕ)
pieces_left None = []
pieces_left (Some bytes) = pieces_of bytes

-- the place of the first of the leading 64 pieces that is no word
abbrev pub first_bad : List (List ℕ) → ℕ
first_bad pieces = position_or_len (λ piece. is_none (read_word piece)) (take 64 pieces)

-- the first byte of the piece at a place
abbrev pub start_of : List (List ℕ) → ℕ → ℕ
start_of pieces place = sum_by (λ piece. length piece + 1) (take place pieces)

-- the script that pieces are, or their first fault
abbrev pub script_of_pieces : List (List ℕ) → Result ScriptState ScriptFault
script_of_pieces pieces =
    if nat_lt (first_bad pieces) (length (take 64 pieces)) then Err (BadWord (start_of pieces (first_bad pieces)))
    else if nat_lt 64 (length pieces) then Err TooLong
    else Ok (fresh_script (filter_map read_word pieces))

-- the script that a text is, or its first fault
abbrev pub script_of : List ℕ → Result ScriptState ScriptFault
script_of text = script_of_pieces (text_pieces text)
