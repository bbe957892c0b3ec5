-- Why a text is no script, and where: the faults of a text, the first of them, and what a text reads as.
use Rattle.std.specs.Prelude.{◌≡◌, ◌⊎◌, ◌≤◌, ◌<◌, ℕ, Bool, ◌&&◌, ◌||◌, nat_lt, true, List, [], ◌∷◌, ◌++◌, length, Result, Ok, Err}
use Rattle.std.specs.Str.{IsUtf8}
use Rattle.std.specs.Str.Lossy.{utf8_valid_len}
use Rattle.sq_token.specs.declared.mark.Mark.{Mark}
use Rattle.sq_token.specs.declared.mark.Mark.TheVariants as k
use Rattle.sq_parse.specs.declared.parser.ParseFault.{ParseFault}
use Rattle.sq_parse.specs.declared.parser.ParseFault.TheVariants as fault
use Rattle.sq_parse.specs.declared.tree.Script.{Script}
use Rattle.sq_token.specs.Form.{Text}
use Rattle.sq_token.specs.Mark.{is}
use Rattle.sq_token.specs.Tok.{Tok, toks, next}
use Rattle.sq_parse.specs.Rules.{Rule}
use Rattle.sq_parse.specs.Grammar as g
use Rattle.sq_parse.specs.Spelling.{Spelled, unlimited, Spells}

-- some script of a kind begins with these tokens
abbrev pub Begins : Rule Script → List Tok → Type 0
Begins spells ts = (more : List Tok) × (s : Script) × spells (ts ++ more) s

-- scripts with at most 64 parentheses and NOTs of a condition open at once, and scripts of at most 64
-- statements; no other limit counts
abbrev pub Shallow : Rule Script
Shallow = g.script unlimited 64

abbrev pub Short : Rule Script
Short ts s = Spells ts s × (length s.statements ≤ 64)

-- a token of a list, and those before and behind it
pub record Among (ts : List Tok) : Type 0 where
  pub before : List Tok
  pub token : Tok
  pub behind : List Tok
  pub parts : ts ≡ before ++ token ∷ behind

-- the tokens up to and with that one
abbrev pub up_to : {ts : List Tok} → Among ts → List Tok
up_to found = found.before ++ found.token ∷ []

-- the token at this place is the first with which no script goes on
pub record IsUnexpected (ts : List Tok) (at : ℕ) : Type 0 where
  pub found : Among ts
  pub place : found.token.at ≡ at
  pub begins : Begins Spells found.before
  pub ends : Begins Spells (up_to found) → ⊥

-- the tokens begin a script, and are none
pub record IsUnfinished (ts : List Tok) : Type 0 where
  pub begins : Begins Spells ts
  pub unfinished : (s : Script) → Spells ts s → ⊥

-- the token at this place is the first with which some script goes on, but none of this kind
pub record IsOverLimit (spells : Rule Script) (ts : List Tok) (at : ℕ) : Type 0 where
  pub found : Among ts
  pub place : found.token.at ≡ at
  pub begins : Begins spells found.before
  pub goes_on : Begins Spells (up_to found)
  pub ends : Begins spells (up_to found) → ⊥

-- the mark of the last token, or the given one where there is none
abbrev pub last : Mark → List Tok → Mark
last left [] = left
last left (t ∷ ts) = last t.mark ts

-- whether a number between two tokens is too large: above 9,223,372,036,854,775,807, or beside a `*` above
-- 2,147,483,647
abbrev pub is_large : Mark → ℕ → Mark → Bool
is_large left n right = nat_lt 9223372036854775807 n || (nat_lt 2147483647 n && (is k.Star left || is k.Star right))

-- the token at this place is a number that is too large
pub record IsLarge (ts : List Tok) (at : ℕ) : Type 0 where
  pub found : Among ts
  pub place : found.token.at ≡ at
  pub number : is k.Number found.token.mark ≡ true
  pub large : is_large (last k.End found.before) found.token.number (next found.behind) ≡ true

-- a text has this fault; one that isn't UTF-8 has no other
abbrev pub HasFault : Text → ParseFault → Type 0
HasFault z (fault.NotUtf8 at) = (IsUtf8 z → ⊥) × (at ≡ utf8_valid_len z)
HasFault z (fault.Syntax at) = IsUtf8 z × (IsUnexpected (toks 0 z) at ⊎ ((at ≡ length z) × IsUnfinished (toks 0 z)))
HasFault z (fault.NumberTooLarge at) = IsUtf8 z × IsLarge (toks 0 z) at
HasFault z (fault.TooDeep at) = IsUtf8 z × IsOverLimit Shallow (toks 0 z) at
HasFault z (fault.TooManyStatements at) = IsUtf8 z × IsOverLimit Short (toks 0 z) at
HasFault z fault.Memory = ⊥

-- the place of a fault
abbrev pub fault_place : ParseFault → ℕ
fault_place (fault.NotUtf8 at) = at
fault_place (fault.Syntax at) = at
fault_place (fault.NumberTooLarge at) = at
fault_place (fault.TooDeep at) = at
fault_place (fault.TooManyStatements at) = at
fault_place fault.Memory = 0

-- the number of a fault, which decides at one place
abbrev pub number_of : ParseFault → ℕ
number_of (fault.NotUtf8 at) = 1
number_of (fault.Syntax at) = 2
number_of (fault.NumberTooLarge at) = 3
number_of (fault.TooDeep at) = 4
number_of (fault.TooManyStatements at) = 5
number_of fault.Memory = 6

-- a fault stands before another, or is at its place and of no greater number
abbrev pub IsNoLater : ParseFault → ParseFault → Type 0
IsNoLater f other = (fault_place f < fault_place other)
    ⊎ ((fault_place f ≡ fault_place other) × (number_of f ≤ number_of other))

-- the fault of a text: the one with the least place, and at one place the one with the lower number
pub record IsFault (z : Text) (f : ParseFault) : Type 0 where
  pub has : HasFault z f
  pub first : (other : ParseFault) → HasFault z other → IsNoLater f other

-- what a text reads as: the script that it spells, or its fault
abbrev pub ReadsAs : Text → Result Script ParseFault → Type 0
ReadsAs z (Ok s) = IsUtf8 z × Spelled z s
ReadsAs z (Err f) = IsFault z f

-- each text reads as one thing
abbrev pub OneReading : Type 0
OneReading = (z : Text) → (r : Result Script ParseFault) × ReadsAs z r
    × ((other : Result Script ParseFault) → ReadsAs z other → other ≡ r)
