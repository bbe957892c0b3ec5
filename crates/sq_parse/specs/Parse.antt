-- For the laws and proofs of the parser: what reading a text from left to right gives, and that this is what its tokens
-- spell, or its fault.
use Rattle.std.specs.Prelude.{◌≡◌, ◌≢◌, ◌↔◌, ℕ, List, [], ◌∷◌, length, Result, Ok, Err}
use Rattle.std.specs.Str.{IsUtf8}
use Rattle.sq_parse.specs.declared.stop.Stop.{Stop}
use Rattle.sq_parse.specs.declared.stop.Stop.TheVariants as stop
use Rattle.sq_parse.specs.declared.parser.ParseFault.{ParseFault}
use Rattle.sq_parse.specs.declared.parser.ParseFault.TheVariants as fault
use Rattle.sq_parse.specs.declared.tree.Script.{Script}
use Rattle.sq_token.specs.Form.{Text}
use Rattle.sq_token.specs.Tok.{Tok, toks}
use Rattle.sq_parse.specs.Grammar.{shipped}
use Rattle.sq_parse.specs.Spelling.{Spelled}
use Rattle.sq_parse.specs.Fault.{IsFault}
use Rattle.sq_parse.specs.Reading.{Outcome}
use Rattle.sq_parse.specs.Reader as read

-- the place where reading stopped: that of the next token, or the end
abbrev pub place_in : ℕ → List Tok → ℕ
place_in end [] = end
place_in end (t ∷ ts) = t.at

abbrev pub fault_at : Stop → ℕ → ParseFault
fault_at stop.Memory at = fault.Memory
fault_at stop.Syntax at = fault.Syntax at
fault_at stop.NumberTooLarge at = fault.NumberTooLarge at
fault_at stop.TooDeep at = fault.TooDeep at
fault_at stop.TooManyStatements at = fault.TooManyStatements at

abbrev pub answer_of : ℕ → Outcome Script → Result Script ParseFault
answer_of end (Ok p) = Ok p.0
answer_of end (Err e) = Err (fault_at e.0 (place_in end e.1))

-- what reading a text from left to right gives
unfoldable pub parsed : Text → Result Script ParseFault
parsed z = answer_of (length z) (read.script shipped 64 63 (toks 0 z))

-- that answer, unless memory fails
abbrev pub Answers : Text → Result Script ParseFault → Type 0
Answers z (Ok s) = parsed z ≡ Ok s
Answers z (Err f) = f ≢ fault.Memory → parsed z ≡ Err f

-- reading a text answers a tree exactly where the tokens spell it
abbrev pub TreeIsRead : Type 0
TreeIsRead = (z : Text) (s : Script) → ((parsed z ≡ Ok s) ↔ Spelled z s)

-- reading a text of UTF-8 answers a fault exactly where it is the fault of the text
abbrev pub FaultIsRead : Type 0
FaultIsRead = (z : Text) → IsUtf8 z → (f : ParseFault) → ((parsed z ≡ Err f) ↔ IsFault z f)
