use Rattle.std.proofs.Common.{◌≡◌, ◌≢◌, ℕ, List, [], ◌∷◌, false, Result, Ok, Err, length, IfOk, MatchResult, refl, ap, sym, ◌∙◌}
use Rattle.sq_parse.specs.declared.stop.Stop.{Stop}
use Rattle.sq_parse.specs.declared.stop.Stop.TheVariants as stop
use Rattle.sq_parse.specs.declared.parser.ParseFault.{ParseFault}
use Rattle.sq_parse.specs.declared.parser.ParseFault.TheVariants as fault
use Rattle.sq_parse.specs.declared.tree.Script.{Script}
use Rattle.sq_token.specs.Form.{Text}
use Rattle.sq_token.specs.Tok.{Tok, toks, head, done}
use Rattle.sq_parse.specs.Grammar.{shipped}
use Rattle.sq_parse.specs.Reading.{Outcome}
use Rattle.sq_parse.specs.Reader as read
use Rattle.sq_parse.specs.Spelling.{Spelled}
use Rattle.sq_parse.specs.Parse.{place_in, fault_at, answer_of, parsed, Answers}
use Rattle.sq_parse.proofs.Shrinking.{nested}
use Rattle.sq_parse.proofs.StatementsExact.{script_takes, script_again}

taken : (end : ℕ) (o : Outcome Script) (s : Script) → answer_of end o ≡ Ok s → (rest : List Tok) × (o ≡ Ok (s, rest))
taken end (Ok p) s e = (p.1, ap (λ t. Ok (t, p.1)) (let inner : p.0 ≡ s = cc in inner))
taken end (Err f) s e = cc

pub spelled_by : (z : Text) (s : Script) → parsed z ≡ Ok s → Spelled z s
unfolding parsed
spelled_by z s e =
    let o = taken (length z) (read.script shipped 64 63 (toks 0 z)) s e in
    script_takes shipped nested 64 63 (toks 0 z) s o.0 o.1

pub parsed_by : (z : Text) (s : Script) → Spelled z s → parsed z ≡ Ok s
unfolding parsed
parsed_by z s h = ap (answer_of (length z)) (script_again shipped nested 64 63 (toks 0 z) s h.0 h.1)

never : {f : ParseFault} {s : Script} → ◌≡◌ {A = Result Script ParseFault} (Err f) (Ok s) → ⊥
never e = cc

pub answers_every : (z : Text) (s : Script) (r : Result Script ParseFault) → Answers z r → Spelled z s → MatchResult r (λ found. found ≡ s) (λ f. f ≡ fault.Memory)
answers_every z s (Ok found) a h = let e : ◌≡◌ {A = Result Script ParseFault} (Ok found) (Ok s) = sym a ∙ parsed_by z s h in cc
answers_every z s (Err fault.Memory) a h = refl
answers_every z s (Err (fault.NotUtf8 at)) a h = absurd (never (sym (a (λ e. cc)) ∙ parsed_by z s h))
answers_every z s (Err (fault.Syntax at)) a h = absurd (never (sym (a (λ e. cc)) ∙ parsed_by z s h))
answers_every z s (Err (fault.NumberTooLarge at)) a h = absurd (never (sym (a (λ e. cc)) ∙ parsed_by z s h))
answers_every z s (Err (fault.TooDeep at)) a h = absurd (never (sym (a (λ e. cc)) ∙ parsed_by z s h))
answers_every z s (Err (fault.TooManyStatements at)) a h = absurd (never (sym (a (λ e. cc)) ∙ parsed_by z s h))

pub answers_spelled : (z : Text) (r : Result Script ParseFault) → Answers z r → IfOk r (λ s. Spelled z s)
answers_spelled z (Ok s) a = spelled_by z s a
answers_spelled z (Err f) a = tt

-- what reading gives is the answer
pub answers_tree : (z : Text) (s : Script) (rest : List Tok) → read.script shipped 64 63 (toks 0 z) ≡ Ok (s, rest) → Answers z (Ok s)
unfolding parsed
answers_tree z s rest e = ap (answer_of (length z)) e

-- so is why it stops, at the place where it does
pub answers_stop : (z : Text) (s : Stop) (rest : List Tok) (at : ℕ) (f : ParseFault) → (s ≢ stop.Memory → read.script shipped 64 63 (toks 0 z) ≡ Err (s, rest))
    → at ≡ place_in (length z) rest → f ≡ fault_at s at → Answers z (Err f)
unfolding parsed
answers_stop z s rest at f stops place is = λ other.
    let end : fault_at s (place_in (length z) rest) ≡ f = ap (fault_at s) (sym place) ∙ sym is in
    ap (answer_of (length z)) (stops (λ e. other (is ∙ ap (λ t. fault_at t at) e))) ∙ ap Err end

-- where a token is left, reading stopped there
pub place_ahead : (end : ℕ) (ts : List Tok) → done ts ≡ false → (head ts).at ≡ place_in end ts
place_ahead end [] h = absurd cc
place_ahead end (t ∷ ts) h = refl
