-- For the laws and proofs of the parser: what reading functions are made of. One answers what it read and the tokens
-- that are left, or why it stopped and the tokens from there on.
use Rattle.std.specs.Prelude.{◌≡◌, ◌≢◌, Bool, true, false, if◌then◌else◌, ℕ, zero, suc, List, [], ◌∷◌, ◌++◌, length, drop, Option, Some, None, Result, Ok, Err}
use Rattle.sq_token.specs.declared.mark.Mark.{Mark}
use Rattle.sq_token.specs.declared.mark.Mark.TheVariants as k
use Rattle.sq_parse.specs.declared.stop.Stop.{Stop}
use Rattle.sq_parse.specs.declared.stop.Stop.TheVariants as stop
use Rattle.sq_token.specs.Mark.{is}
use Rattle.sq_token.specs.Tok.{Tok, head, next, behind}

abbrev pub Outcome : Type 0 → Type 0
Outcome A = Result (A × List Tok) (Stop × List Tok)

abbrev pub Parser : Type 0 → Type 0
Parser A = List Tok → Outcome A

abbrev pub and_then : {A B : Type 0} → Outcome A → (A → Parser B) → Outcome B
and_then (Ok p) f = f p.0 p.1
and_then (Err e) f = Err e

abbrev pub pure : {A : Type 0} → A → Parser A
pure a = λ ts. Ok (a, ts)

abbrev pub refuse : {A : Type 0} → Stop → Parser A
refuse s = λ ts. Err (s, ts)

infixl 10 ◌>>=◌
abbrev pub ◌>>=◌ : {A B : Type 0} → Parser A → (A → Parser B) → Parser B
p >>= f = λ ts. and_then (p ts) f

infixr 11 ◌<$>◌
abbrev pub ◌<$>◌ : {A B : Type 0} → (A → B) → Parser A → Parser B
f <$> p = p >>= (λ x. pure (f x))

-- one and then another
infixr 12 ◌<+>◌
abbrev pub ◌<+>◌ : {A B : Type 0} → Parser A → Parser B → Parser (A × B)
p <+> q = p >>= (λ a. q >>= (λ b. pure (a, b)))

abbrev pub token : (Mark → Bool) → Parser Tok
token p = λ ts. if p (next ts) then Ok (head ts, behind ts) else Err (stop.Syntax, ts)

abbrev pub mark : Mark → Parser Tok
mark wanted = token (is wanted)

abbrev pub number : (ℕ → Bool) → Parser Tok
number within = λ ts.
    if is k.Number (next ts) then (if within (head ts).number then Ok (head ts, behind ts)
    else Err (stop.NumberTooLarge, ts))
    else Err (stop.Syntax, ts)

-- one of two, by the next token
abbrev pub choose : {A : Type 0} → (Mark → Bool) → Parser A → Parser A → Parser A
choose test p q = λ ts. if test (next ts) then p ts else q ts

-- one, where the next token begins it
abbrev pub optional : {A : Type 0} → (Mark → Bool) → Parser A → Parser (Option A)
optional test p = choose test (Some <$> p) (pure None)

abbrev pub many_within : {A : Type 0} → (Mark → Bool) → Parser A → ℕ → Parser (List A)
many_within test p zero = pure []
many_within test p (suc n) = choose test (p >>= (λ a. (λ more. a ∷ more) <$> many_within test p n)) (pure [])

-- as many as the next token begins one; each takes a token, so there are no more than tokens
unfoldable pub many : {A : Type 0} → (Mark → Bool) → Parser A → Parser (List A)
many test p = λ ts. many_within test p (length ts) ts

abbrev pub after : {A : Type 0} → Mark → Parser A → Parser A
after wanted p = (λ q. q.1) <$> (mark wanted <+> p)

abbrev pub separated : {A : Type 0} → Mark → Parser A → Parser (A × List A)
separated wanted p = p <+> many (is wanted) (after wanted p)

abbrev pub list_of : {A : Type 0} → Mark → Parser A → Parser (List A)
list_of wanted p = (λ q. q.0 ∷ q.1) <$> separated wanted p

abbrev pub closed : {A : Type 0} → Parser A → Parser A
closed p = (λ q. q.0) <$> (p <+> mark k.Close)

-- one between parentheses
abbrev pub enclosed : {A : Type 0} → Parser A → Parser A
enclosed p = after k.Open (closed p)

-- What a function that reads ensures: its outcome, unless memory fails.
abbrev pub Reads : {A : Type 0} → Outcome A → Result A Stop → List Tok → Type 0
Reads outcome (Ok a) new = outcome ≡ Ok (a, new)
Reads outcome (Err s) new = s ≢ stop.Memory → outcome ≡ Err (s, new)

-- A function that goes past one token, which is to be this.
abbrev pub Expects : Mark → List Tok → Result (Unit {0}) Stop → List Tok → Type 0
Expects wanted old (Ok done) new = (is wanted (next old) ≡ true) × (new ≡ behind old)
Expects wanted old (Err s) new = (is wanted (next old) ≡ false) × (s ≡ stop.Syntax) × (new ≡ old)

-- What a function that reads more items behind some ensures: those items stay in front.
abbrev pub ReadsMore : {A : Type 0} → List A → Outcome (List A) → Result (List A) Stop → List Tok → Type 0
ReadsMore found outcome (Ok all) new = (all ≡ found ++ drop (length found) all)
    × (outcome ≡ Ok (drop (length found) all, new))
ReadsMore found outcome (Err s) new = s ≢ stop.Memory → outcome ≡ Err (s, new)
