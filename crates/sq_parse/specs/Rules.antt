-- What the rules of a grammar are made of. A rule says which lists of tokens stand for which values.
use Rattle.std.specs.Prelude.{◌≡◌, Bool, true, ◌⊎◌, ℕ, List, [], ◌∷◌, ◌++◌, Option, Some, None}
use Rattle.sq_token.specs.declared.mark.Mark.{Mark}
use Rattle.sq_token.specs.declared.mark.Mark.TheVariants as k
use Rattle.sq_token.specs.Mark.{is}
use Rattle.sq_token.specs.Tok.{Tok}

abbrev pub Rule : Type 0 → Type 1
Rule A = List Tok → A → Type 0

-- one token that passes a test
abbrev pub token : (Mark → Bool) → Rule Tok
token p ts t = (ts ≡ t ∷ []) × (p t.mark ≡ true)

abbrev pub mark : Mark → Rule Tok
mark wanted = token (is wanted)

-- a number that a bound allows
abbrev pub number : (ℕ → Bool) → Rule Tok
number within ts t = (ts ≡ t ∷ []) × (is k.Number t.mark ≡ true) × (within t.number ≡ true)

-- the tokens are those of one part and then those of another
pub record Then {A B : Type 0} (l : List Tok → A → Type 0) (r : List Tok → B → Type 0) (ts : List Tok) (a : A) (b : B)
    : Type 0 where
  pub first : List Tok
  pub second : List Tok
  pub parts : ts ≡ first ++ second
  pub left : l first a
  pub right : r second b

-- one part and then another
infixr 6 ◌⊗◌
abbrev pub ◌⊗◌ : {A B : Type 0} → Rule A → Rule B → Rule (A × B)
l ⊗ r = λ ts p. Then l r ts p.0 p.1

-- one of two parts
infixr 5 ◌⊕◌
abbrev pub ◌⊕◌ : {A : Type 0} → Rule A → Rule A → Rule A
l ⊕ r = λ ts a. l ts a ⊎ r ts a

-- a part, for a value made of its own
infixr 7 ◌⊛◌
abbrev pub ◌⊛◌ : {A B : Type 0} → (A → B) → Rule A → Rule B
◌⊛◌ {A} f l = λ ts b. (a : A) × l ts a × (f a ≡ b)

-- a part or nothing
abbrev pub optional : {A : Type 0} → Rule A → Rule (Option A)
optional l ts None = ts ≡ []
optional l ts (Some a) = l ts a

-- a part any number of times
abbrev pub many : {A : Type 0} → Rule A → Rule (List A)
many l ts [] = ts ≡ []
many l ts (a ∷ more) = (us : List Tok) × (vs : List Tok) × (ts ≡ us ++ vs) × l us a × many l vs more

-- a part behind a token
abbrev pub after : {A : Type 0} → Mark → Rule A → Rule A
after wanted l = (λ p. p.1) ⊛ (mark wanted ⊗ l)

-- one or more, with a token between
abbrev pub separated : {A : Type 0} → Mark → Rule A → Rule (A × List A)
separated wanted l = l ⊗ many (after wanted l)

abbrev pub list_of : {A : Type 0} → Mark → Rule A → Rule (List A)
list_of wanted l = (λ p. p.0 ∷ p.1) ⊛ separated wanted l

-- a part between parentheses
abbrev pub enclosed : {A : Type 0} → Rule A → Rule A
enclosed l = after k.Open ((λ p. p.0) ⊛ (l ⊗ mark k.Close))

-- no list of tokens
abbrev pub nothing : {A : Type 0} → Rule A
nothing ts a = ⊥
