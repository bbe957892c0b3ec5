-- What reading functions give, step by step, for the functions that call one another.
use Rattle.std.proofs.Common.{◌≡◌, ◌≢◌, true, false, ℕ, zero, suc, ◌-◌, ◌<◌, List, [], ◌∷◌, ◌++◌, length, drop, Result, Ok, Err, refl, ap, sym, ◌∙◌, arith}
use Rattle.std.specs.Result.{IsErrAnd}
use Rattle.sq_token.specs.declared.mark.Mark.{Mark}
use Rattle.sq_token.specs.declared.mark.Mark.TheVariants as k
use Rattle.sq_parse.specs.declared.stop.Stop.{Stop}
use Rattle.sq_parse.specs.declared.stop.Stop.TheVariants as stop
use Rattle.sq_parse.specs.declared.tree.Tree.{Tree}
use Rattle.sq_token.specs.Mark.{is}
use Rattle.sq_token.specs.Tok.{Tok, next, behind, done}
use Rattle.sq_parse.specs.Grammar.{Limits}
use Rattle.sq_parse.specs.Reading.{Parser, Outcome, and_then, pure, after, enclosed, many, separated, Reads, ReadsMore, ◌<$>◌}
use Rattle.sq_parse.specs.Reader as read
use Rattle.sq_parse.proofs.Exact.{Ok-value}
use Rattle.sq_parse.proofs.Loops.{Shrinks, many_step}

-- an error that is handed on
pub hands_on : {A : Type 0} (o : Outcome A) (r : Result A Stop) (s : Stop) (rest : List Tok) → IsErrAnd r (λ e. e ≡ s) → (s ≢ stop.Memory → o ≡ Err (s, rest)) → Reads o r rest
hands_on o (Ok x) s rest h fails = absurd h
hands_on o (Err e) s rest h fails = λ other. rw h (fails (λ is. other (h ∙ is)))

pub after_none : {A : Type 0} (wanted : Mark) (p : Parser A) (ts : List Tok) → is wanted (next ts) ≡ false → after wanted p ts ≡ Err (stop.Syntax, ts)
after_none wanted p ts e = rw e refl

pub enclosed_ok : {A : Type 0} (p : Parser A) (ts : List Tok) (a : A) (u : List Tok) → is k.Open (next ts) ≡ true → p (behind ts) ≡ Ok (a, u) → is k.Close (next u) ≡ true → enclosed p ts ≡ Ok (a, behind u)
enclosed_ok p ts a u opens inner close = rw (opens, inner, close) refl

pub enclosed_fails : {A : Type 0} (p : Parser A) (ts : List Tok) (s : Stop) (u : List Tok) → is k.Open (next ts) ≡ true → p (behind ts) ≡ Err (s, u) → enclosed p ts ≡ Err (s, u)
enclosed_fails p ts s u opens inner = rw (opens, inner) refl

pub enclosed_unclosed : {A : Type 0} (p : Parser A) (ts : List Tok) (a : A) (u : List Tok) → is k.Open (next ts) ≡ true → p (behind ts) ≡ Ok (a, u) → is k.Close (next u) ≡ false → enclosed p ts ≡ Err (stop.Syntax, u)
enclosed_unclosed p ts a u opens inner close = rw (opens, inner, close) refl

-- ---- by depth

module _ (limits : Limits) where
  pub denied_none : (d : ℕ) (ts : List Tok) → d ≡ 0 → read.denied limits d ts ≡ Err (stop.TooDeep, ts)
  unfolding read.denied
  denied_none zero ts e = refl
  denied_none (suc d) ts e = absurd (omega arith)

  pub denied_more : (d : ℕ) (ts : List Tok) → 0 < d → read.denied limits d ts ≡ after k.Not (read.neg limits (d - 1)) ts
  unfolding read.denied
  denied_more zero ts e = absurd (omega arith)
  denied_more (suc d) ts e = let same : suc d - 1 ≡ d = omega arith in rw same refl

  pub nested_none : (d : ℕ) (ts : List Tok) → d ≡ 0 → read.nested limits d ts ≡ Err (stop.TooDeep, ts)
  unfolding read.nested
  nested_none zero ts e = refl
  nested_none (suc d) ts e = absurd (omega arith)

  pub nested_more : (d : ℕ) (ts : List Tok) → 0 < d → read.nested limits d ts ≡ enclosed (read.condition limits (d - 1)) ts
  unfolding read.nested read.condition
  nested_more zero ts e = absurd (omega arith)
  nested_more (suc d) ts e = let same : suc d - 1 ≡ d = omega arith in rw same refl

  pub neg_is : (d : ℕ) (ts : List Tok) → read.neg limits d ts ≡ read.negation limits (read.denied limits d) (read.nested limits d) ts
  unfolding read.neg read.denied read.nested
  neg_is zero ts = refl
  neg_is (suc d) ts = refl

-- ---- one part, or more with a token between

module _ (wanted : Mark) (p : Parser Tree) (f : Tree → List Tree → Tree) (real : is wanted k.End ≡ false) (shrinks : Shrinks (after wanted p)) where
  abbrev parts : Parser Tree
  parts = (λ q. f q.0 q.1) <$> separated wanted p

  pub part_alone : (ts : List Tok) (a : Tree) (u : List Tok) → p ts ≡ Ok (a, u) → is wanted (next u) ≡ false → parts ts ≡ Ok (f a [], u)
  part_alone ts a u one ends =
      let none : many (is wanted) (after wanted p) u ≡ Ok ([], u) = many_step (is wanted) (after wanted p) real shrinks u ∙ rw ends refl in
      rw (one, none) refl

  pub part_fails : (ts : List Tok) (s : Stop) (u : List Tok) → p ts ≡ Err (s, u) → parts ts ≡ Err (s, u)
  part_fails ts s u one = rw one refl

  pub more_fails : (ts : List Tok) (a : Tree) (u : List Tok) (s : Stop) (v : List Tok) → p ts ≡ Ok (a, u) → many (is wanted) (after wanted p) u ≡ Err (s, v) → parts ts ≡ Err (s, v)
  more_fails ts a u s v one others = rw (one, others) refl

  some_more : (u : List Tok) (xs : List Tree) (v : List Tok) → is wanted (next u) ≡ true → many (is wanted) (after wanted p) u ≡ Ok (xs, v) → (y : Tree) × (ys : List Tree) × (xs ≡ y ∷ ys)
  some_more u xs v begins e = by (after wanted p u) (sym (many_step (is wanted) (after wanted p) real shrinks u ∙ rw begins refl) ∙ e)
    where
      behind_one : (y : Tree) (o : Outcome (List Tree)) → and_then o (λ more. pure (y ∷ more)) ≡ Ok (xs, v) → (z : Tree) × (ys : List Tree) × (xs ≡ z ∷ ys)
      behind_one y (Ok c) i = (y, c.0, sym (ap (λ q. q.0) (Ok-value i)))
      behind_one y (Err s) i = cc

      by : (o : Outcome Tree) → and_then o (λ y. (λ more. y ∷ more) <$> many (is wanted) (after wanted p)) ≡ Ok (xs, v) → (z : Tree) × (ys : List Tree) × (xs ≡ z ∷ ys)
      by (Ok c) i = behind_one c.0 (many (is wanted) (after wanted p) c.1) i
      by (Err s) i = cc

  pub part_more : (c : List Tree → Tree) → ((x y : Tree) (ys : List Tree) → f x (y ∷ ys) ≡ c (x ∷ y ∷ ys)) → (ts : List Tok) (a : Tree) (u found₀_ts : List Tok) (found₀ all : List Tree) (v : List Tok)
      → p ts ≡ Ok (a, u) → is wanted (next u) ≡ true → found₀ ≡ a ∷ [] → ReadsMore found₀ (many (is wanted) (after wanted p) u) (Ok all) v → parts ts ≡ Ok (c all, v)
  part_more c joins ts a u found₀_ts found₀ all v one begins first more =
      let drops : drop (length found₀) all ≡ drop 1 all = ap (λ xs. drop (length xs) all) first in
      let whole : all ≡ a ∷ drop 1 all = more.0 ∙ (ap (λ xs. xs ++ drop (length found₀) all) first ∙ ap (λ ys. a ∷ ys) drops) in
      let others : many (is wanted) (after wanted p) u ≡ Ok (drop 1 all, v) = more.1 ∙ ap (λ ys. Ok (ys, v)) drops in
      let some = some_more u (drop 1 all) v begins others in
      let joined : f a (drop 1 all) ≡ c all = ap (λ ys. f a ys) some.2 ∙ (joins a some.0 some.1 ∙ ap (λ ys. c (a ∷ ys)) (sym some.2) ∙ ap c (sym whole)) in
      rw (one, others) (ap (λ x. Ok (x, v)) joined)

-- ---- statements

module _ (limits : Limits) (d : ℕ) where
  pub statements_stop : (n : ℕ) (ts : List Tok) → is k.Semicolon (next ts) ≡ false → read.statements limits d n ts ≡ Ok ([], ts)
  unfolding read.statements
  statements_stop zero ts e = rw e refl
  statements_stop (suc n) ts e = rw e refl

  pub statements_end : (n : ℕ) (ts : List Tok) → is k.Semicolon (next ts) ≡ true → done (behind ts) ≡ true → read.statements limits d n ts ≡ Ok ([], behind ts)
  unfolding read.statements
  statements_end zero ts e f = rw (e, f) refl
  statements_end (suc n) ts e f = rw (e, f) refl

  pub statements_none : (n : ℕ) (ts : List Tok) → n ≡ 0 → is k.Semicolon (next ts) ≡ true → done (behind ts) ≡ false → read.statements limits d n ts ≡ read.no_more limits (behind ts)
  unfolding read.statements
  statements_none zero ts z e f = rw (e, f) refl
  statements_none (suc n) ts z e f = absurd (omega arith)

  pub statements_more : (n : ℕ) (ts : List Tok) → 0 < n → is k.Semicolon (next ts) ≡ true → done (behind ts) ≡ false
      → read.statements limits d n ts ≡ and_then (read.statement limits d (behind ts)) (λ s. (λ more. s ∷ more) <$> read.statements limits d (n - 1))
  unfolding read.statements
  statements_more zero ts z e f = absurd (omega arith)
  statements_more (suc n) ts z e f = let same : suc n - 1 ≡ n = omega arith in rw (e, f, same) refl
