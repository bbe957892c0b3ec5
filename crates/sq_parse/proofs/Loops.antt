-- Loops that read items one by one read what `many` reads.
use Rattle.std.proofs.Common.{◌≡◌, ◌≢◌, Bool, true, false, cond, ℕ, zero, suc, ◌+◌, ◌<◌, ◌≤◌, List, [], ◌∷◌, ◌++◌, length, drop, length-append, Result, Ok, Err, refl, ap, sym, ◌∙◌, append_assoc, append-nil, arith}
use Rattle.std.proofs.lemmas.List.{drop-append-le}
use Rattle.sq_token.specs.declared.mark.Mark.{Mark}
use Rattle.sq_token.specs.declared.mark.Mark.TheVariants as k
use Rattle.sq_parse.specs.declared.stop.Stop.{Stop}
use Rattle.sq_parse.specs.declared.stop.Stop.TheVariants as stop
use Rattle.std.specs.Result.{IsErrAnd}
use Rattle.sq_token.specs.Mark.{is}
use Rattle.sq_token.specs.Tok.{Tok, head, next, behind}
use Rattle.sq_parse.specs.Reading.{Parser, Outcome, and_then, pure, choose, many_within, many, after, list_of, Reads, ReadsMore, ◌>>=◌, ◌<$>◌}
use Rattle.sq_parse.proofs.Exact.{Exact, Full}

-- what is read takes a token at least
abbrev pub Shrinks : {A : Type 0} → Parser A → Type 0
Shrinks {A} p = (ts : List Tok) (a : A) (rest : List Tok) → p ts ≡ Ok (a, rest) → length rest < length ts

pub Shrinks-exact : {A : Type 0} {l : List Tok → A → Type 0} {p : Parser A} {s f : Mark → Bool} → Exact l p s f → Full l → Shrinks p
Shrinks-exact x full ts a rest e =
    let t = x.takes ts a rest e in
    let one = full t.0 a t.1 in
    let both : length ts ≡ length t.0 + length rest = ap length t.2 ∙ length-append t.0 rest in
    omega arith

module _ {A : Type 0} (test : Mark → Bool) (p : Parser A) (real : test k.End ≡ false) (shrinks : Shrinks p) where
  alike : (n m : ℕ) → ((rest : List Tok) → length rest ≤ n → length rest ≤ m → many_within test p n rest ≡ many_within test p m rest)
      → (ts : List Tok) → length ts ≤ suc n → length ts ≤ suc m → (o : Outcome A) → p ts ≡ o
      → and_then o (λ x. (λ more. x ∷ more) <$> many_within test p n) ≡ and_then o (λ x. (λ more. x ∷ more) <$> many_within test p m)
  alike n m others ts a b (Ok c) e = let less : length c.1 < length ts = shrinks ts c.0 c.1 e in
      ap (λ i. and_then i (λ more. pure (c.0 ∷ more))) (others c.1 (omega arith) (omega arith))
  alike n m others ts a b (Err s) e = refl

  enough : (n m : ℕ) (ts : List Tok) → length ts ≤ n → length ts ≤ m → many_within test p n ts ≡ many_within test p m ts
  enough zero zero ts a b = refl
  enough zero (suc m) [] a b = rw real refl
  enough zero (suc m) (t ∷ ts) a b = absurd (omega arith)
  enough (suc n) zero [] a b = rw real refl
  enough (suc n) zero (t ∷ ts) a b = absurd (omega arith)
  enough (suc n) (suc m) ts a b = ap (λ o. cond (test (next ts)) o (pure [] ts)) (alike n m (enough n m) ts a b (p ts) refl)

  -- one step of `many`
  pub many_step : (ts : List Tok) → many test p ts ≡ choose test (p >>= (λ a. (λ more. a ∷ more) <$> many test p)) (pure []) ts
  unfolding many
  many_step [] = rw real refl
  many_step (t ∷ ts) = ap (λ o. cond (test t.mark) o (pure [] (t ∷ ts))) (behind_one (p (t ∷ ts)) refl)
    where
      behind_one : (o : Outcome A) → p (t ∷ ts) ≡ o → and_then o (λ x. (λ more. x ∷ more) <$> many_within test p (length ts)) ≡ and_then o (λ x. (λ more. x ∷ more) <$> many test p)
      behind_one (Ok c) e = let less : length c.1 < length (t ∷ ts) = shrinks (t ∷ ts) c.0 c.1 e in
          ap (λ i. and_then i (λ more. pure (c.0 ∷ more))) (enough (length ts) (length c.1) c.1 (omega arith) (omega arith))
      behind_one (Err s) e = refl

-- with what was read so far in front, the rest gives the whole
pub record ReadSoFar {A : Type 0} (test : Mark → Bool) (p : Parser A) (found₀ : List A) (ts₀ : List Tok) (found : List A) (ts : List Tok) : Type 0 where
  pub front : found ≡ found₀ ++ drop (length found₀) found
  pub whole : many test p ts₀ ≡ and_then (many test p ts) (λ more. pure (drop (length found₀) found ++ more))

drop_all : {A : Type 0} (xs : List A) → drop (length xs) xs ≡ []
drop_all [] = refl
drop_all (x ∷ xs) = drop_all xs

pure_again : {A : Type 0} (o : Outcome (List A)) → o ≡ and_then o (λ more. pure ([] ++ more))
pure_again (Ok c) = refl
pure_again (Err s) = refl

pub so_far_none : {A : Type 0} (test : Mark → Bool) (p : Parser A) (found : List A) (ts : List Tok) → ReadSoFar test p found ts found ts
so_far_none test p found ts = record {
  front = rw (drop_all found) (sym (append-nil found));
  whole = rw (drop_all found) (pure_again (many test p ts));
}

pushed_again : {A : Type 0} (o : Outcome (List A)) (xs : List A) (a : A) → and_then (and_then o (λ more. pure (a ∷ more))) (λ more. pure (xs ++ more)) ≡ and_then o (λ more. pure ((xs ++ a ∷ []) ++ more))
pushed_again (Ok c) xs a = ap (λ ys. Ok (ys, c.1)) (sym (append_assoc xs (a ∷ []) c.0))
pushed_again (Err s) xs a = refl

module _ {A : Type 0} (test : Mark → Bool) (p : Parser A) (real : test k.End ≡ false) (shrinks : Shrinks p) where
  pub so_far_more : (found₀ : List A) (ts₀ : List Tok) (found : List A) (ts : List Tok) (new : List A) (a : A) (rest : List Tok)
      → ReadSoFar test p found₀ ts₀ found ts → test (next ts) ≡ true → p ts ≡ Ok (a, rest) → new ≡ found ++ a ∷ [] → ReadSoFar test p found₀ ts₀ new rest
  so_far_more found₀ ts₀ found ts new a rest r begins one pushed =
      let few : length found₀ ≤ length found = (let e : length found ≡ length found₀ + length (drop (length found₀) found) = ap length r.front ∙ length-append found₀ (drop (length found₀) found) in omega arith) in
      let cut : drop (length found₀) new ≡ drop (length found₀) found ++ a ∷ [] = rw pushed (drop-append-le (length found₀) found (a ∷ []) few) in
      let step : many test p ts ≡ and_then (many test p rest) (λ more. pure (a ∷ more)) = many_step test p real shrinks ts ∙ rw (begins, one) refl in
      record {
        front = rw cut (pushed ∙ (ap (λ z. z ++ a ∷ []) r.front ∙ append_assoc found₀ (drop (length found₀) found) (a ∷ [])));
        whole = rw cut (r.whole ∙ (ap (λ o. and_then o (λ more. pure (drop (length found₀) found ++ more))) step ∙ pushed_again (many test p rest) (drop (length found₀) found) a));
      }

  pub so_far_all : (found₀ : List A) (ts₀ : List Tok) (found : List A) (ts : List Tok) → ReadSoFar test p found₀ ts₀ found ts → test (next ts) ≡ false → ReadsMore found₀ (many test p ts₀) (Ok found) ts
  so_far_all found₀ ts₀ found ts r ends =
      let none : many test p ts ≡ Ok ([], ts) = many_step test p real shrinks ts ∙ rw ends refl in
      (r.front, r.whole ∙ (rw none (ap (λ ys. Ok (ys, ts)) (append-nil (drop (length found₀) found)))))

  pub so_far_fails : (found₀ : List A) (ts₀ : List Tok) (found : List A) (ts : List Tok) (s : Stop) (rest : List Tok) → ReadSoFar test p found₀ ts₀ found ts → test (next ts) ≡ true → p ts ≡ Err (s, rest) → many test p ts₀ ≡ Err (s, rest)
  so_far_fails found₀ ts₀ found ts s rest r begins fails =
      let step : many test p ts ≡ Err (s, rest) = many_step test p real shrinks ts ∙ rw (begins, fails) refl in
      r.whole ∙ rw step refl

  pub so_far_error : (found₀ : List A) (ts₀ : List Tok) (found : List A) (ts : List Tok) (s : Stop) (rest : List Tok) (r : Result (List A) Stop) → IsErrAnd r (λ e. e ≡ s)
      → ReadSoFar test p found₀ ts₀ found ts → test (next ts) ≡ true → (s ≢ stop.Memory → p ts ≡ Err (s, rest)) → ReadsMore found₀ (many test p ts₀) r rest
  so_far_error found₀ ts₀ found ts s rest (Ok x) h r begins fails = absurd h
  so_far_error found₀ ts₀ found ts s rest (Err e) h r begins fails =
      λ other. so_far_fails found₀ ts₀ found ts e rest r begins (rw h (fails (λ is. other (h ∙ is))))

-- ---- lists with a token between

pub after_is : {A : Type 0} (wanted : Mark) (p : Parser A) (ts : List Tok) → is wanted (next ts) ≡ true → after wanted p ts ≡ p (behind ts)
after_is {A = A} wanted p ts e = rw e (again (p (behind ts)))
  where
    again : (o : Outcome A) → and_then {A = Tok × A} (and_then {B = Tok × A} o (λ b. pure (head ts, b))) (λ q. pure q.1) ≡ o
    again (Ok c) = refl
    again (Err s) = refl

pub list_done : {A : Type 0} (wanted : Mark) (p : Parser A) (ts : List Tok) (a : A) (found₀ : List A) (ts₀ : List Tok) (found : List A) (rest : List Tok)
    → p ts ≡ Ok (a, ts₀) → found₀ ≡ a ∷ [] → ReadsMore found₀ (many (is wanted) (after wanted p) ts₀) (Ok found) rest → list_of wanted p ts ≡ Ok (found, rest)
list_done wanted p ts a found₀ ts₀ found rest one first more =
    let drops : drop (length found₀) found ≡ drop 1 found = ap (λ xs. drop (length xs) found) first in
    let all : found ≡ a ∷ drop 1 found = more.0 ∙ (ap (λ xs. xs ++ drop (length found₀) found) first ∙ ap (λ ys. a ∷ ys) drops) in
    rw (one, more.1) (ap (λ ys. Ok (ys, rest)) (ap (λ ys. a ∷ ys) drops ∙ sym all))

pub list_fails : {A : Type 0} (wanted : Mark) (p : Parser A) (ts : List Tok) (a : A) (found₀ : List A) (ts₀ : List Tok) (r : Result (List A) Stop) (s : Stop) (rest : List Tok)
    → p ts ≡ Ok (a, ts₀) → IsErrAnd r (λ e. e ≡ s) → ReadsMore found₀ (many (is wanted) (after wanted p) ts₀) r rest → Reads (list_of wanted p ts) r rest
list_fails wanted p ts a found₀ ts₀ (Ok x) s rest one h more = absurd h
list_fails wanted p ts a found₀ ts₀ (Err e) s rest one h more = λ other. rw (one, more other) refl

-- ---- a loop whose rest is any outcome

pub record MoreSoFar {A : Type 0} (found₀ : List A) (whole : Outcome (List A)) (found : List A) (rest : Outcome (List A)) : Type 0 where
  pub front : found ≡ found₀ ++ drop (length found₀) found
  pub is : whole ≡ and_then rest (λ more. pure (drop (length found₀) found ++ more))

pub more_start : {A : Type 0} (found : List A) (o : Outcome (List A)) → MoreSoFar found o found o
more_start found o = record { front = rw (drop_all found) (sym (append-nil found)); is = rw (drop_all found) (pure_again o) }

pub more_step : {A : Type 0} (found₀ : List A) (whole : Outcome (List A)) (found new : List A) (a : A) (o o' : Outcome (List A))
    → MoreSoFar found₀ whole found o → o ≡ and_then o' (λ more. pure (a ∷ more)) → new ≡ found ++ a ∷ [] → MoreSoFar found₀ whole new o'
more_step found₀ whole found new a o o' r step pushed =
    let few : length found₀ ≤ length found = (let e : length found ≡ length found₀ + length (drop (length found₀) found) = ap length r.front ∙ length-append found₀ (drop (length found₀) found) in omega arith) in
    let cut : drop (length found₀) new ≡ drop (length found₀) found ++ a ∷ [] = rw pushed (drop-append-le (length found₀) found (a ∷ []) few) in
    record {
      front = rw cut (pushed ∙ (ap (λ z. z ++ a ∷ []) r.front ∙ append_assoc found₀ (drop (length found₀) found) (a ∷ [])));
      is = rw cut (r.is ∙ (ap (λ x. and_then x (λ more. pure (drop (length found₀) found ++ more))) step ∙ pushed_again o' (drop (length found₀) found) a));
    }

pub more_done : {A : Type 0} (found₀ : List A) (whole : Outcome (List A)) (found : List A) (o : Outcome (List A)) (ts : List Tok) → MoreSoFar found₀ whole found o → o ≡ Ok ([], ts) → ReadsMore found₀ whole (Ok found) ts
more_done found₀ whole found o ts r none = (r.front, r.is ∙ (rw none (ap (λ ys. Ok (ys, ts)) (append-nil (drop (length found₀) found)))))

pub more_error : {A : Type 0} (found₀ : List A) (whole : Outcome (List A)) (found : List A) (o : Outcome (List A)) (s : Stop) (rest : List Tok) (r : Result (List A) Stop)
    → IsErrAnd r (λ e. e ≡ s) → MoreSoFar found₀ whole found o → (s ≢ stop.Memory → o ≡ Err (s, rest)) → ReadsMore found₀ whole r rest
more_error found₀ whole found o s rest (Ok x) h r fails = absurd h
more_error found₀ whole found o s rest (Err e) h r fails = λ other. r.is ∙ rw (fails (λ is. other (h ∙ is)), h) refl
