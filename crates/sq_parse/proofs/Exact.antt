-- A reading function is exact for a rule where it reads what the rule spells, and all of it.
use Rattle.std.proofs.Common.{◌≡◌, Bool, true, false, ◌&&◌, ◌||◌, cond, ◌⊎◌, inl, inr, ⊎_elim, ℕ, zero, suc, ◌+◌, ◌≤◌, List, [], ◌∷◌, ◌++◌, length, length-append, Option, Some, None, Result, Ok, Err, refl, ap, sym, subst, ◌∙◌, append_assoc, arith}
use Rattle.sq_token.specs.declared.mark.Mark.{Mark}
use Rattle.sq_token.specs.declared.mark.Mark.TheVariants as k
use Rattle.sq_parse.specs.declared.stop.Stop.{Stop}
use Rattle.sq_parse.specs.declared.stop.Stop.TheVariants as stop
use Rattle.sq_token.specs.Mark.{is, same}
use Rattle.sq_token.specs.Tok.{Tok, next}
use Rattle.sq_parse.specs.Rules as rule
use Rattle.sq_parse.specs.Rules.{Rule, Then, ◌⊗◌, ◌⊕◌, ◌⊛◌}
use Rattle.sq_parse.specs.Reading as read
use Rattle.sq_parse.specs.Reading.{Parser, Outcome, and_then, ◌>>=◌, ◌<$>◌, ◌<+>◌}
use Rattle.sq_token.proofs.Marks.{within, within_at, apart, apart_at, and_left, and_right, all_within}

pub record Exact {A : Type 0} (l : List Tok → A → Type 0) (p : Parser A) (starts follow : Mark → Bool) : Type 0 where
  pub takes : (ts : List Tok) (a : A) (rest : List Tok) → p ts ≡ Ok (a, rest) → (us : List Tok) × l us a × (ts ≡ us ++ rest)
  pub again : (us : List Tok) (a : A) (w : List Tok) → l us a → follow (next w) ≡ true → p (us ++ w) ≡ Ok (a, w)
  pub begins : (us : List Tok) (a : A) (w : List Tok) → l us a → follow (next w) ≡ true → starts (next (us ++ w)) ≡ true

-- ---- outcomes

pub Ok-value : {A E : Type 0} {x y : A} → ◌≡◌ {A = Result A E} (Ok x) (Ok y) → x ≡ y
Ok-value e = cc

pub Err-Ok : {A E : Type 0} {x : E} {y : A} → ◌≡◌ {A = Result A E} (Err x) (Ok y) → ⊥
Err-Ok e = cc

pub if_ok : {A : Type 0} (b : Bool) (x y : Outcome A) (v : A × List Tok) → cond b x y ≡ Ok v → ((b ≡ true) × (x ≡ Ok v)) ⊎ ((b ≡ false) × (y ≡ Ok v))
if_ok true x y v e = inl (refl, e)
if_ok false x y v e = inr (refl, e)

pub and_then_ok : {A B : Type 0} (o : Outcome A) (f : A → Parser B) (v : B × List Tok) → and_then o f ≡ Ok v → (a : A) × (ts : List Tok) × (o ≡ Ok (a, ts)) × (f a ts ≡ Ok v)
and_then_ok (Ok p) f v e = (p.0, p.1, refl, e)
and_then_ok (Err x) f v e = absurd (Err-Ok e)

no_true : {b : Bool} → b ≡ true → b ≡ false → ⊥
no_true p q = cc

-- ---- one token

token_takes : (p : Mark → Bool) → p k.End ≡ false → (ts : List Tok) (a : Tok) (rest : List Tok) → read.token p ts ≡ Ok (a, rest) → (us : List Tok) × rule.token p us a × (ts ≡ us ++ rest)
token_takes p none [] a rest e = absurd (Err-Ok (rw none at e))
token_takes p none (t ∷ ts) a rest e =
    ⊎_elim
    (λ h. let pair = Ok-value h.1 in
    let first : t ≡ a = ap (λ z. z.0) pair in
    let others : ts ≡ rest = ap (λ z. z.1) pair in
    (t ∷ [], (ap (λ x. x ∷ []) first, subst (λ x. p x.mark ≡ true) first h.0), ap (λ x. t ∷ x) others))
    (λ h. absurd (Err-Ok h.1))
    (if_ok (p t.mark) (Ok (t, ts)) (Err (stop.Syntax, t ∷ ts)) (a, rest) e)

token_again : (p : Mark → Bool) (us : List Tok) (a : Tok) (w : List Tok) → rule.token p us a → read.token p (us ++ w) ≡ Ok (a, w)
token_again p us a w h = rw (h.0, h.1)

token_begins : (p : Mark → Bool) (us : List Tok) (a : Tok) (w : List Tok) → rule.token p us a → p (next (us ++ w)) ≡ true
token_begins p us a w h = rw h.0 h.1

any : Mark → Bool
any m = true

pub token : (p : Mark → Bool) → p k.End ≡ false → Exact (rule.token p) (read.token p) p (λ _. true)
token p none = record {
  takes = token_takes p none;
  again = λ us a w h _. token_again p us a w h;
  begins = λ us a w h _. token_begins p us a w h;
}

-- ---- sets made larger and smaller

pub weaker : {A : Type 0} {l : List Tok → A → Type 0} {p : Parser A} {s f : Mark → Bool} (s' f' : Mark → Bool) → Exact l p s f → within s s' ≡ true → within f' f ≡ true → Exact l p s' f'
weaker {s = s} {f = f} s' f' x more less = record {
  takes = x.takes;
  again = λ us a w h e. x.again us a w h (within_at f' f less (next w) e);
  begins = λ us a w h e. within_at s s' more _ (x.begins us a w h (within_at f' f less (next w) e));
}

-- ---- a value made of another

gives_takes : {A B : Type 0} {l : List Tok → A → Type 0} {p : Parser A} (f : A → B) → ((ts : List Tok) (a : A) (rest : List Tok) → p ts ≡ Ok (a, rest) → (us : List Tok) × l us a × (ts ≡ us ++ rest))
    → (ts : List Tok) (b : B) (rest : List Tok) → (f <$> p) ts ≡ Ok (b, rest) → (us : List Tok) × ((a : A) × l us a × (f a ≡ b)) × (ts ≡ us ++ rest)
gives_takes {p = p} f takes ts b rest e =
    let o = and_then_ok (p ts) (λ a. read.pure (f a)) (b, rest) e in
    let pair = Ok-value o.3 in
    let t = takes ts o.0 o.1 o.2 in
    (t.0, (o.0, t.1, ap (λ z. z.0) pair), t.2 ∙ ap (λ r. t.0 ++ r) (ap (λ z. z.1) pair))

pub gives : {A B : Type 0} {l : List Tok → A → Type 0} {p : Parser A} {s t : Mark → Bool} (f : A → B) → Exact l p s t → Exact (f ⊛ l) (f <$> p) s t
gives {A} {B} {l} {p} f x = record {
  takes = gives_takes f x.takes;
  again = λ us b w h e. rw (x.again us h.0 w h.1 e) (ap (λ c. Ok (c, w)) h.2);
  begins = λ us b w h e. x.begins us h.0 w h.1 e;
}

-- ---- one and then another

then_takes : {A B : Type 0} {l : List Tok → A → Type 0} {r : List Tok → B → Type 0} {p : Parser A} {q : Parser B}
    → ((ts : List Tok) (a : A) (rest : List Tok) → p ts ≡ Ok (a, rest) → (us : List Tok) × l us a × (ts ≡ us ++ rest))
    → ((ts : List Tok) (b : B) (rest : List Tok) → q ts ≡ Ok (b, rest) → (us : List Tok) × r us b × (ts ≡ us ++ rest))
    → (ts : List Tok) (c : A × B) (rest : List Tok) → (p <+> q) ts ≡ Ok (c, rest) → (us : List Tok) × Then l r us c.0 c.1 × (ts ≡ us ++ rest)
then_takes {l = l} {r = r} {p = p} {q = q} first second ts c rest e =
    let o = and_then_ok (p ts) (λ a. ◌<+>◌ (read.pure a) q) (c, rest) e in
    let i = and_then_ok (q o.1) (λ b. read.pure (o.0, b)) (c, rest) o.3 in
    let pair = Ok-value i.3 in
    let x = first ts o.0 o.1 o.2 in
    let y = second o.1 i.0 i.1 i.2 in
    let made : (o.0, i.0) ≡ c = ap (λ z. z.0) pair in
    let left : i.1 ≡ rest = ap (λ z. z.1) pair in (
      x.0 ++ y.0,
      record { first = x.0; second = y.0; parts = refl; left = subst (λ d. l x.0 d.0) made x.1; right = subst (λ d. r y.0 d.1) made y.1 },
      x.2 ∙ (ap (λ m. x.0 ++ m) (y.2 ∙ ap (λ m. y.0 ++ m) left) ∙ sym (append_assoc x.0 y.0 rest)),
    )

then_again : {A B : Type 0} {l : List Tok → A → Type 0} {r : List Tok → B → Type 0} {p : Parser A} {q : Parser B} {s f s' f' : Mark → Bool}
    → Exact l p s f → Exact r q s' f' → within s' f ≡ true → (us : List Tok) (c : A × B) (w : List Tok) → Then l r us c.0 c.1 → f' (next w) ≡ true → (p <+> q) (us ++ w) ≡ Ok (c, w)
then_again {p = p} {q = q} {f = f} {s' = s'} x y joins us c w h e =
    let meets = within_at s' f joins _ (y.begins h.second c.1 w h.right e) in
    rw (h.parts, append_assoc, x.again h.first c.0 (h.second ++ w) h.left meets, y.again h.second c.1 w h.right e)

pub followed : {A B : Type 0} {l : List Tok → A → Type 0} {r : List Tok → B → Type 0} {p : Parser A} {q : Parser B} {s f s' f' : Mark → Bool}
    → Exact l p s f → Exact r q s' f' → within s' f ≡ true → Exact (l ⊗ r) (p <+> q) s f'
followed {f = f} {s' = s'} x y joins = record {
  takes = then_takes x.takes y.takes;
  again = then_again x y joins;
  begins = λ us c w h e. rw (h.parts, append_assoc) (x.begins h.first c.0 (h.second ++ w) h.left (within_at s' f joins _ (y.begins h.second c.1 w h.right e)));
}

-- ---- one of two

or_left : (a b : Bool) → a ≡ true → (a || b) ≡ true
or_left a b e = rw e refl

or_right : (a b : Bool) → b ≡ true → (a || b) ≡ true
or_right true b e = refl
or_right false b e = e

or_split : (a b : Bool) → (a || b) ≡ true → (a ≡ true) ⊎ (b ≡ true)
or_split true b e = inl refl
or_split false b e = inr e

-- one of two by a test of the tokens, which the first passes and the second doesn't
pub by_test : {A : Type 0} {l r : List Tok → A → Type 0} {p q : Parser A} {s f s' f' : Mark → Bool} (test : List Tok → Bool)
    → Exact l p s f → Exact r q s' f'
    → ((us : List Tok) (a : A) (w : List Tok) → l us a → f (next w) ≡ true → test (us ++ w) ≡ true)
    → ((us : List Tok) (a : A) (w : List Tok) → r us a → f' (next w) ≡ true → test (us ++ w) ≡ false)
    → Exact (l ⊕ r) (λ ts. cond (test ts) (p ts) (q ts)) (λ m. s m || s' m) (λ m. f m && f' m)
by_test {A} {l} {r} {p} {q} {s} {f} {s'} {f'} test x y passes fails = record {
  takes = λ ts a rest e. ⊎_elim
      (λ h. let t = x.takes ts a rest h.1 in (t.0, inl t.1, t.2))
      (λ h. let t = y.takes ts a rest h.1 in (t.0, inr t.1, t.2))
      (if_ok (test ts) (p ts) (q ts) (a, rest) e);
  again = λ us a w h e. again_of us a w h (and_left (f (next w)) (f' (next w)) e) (and_right (f (next w)) (f' (next w)) e);
  begins = λ us a w h e. begins_of us a w h (and_left (f (next w)) (f' (next w)) e) (and_right (f (next w)) (f' (next w)) e);
}
  where
    again_of : (us : List Tok) (a : A) (w : List Tok) → l us a ⊎ r us a → f (next w) ≡ true → f' (next w) ≡ true → cond (test (us ++ w)) (p (us ++ w)) (q (us ++ w)) ≡ Ok (a, w)
    again_of us a w (inl h) e e' = rw (passes us a w h e) (x.again us a w h e)
    again_of us a w (inr h) e e' = rw (fails us a w h e') (y.again us a w h e')

    begins_of : (us : List Tok) (a : A) (w : List Tok) → l us a ⊎ r us a → f (next w) ≡ true → f' (next w) ≡ true → (s (next (us ++ w)) || s' (next (us ++ w))) ≡ true
    begins_of us a w (inl h) e e' = or_left _ _ (x.begins us a w h e)
    begins_of us a w (inr h) e e' = or_right _ _ (y.begins us a w h e')

-- one of two by the next token
pub either : {A : Type 0} {l r : List Tok → A → Type 0} {p q : Parser A} {s f s' f' : Mark → Bool} (test : Mark → Bool)
    → Exact l p s f → Exact r q s' f' → within s test ≡ true → apart s' test ≡ true
    → Exact (l ⊕ r) (read.choose test p q) (λ m. s m || s' m) (λ m. f m && f' m)
either {s = s} {s' = s'} test x y passes fails =
    by_test (λ ts. test (next ts)) x y (λ us a w h e. within_at s test passes _ (x.begins us a w h e)) (λ us a w h e. apart_at s' test fails _ (y.begins us a w h e))

-- ---- one, or nothing

pub maybe : {A : Type 0} {l : List Tok → A → Type 0} {p : Parser A} {s f : Mark → Bool} (test f' : Mark → Bool)
    → Exact l p s f → within s test ≡ true → apart f' test ≡ true → within f' f ≡ true
    → Exact (rule.optional l) (read.optional test p) (λ m. s m || f' m) f'
maybe {A} {l} {p} {s} {f} test f' x passes fails wide = record {
  takes = λ ts a rest e. takes_of ts a rest (if_ok (test (next ts)) ((Some <$> p) ts) (Ok (None, ts)) (a, rest) e);
  again = again_of;
  begins = begins_of;
}
  where
    takes_of : (ts : List Tok) (a : Option A) (rest : List Tok) → ((test (next ts) ≡ true) × ((Some <$> p) ts ≡ Ok (a, rest))) ⊎ ((test (next ts) ≡ false) × (read.pure None ts ≡ Ok (a, rest))) → (us : List Tok) × rule.optional l us a × (ts ≡ us ++ rest)
    takes_of ts a rest (inl h) =
        let t = gives_takes {l = l} Some x.takes ts a rest h.1 in
        (t.0, subst (λ o. rule.optional l t.0 o) t.1.2 t.1.1, t.2)
    takes_of ts a rest (inr h) =
        let pair = Ok-value h.1 in
        let is : None ≡ a = ap (λ z. z.0) pair in
        ([], subst (λ o. rule.optional l [] o) is refl, ap (λ z. z.1) pair)

    again_of : (us : List Tok) (a : Option A) (w : List Tok) → rule.optional l us a → f' (next w) ≡ true → read.optional test p (us ++ w) ≡ Ok (a, w)
    again_of us None w h e = rw (h, apart_at f' test fails (next w) e)
    again_of us (Some a) w h e = rw (within_at s test passes _ (x.begins us a w h (within_at f' f wide _ e)), x.again us a w h (within_at f' f wide _ e))

    begins_of : (us : List Tok) (a : Option A) (w : List Tok) → rule.optional l us a → f' (next w) ≡ true → (s (next (us ++ w)) || f' (next (us ++ w))) ≡ true
    begins_of us None w h e = or_right (s (next (us ++ w))) (f' (next (us ++ w))) (rw h e)
    begins_of us (Some a) w h e = or_left _ _ (x.begins us a w h (within_at f' f wide _ e))

-- ---- any number

-- a rule whose parts take a token at least
abbrev pub Full : {A : Type 0} → (List Tok → A → Type 0) → Type 0
Full {A} l = (us : List Tok) (a : A) → l us a → 1 ≤ length us

pub Full-token : (p : Mark → Bool) → Full (rule.token p)
Full-token p us a h = rw h.0 (omega arith)

pub Full-number : (w : ℕ → Bool) → Full (rule.number w)
Full-number w us a h = rw h.0 (omega arith)

pub Full-gives : {A B : Type 0} {l : List Tok → A → Type 0} (f : A → B) → Full l → Full (f ⊛ l)
Full-gives f full us b h = full us h.0 h.1

pub Full-left : {A B : Type 0} (l : List Tok → A → Type 0) (r : List Tok → B → Type 0) → Full l → Full (l ⊗ r)
Full-left l r full us c h = let n = full h.first c.0 h.left in rw h.parts (omega (arith, length-append h.first h.second))

pub Full-right : {A B : Type 0} (l : List Tok → A → Type 0) (r : List Tok → B → Type 0) → Full r → Full (l ⊗ r)
Full-right l r full us c h = let n = full h.second c.1 h.right in rw h.parts (omega (arith, length-append h.first h.second))

pub Full-either : {A : Type 0} (l r : List Tok → A → Type 0) → Full l → Full r → Full (l ⊕ r)
Full-either l r x y us a (inl h) = x us a h
Full-either l r x y us a (inr h) = y us a h

module _ {A : Type 0} (l : List Tok → A → Type 0) (p : Parser A) (s f test f' : Mark → Bool) (x : Exact l p s f) (passes : within s test ≡ true) (fails : apart f' test ≡ true) (own : within s f ≡ true) (wide : within f' f ≡ true) where
  many_takes : (n : ℕ) (ts : List Tok) (xs : List A) (rest : List Tok) → read.many_within test p n ts ≡ Ok (xs, rest) → (us : List Tok) × rule.many l us xs × (ts ≡ us ++ rest)
  many_takes zero ts xs rest e =
      let pair = Ok-value e in
      ([], subst (λ ys. rule.many l [] ys) (ap (λ z. z.0) pair) refl, ap (λ z. z.1) pair)
  many_takes (suc n) ts xs rest e = ⊎_elim
      (λ h. let o = and_then_ok (p ts) (λ a. ◌<$>◌ (λ more. a ∷ more) (read.many_within test p n)) (xs, rest) h.1 in
      let i = and_then_ok (read.many_within test p n o.1) (λ more. read.pure (o.0 ∷ more)) (xs, rest) o.3 in
      let pair = Ok-value i.3 in
      let one = x.takes ts o.0 o.1 o.2 in
      let others = many_takes n o.1 i.0 i.1 i.2 in (
        one.0 ++ others.0,
        subst (λ ys. rule.many l (one.0 ++ others.0) ys) (ap (λ z. z.0) pair) (one.0, others.0, refl, one.1, others.1),
        one.2 ∙ (ap (λ m. one.0 ++ m) (others.2 ∙ ap (λ m. others.0 ++ m) (ap (λ z. z.1) pair)) ∙ sym (append_assoc one.0 others.0 rest)),
      ))
      (λ h. let pair = Ok-value h.1 in
      ([], subst (λ ys. rule.many l [] ys) (ap (λ z. z.0) pair) refl, ap (λ z. z.1) pair))
      (if_ok (test (next ts)) _ _ (xs, rest) e)

  joins : (m : Mark) → (s m || f' m) ≡ true → f m ≡ true
  joins m e = ⊎_elim (within_at s f own m) (within_at f' f wide m) (or_split (s m) (f' m) e)

  many_begins : (us : List Tok) (xs : List A) (w : List Tok) → rule.many l us xs → f' (next w) ≡ true → (s (next (us ++ w)) || f' (next (us ++ w))) ≡ true
  many_begins us [] w h e = or_right (s (next (us ++ w))) (f' (next (us ++ w))) (rw h e)
  many_begins us (a ∷ more) w h e =
      let meets = joins _ (many_begins h.1 more w h.4 e) in
      or_left (s (next (us ++ w))) (f' (next (us ++ w))) (rw (h.2, append_assoc) (x.begins h.0 a (h.1 ++ w) h.3 meets))

  many_again : Full l → (n : ℕ) (us : List Tok) (xs : List A) (w : List Tok) → length us ≤ n → rule.many l us xs → f' (next w) ≡ true → read.many_within test p n (us ++ w) ≡ Ok (xs, w)
  many_again full zero us [] w fits h e = rw h refl
  many_again full (suc n) us [] w fits h e = rw (h, apart_at f' test fails (next w) e)
  many_again full zero us (a ∷ more) w fits h e =
      let one = full h.0 a h.3 in
      let both : length us ≡ length h.0 + length h.1 = ap length h.2 ∙ length-append h.0 h.1 in
      absurd (omega arith)
  many_again full (suc n) us (a ∷ more) w fits h e =
      let one = full h.0 a h.3 in
      let both : length us ≡ length h.0 + length h.1 = ap length h.2 ∙ length-append h.0 h.1 in
      let less : length h.1 ≤ n = omega arith in
      let meets = joins _ (many_begins h.1 more w h.4 e) in
      let begun : test (next (h.0 ++ (h.1 ++ w))) ≡ true = within_at s test passes _ (x.begins h.0 a (h.1 ++ w) h.3 meets) in
      rw (h.2, append_assoc, begun, x.again h.0 a (h.1 ++ w) h.3 meets, many_again full n h.1 more w less h.4 e)

  pub repeated : Full l → Exact (rule.many l) (read.many test p) (λ m. s m || f' m) f'
  unfolding read.many
  repeated full = record {
    takes = λ ts xs rest e. many_takes (length ts) ts xs rest e;
    again = λ us xs w h e. many_again full (length (us ++ w)) us xs w (omega (arith, length-append us w)) h e;
    begins = many_begins;
  }

-- ---- a number

pub no_number : is k.Number k.End ≡ false
unfolding same
no_number = refl

number_takes : (w : ℕ → Bool) (ts : List Tok) (a : Tok) (rest : List Tok) → read.number w ts ≡ Ok (a, rest) → (us : List Tok) × rule.number w us a × (ts ≡ us ++ rest)
number_takes w [] a rest e = absurd (Err-Ok (rw no_number at e))
number_takes w (t ∷ ts) a rest e =
    ⊎_elim
    (λ h. ⊎_elim
    (λ i. let pair = Ok-value i.1 in
    let first : t ≡ a = ap (λ z. z.0) pair in
    (t ∷ [], (ap (λ x. x ∷ []) first, subst (λ x. is k.Number x.mark ≡ true) first h.0, subst (λ x. w x.number ≡ true) first i.0), ap (λ x. t ∷ x) (ap (λ z. z.1) pair)))
    (λ i. absurd (Err-Ok i.1))
    (if_ok (w t.number) (Ok (t, ts)) (Err (stop.NumberTooLarge, t ∷ ts)) (a, rest) h.1))
    (λ h. absurd (Err-Ok h.1))
    (if_ok (is k.Number t.mark) _ (Err (stop.Syntax, t ∷ ts)) (a, rest) e)

pub number : (w : ℕ → Bool) → Exact (rule.number w) (read.number w) (is k.Number) (λ _. true)
number w = record {
  takes = number_takes w;
  again = λ us a v h _. rw (h.0, h.1, h.2);
  begins = λ us a v h _. rw h.0 h.1;
}

-- ---- forms made of these

pub after : {A : Type 0} {l : List Tok → A → Type 0} {p : Parser A} {s f : Mark → Bool} (wanted : Mark) → is wanted k.End ≡ false → Exact l p s f → Exact (rule.after wanted l) (read.after wanted p) (is wanted) f
after {l = l} {s = s} wanted real x = gives (λ q. q.1) (followed (token (is wanted) real) x (all_within s))

pub Full-after : {A : Type 0} (wanted : Mark) (l : List Tok → A → Type 0) → Full (rule.after wanted l)
Full-after wanted l = Full-gives (λ q. q.1) (Full-left (rule.mark wanted) l (Full-token (is wanted)))

pub swapped : {A : Type 0} {l r : List Tok → A → Type 0} {p : Parser A} {s f : Mark → Bool} → Exact (l ⊕ r) p s f → Exact (r ⊕ l) p s f
swapped x = record {
  takes = λ ts a rest e. let t = x.takes ts a rest e in (t.0, ⊎_elim inr inl t.1, t.2);
  again = λ us a w h e. x.again us a w (⊎_elim inr inl h) e;
  begins = λ us a w h e. x.begins us a w (⊎_elim inr inl h) e;
}

-- ---- one, and then another that depends on what was read

pub record Chain {A B : Type 0} (l : List Tok → A → Type 0) (r : A → List Tok → B → Type 0) (ts : List Tok) (b : B) : Type 0 where
  pub first : List Tok
  pub second : List Tok
  pub between : A
  pub parts : ts ≡ first ++ second
  pub left : l first between
  pub right : r between second b

chain_takes : {A B : Type 0} {l : List Tok → A → Type 0} {r : A → List Tok → B → Type 0} {p : Parser A} {q : A → Parser B}
    → ((ts : List Tok) (a : A) (rest : List Tok) → p ts ≡ Ok (a, rest) → (us : List Tok) × l us a × (ts ≡ us ++ rest))
    → ((a : A) (ts : List Tok) (b : B) (rest : List Tok) → q a ts ≡ Ok (b, rest) → (us : List Tok) × r a us b × (ts ≡ us ++ rest))
    → (ts : List Tok) (b : B) (rest : List Tok) → (p >>= q) ts ≡ Ok (b, rest) → (us : List Tok) × Chain l r us b × (ts ≡ us ++ rest)
chain_takes {p = p} {q = q} first second ts b rest e =
    let o = and_then_ok (p ts) q (b, rest) e in
    let x = first ts o.0 o.1 o.2 in
    let y = second o.0 o.1 b rest o.3 in (
      x.0 ++ y.0,
      record { first = x.0; second = y.0; between = o.0; parts = refl; left = x.1; right = y.1 },
      x.2 ∙ (ap (λ m. x.0 ++ m) y.2 ∙ sym (append_assoc x.0 y.0 rest)),
    )

pub chained : {A B : Type 0} {l : List Tok → A → Type 0} {r : A → List Tok → B → Type 0} {p : Parser A} {q : A → Parser B} {s f s' f' : Mark → Bool}
    → Exact l p s f → ((a : A) → Exact (r a) (q a) s' f') → within s' f ≡ true → Exact (Chain l r) (p >>= q) s f'
chained {A} {B} {l} {r} {p} {q} {s} {f} {s'} {f'} x y joins = record {
  takes = chain_takes x.takes (λ a. (y a).takes);
  again = λ us b w h e.
      let z : Exact (r h.between) (q h.between) s' f' = y h.between in
      let meets = within_at s' f joins _ (z.begins h.second b w h.right e) in
      rw (h.parts, append_assoc, x.again h.first h.between (h.second ++ w) h.left meets) (z.again h.second b w h.right e);
  begins = λ us b w h e.
      let z : Exact (r h.between) (q h.between) s' f' = y h.between in
      rw (h.parts, append_assoc) (x.begins h.first h.between (h.second ++ w) h.left (within_at s' f joins _ (z.begins h.second b w h.right e)));
}

-- ---- the same rule, said otherwise

pub along : {A : Type 0} {l l' : List Tok → A → Type 0} {p : Parser A} {s f : Mark → Bool}
    → ((us : List Tok) (a : A) → l us a → l' us a) → ((us : List Tok) (a : A) → l' us a → l us a) → Exact l' p s f → Exact l p s f
along to from x = record {
  takes = λ ts a rest e. let t = x.takes ts a rest e in (t.0, from t.0 a t.1, t.2);
  again = λ us a w h e. x.again us a w (to us a h) e;
  begins = λ us a w h e. x.begins us a w (to us a h) e;
}

-- ---- what is never read, and what is refused

pub never : {A : Type 0} (l : List Tok → A → Type 0) (why : Stop) (s f : Mark → Bool) → ((us : List Tok) (a : A) → l us a → ⊥) → Exact l (read.refuse why) s f
never l why s f none = record {
  takes = λ ts a rest e. absurd (Err-Ok e);
  again = λ us a w h e. absurd (none us a h);
  begins = λ us a w h e. absurd (none us a h);
}

pub closed : {A : Type 0} {l : List Tok → A → Type 0} {p : Parser A} {s f : Mark → Bool} → Exact l p s f → within (is k.Close) f ≡ true → Exact (rule.enclosed l) (read.enclosed p) (is k.Open) (λ _. true)
unfolding same
closed x meets = after k.Open refl (gives (λ q. q.0) (followed x (token (is k.Close) refl) meets))

pub Full-enclosed : {A : Type 0} (l : List Tok → A → Type 0) → Full (rule.enclosed l)
Full-enclosed l = Full-after k.Open ((λ q. q.0) ⊛ (l ⊗ rule.mark k.Close))

-- one or more, with a token between
pub listed : {A : Type 0} {l : List Tok → A → Type 0} {p : Parser A} {s f : Mark → Bool} (wanted : Mark) (f' : Mark → Bool) → is wanted k.End ≡ false
    → Exact l p s f → within (is wanted) f ≡ true → within f' f ≡ true → apart f' (is wanted) ≡ true → within (λ m. is wanted m || f' m) f ≡ true
    → within (is wanted) (is wanted) ≡ true
    → Exact (rule.separated wanted l) (read.separated wanted p) s f'
listed {l = l} {p = p} {s = s} {f = f} wanted f' real x own wide fails joins self =
    followed x (repeated (rule.after wanted l) (read.after wanted p) (is wanted) f (is wanted) f' (after wanted real x) self fails own wide (Full-after wanted l)) joins

pub list_exact : {A : Type 0} {l : List Tok → A → Type 0} {p : Parser A} {s f : Mark → Bool} (wanted : Mark) (f' : Mark → Bool) → is wanted k.End ≡ false
    → Exact l p s f → within (is wanted) f ≡ true → within f' f ≡ true → apart f' (is wanted) ≡ true → within (λ m. is wanted m || f' m) f ≡ true
    → within (is wanted) (is wanted) ≡ true
    → Exact (rule.list_of wanted l) (read.list_of wanted p) s f'
list_exact wanted f' real x own wide fails joins self = gives (λ p. p.0 ∷ p.1) (listed wanted f' real x own wide fails joins self)

-- ---- the same reader, said otherwise

pub alike : {A : Type 0} {l : List Tok → A → Type 0} {p q : Parser A} {s f : Mark → Bool} → ((ts : List Tok) → p ts ≡ q ts) → Exact l q s f → Exact l p s f
alike same_outcome x = record {
  takes = λ ts a rest e. x.takes ts a rest (sym (same_outcome ts) ∙ e);
  again = λ us a w h e. same_outcome (us ++ w) ∙ x.again us a w h e;
  begins = x.begins;
}

nest_second : {A B C D : Type 0} (o : Outcome B) (c : C) (a : A) (h : C → A → B → D)
    → and_then o (λ b. read.pure (h c a b)) ≡ and_then {A = C × (A × B)} (and_then {A = A × B} {B = C × (A × B)} (and_then {B = A × B} o (λ b. read.pure (a, b))) (λ q. read.pure (c, q))) (λ p. read.pure (h p.0 p.1.0 p.1.1))
nest_second (Ok x) c a h = refl
nest_second (Err e) c a h = refl

-- two parts read one after the other, behind a third
pub nest : {A B C D : Type 0} (o : Outcome A) (m : Parser B) (c : C) (h : C → A → B → D)
    → and_then o (λ a. (λ b. h c a b) <$> m) ≡ and_then {A = C × (A × B)} (and_then {A = A × B} {B = C × (A × B)} (and_then {B = A × B} o (λ a. ◌>>=◌ {B = A × B} m (λ b. read.pure (a, b)))) (λ q. read.pure (c, q))) (λ p. read.pure (h p.0 p.1.0 p.1.1))
nest (Ok x) m c h = nest_second (m x.1) c x.0 h
nest (Err e) m c h = refl
