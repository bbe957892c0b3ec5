-- Choices, loops and tests among reading functions, as what they do where they stop.
use Rattle.std.proofs.Common.{◌≡◌, Bool, true, false, not, cond, ◌⊎◌, inl, inr, ⊎_elim, ℕ, zero, suc, ◌+◌, ◌<◌, ◌≤◌, List, [], ◌∷◌, ◌++◌, length, length-append, Option, Some, None, Ok, Err, refl, ap, sym, subst, ◌∙◌, arith}
use Rattle.sq_token.specs.declared.mark.Mark.{Mark}
use Rattle.sq_token.specs.declared.mark.Mark.TheVariants as k
use Rattle.sq_parse.specs.declared.stop.Stop.{Stop}
use Rattle.sq_parse.specs.declared.stop.Stop.TheVariants as stop
use Rattle.sq_token.specs.Mark.{is, same}
use Rattle.sq_token.specs.Tok.{Tok, head, next, behind}
use Rattle.sq_parse.specs.Rules as rule
use Rattle.sq_parse.specs.Rules.{Rule, Then, ◌⊗◌, ◌⊕◌, ◌⊛◌}
use Rattle.sq_parse.specs.Reading as read
use Rattle.sq_parse.specs.Reading.{Parser, Outcome, and_then, ◌>>=◌, ◌<$>◌, ◌<+>◌}
use Rattle.sq_token.proofs.Marks.{within, within_at, apart, apart_at, all_within, within_self}
use Rattle.sq_parse.proofs.Exact.{Chain, Full, Full-after, Ok-value, Err-Ok, and_then_ok}
use Rattle.sq_parse.proofs.Loops.{Shrinks, many_step}
use Rattle.sq_parse.proofs.Places.{fits, view, next_same, next_seen}
use Rattle.sq_parse.proofs.Tracks.{Faults, Stands, Passed, Failed, Tracks, Err-value, Ok-Err, if_is, and_then_err, any, unstarred, weaker, token, along, along_passed, along_failed, alike_passed, alike_failed, gives, given_passed, given_failed, chain_passed, chain_failed, chain_failed_behind, from_chain, followed, after}

-- ---- one of two

pub left_passed : {A : Type 0} {l l' r r' : List Tok → A → Type 0} {p' : Parser A} {pre post : Mark → Bool} {ts rest : List Tok} {a : A} (test : List Tok → Bool) (q' : Parser A) (x : Passed l l' p' pre post ts a rest) → ((w : List Tok) → view rest ≡ view w → test (x.us ++ w) ≡ true) → Passed (l ⊕ r) (l' ⊕ r') (λ ts. cond (test ts) (p' ts) (q' ts)) pre post ts a rest
left_passed test q' x holds = record { us = x.us; parts = x.parts; spelled = inl x.spelled; wide = inl x.wide; again = λ w e. rw (holds w e) (x.again w e); clean = x.clean }

pub right_passed : {A : Type 0} {l l' r r' : List Tok → A → Type 0} {q' : Parser A} {pre post : Mark → Bool} {ts rest : List Tok} {a : A} (test : List Tok → Bool) (p' : Parser A) (x : Passed r r' q' pre post ts a rest) → ((w : List Tok) → view rest ≡ view w → test (x.us ++ w) ≡ false) → Passed (l ⊕ r) (l' ⊕ r') (λ ts. cond (test ts) (p' ts) (q' ts)) pre post ts a rest
right_passed test p' x holds = record { us = x.us; parts = x.parts; spelled = inr x.spelled; wide = inr x.wide; again = λ w e. rw (holds w e) (x.again w e); clean = x.clean }

pub left_failed : {A : Type 0} {l l' r r' : List Tok → A → Type 0} {p' : Parser A} {C : Faults} {pre : Mark → Bool} {ts rest : List Tok} {s : Stop} (test : List Tok → Bool) (q' : Parser A) (x : Failed l l' p' C pre ts s rest) → (C.counts s → (w : List Tok) → view rest ≡ view w → cond (test (x.before ++ w)) (p' (x.before ++ w)) (q' (x.before ++ w)) ≡ Err (s, w))
    → Failed (l ⊕ r) (l' ⊕ r') (λ ts. cond (test ts) (p' ts) (q' ts)) C pre ts s rest
left_failed test q' x holds = record {
  before = x.before;
  parts = x.parts;
  begun = (x.begun.0, x.begun.1, inl x.begun.2);
  further = λ other. let f = x.further other in record { token = f.token; more = f.more; there = f.there; us = f.us; value = f.value; spelled = inl f.spelled };
  again = holds;
  clean = x.clean;
  large = x.large;
  stands = x.stands;
}

pub right_failed : {A : Type 0} {l l' r r' : List Tok → A → Type 0} {q' : Parser A} {C : Faults} {pre : Mark → Bool} {ts rest : List Tok} {s : Stop} (test : List Tok → Bool) (p' : Parser A) (x : Failed r r' q' C pre ts s rest) → (C.counts s → (w : List Tok) → view rest ≡ view w → cond (test (x.before ++ w)) (p' (x.before ++ w)) (q' (x.before ++ w)) ≡ Err (s, w))
    → Failed (l ⊕ r) (l' ⊕ r') (λ ts. cond (test ts) (p' ts) (q' ts)) C pre ts s rest
right_failed test p' x holds = record {
  before = x.before;
  parts = x.parts;
  begun = (x.begun.0, x.begun.1, inr x.begun.2);
  further = λ other. let f = x.further other in record { token = f.token; more = f.more; there = f.there; us = f.us; value = f.value; spelled = inr f.spelled };
  again = holds;
  clean = x.clean;
  large = x.large;
  stands = x.stands;
}

-- the next token alone tells, so what stands behind what was read doesn't matter
pub told : (test : Mark → Bool) (b : Bool) (ts us rest w : List Tok) → ts ≡ us ++ rest → test (next ts) ≡ b → view rest ≡ view w → test (next (us ++ w)) ≡ b
told test b ts us rest w parts e meets = ap test (sym (next_same us rest w (next_seen rest w meets)) ∙ sym (ap next parts)) ∙ e

-- what a reading function does with tokens that pass a test, for a rule that may have more
pub record TracksWhen {A : Type 0} (test : List Tok → Bool) (l l' : List Tok → A → Type 0) (p p' : Parser A) (C : Faults) (pre post : Mark → Bool) : Type 0 where
  pub passes : (ts : List Tok) (a : A) (rest : List Tok) → test ts ≡ true → p ts ≡ Ok (a, rest) → Passed l l' p' pre post ts a rest
  pub fails : (ts : List Tok) (s : Stop) (rest : List Tok) → test ts ≡ true → p ts ≡ Err (s, rest) → Failed l l' p' C pre ts s rest

pub always : {A : Type 0} {test : List Tok → Bool} {l l' : List Tok → A → Type 0} {p p' : Parser A} {C : Faults} {pre post : Mark → Bool} → Tracks l l' p p' C pre post → TracksWhen test l l' p p' C pre post
always x = record { passes = λ ts a rest h e. x.passes ts a rest e; fails = λ ts s rest h e. x.fails ts s rest e }

pub along_when : {A : Type 0} {test : List Tok → Bool} {l l' m m' : List Tok → A → Type 0} {p p' : Parser A} {C : Faults} {pre post : Mark → Bool}
    → ((us : List Tok) (a : A) → l us a → m us a) → ((us : List Tok) (a : A) → l' us a → m' us a) → TracksWhen test l l' p p' C pre post → TracksWhen test m m' p p' C pre post
along_when from from' x = record {
  passes = λ ts a rest h e. along_passed from from' (x.passes ts a rest h e);
  fails = λ ts s rest h e. along_failed from from' (x.fails ts s rest h e);
}

pub gives_when : {A B : Type 0} {test : List Tok → Bool} {l l' : List Tok → A → Type 0} {p p' : Parser A} {C : Faults} {pre post : Mark → Bool} (f : A → B) → TracksWhen test l l' p p' C pre post → TracksWhen test (f ⊛ l) (f ⊛ l') (f <$> p) (f <$> p') C pre post
gives_when {l = l} {l'} {p} {p'} {C} {pre} {post} f x = record {
  passes = λ ts b rest h e.
      let o = and_then_ok (p ts) (λ a. read.pure (f a)) (b, rest) e in
      let pair = Ok-value o.3 in
      subst (λ m. Passed (f ⊛ l) (f ⊛ l') (f <$> p') pre post ts b m) (ap (λ z. z.1) pair) (given_passed f o.0 (ap (λ z. z.0) pair) (x.passes ts o.0 o.1 h o.2));
  fails = λ ts s rest h e. ⊎_elim
      (λ i. given_failed f (x.fails ts s rest h i))
      (λ i. absurd (Ok-Err i.3))
      (and_then_err (p ts) (λ a. read.pure (f a)) (s, rest) e);
}

pub chained_when : {A B : Type 0} {test : List Tok → Bool} {l l' : List Tok → A → Type 0} {r r' : A → List Tok → B → Type 0} {p p' : Parser A} {q q' : A → Parser B} {C : Faults} {pre mid mid' post : Mark → Bool}
    → TracksWhen test l l' p p' C pre mid → ((a : A) → Tracks (r a) (r' a) (q a) (q' a) C mid' post) → within mid mid' ≡ true → TracksWhen test (Chain l r) (Chain l' r') (p >>= q) (p' >>= q') C pre post
chained_when {A} {B} {test} {l} {l'} {r} {r'} {p} {p'} {q} {q'} {C} {pre} {mid} {mid'} {post} x y joins = record {
  passes = λ ts b rest h e.
      let o = and_then_ok (p ts) q (b, rest) e in
      let z : Tracks (r o.0) (r' o.0) (q o.0) (q' o.0) C mid' post = y o.0 in
      chain_passed q' joins o.1 o.0 (x.passes ts o.0 o.1 h o.2) (z.passes o.1 b rest o.3);
  fails = λ ts s rest h e. ⊎_elim
      (λ i. chain_failed q' (λ a. (y a).sample) (x.fails ts s rest h i))
      (λ i. let z : Tracks (r i.0) (r' i.0) (q i.0) (q' i.0) C mid' post = y i.0 in
      chain_failed_behind q' joins i.1 i.0 (x.passes ts i.0 i.1 h i.2) (z.fails i.1 s rest i.3))
      (and_then_err (p ts) q (s, rest) e);
}

pub followed_when : {A B : Type 0} {test : List Tok → Bool} {l l' : List Tok → A → Type 0} {r r' : List Tok → B → Type 0} {p p' : Parser A} {q q' : Parser B} {C : Faults} {pre mid mid' post : Mark → Bool}
    → TracksWhen test l l' p p' C pre mid → Tracks r r' q q' C mid' post → within mid mid' ≡ true → TracksWhen test (l ⊗ r) (l' ⊗ r') (p <+> q) (p' <+> q') C pre post
followed_when {l = l} {l'} {r} {r'} x y joins = along_when (from_chain l r) (from_chain l' r') (chained_when x (λ a. gives (λ b. (a, b)) y) joins)

-- one of two by a test of the tokens, which depends on the next token alone once one was read; what fails at once is to fail so whatever stands behind the next token
module _ {A : Type 0} {l l' r r' : List Tok → A → Type 0} {p p' q q' : Parser A} {C : Faults} {pre post : Mark → Bool} (test : List Tok → Bool) (x : TracksWhen test l l' p p' C pre post) (y : TracksWhen (λ ts. not (test ts)) r r' q q' C pre post) (full_l : Full l) (full_r : Full r)
    (steady : (us rest w : List Tok) → 1 ≤ length us → view rest ≡ view w → test (us ++ rest) ≡ test (us ++ w))
    (at_once : (s : Stop) (rest w : List Tok) → C.counts s → cond (test rest) (p rest) (q rest) ≡ Err (s, rest) → view rest ≡ view w → cond (test w) (p' w) (q' w) ≡ Err (s, w))
    (sampled : (us : List Tok) × (a : A) × (l ⊕ r) us a × (l' ⊕ r') us a) where
  abbrev one_of : Parser A
  one_of = λ ts. cond (test ts) (p ts) (q ts)

  abbrev one_of' : Parser A
  one_of' = λ ts. cond (test ts) (p' ts) (q' ts)

  kept : (b : Bool) (ts us rest w : List Tok) → test ts ≡ b → ts ≡ us ++ rest → 1 ≤ length us → view rest ≡ view w → test (us ++ w) ≡ b
  kept b ts us rest w h parts some m = sym (steady us rest w some m) ∙ (ap test (sym parts) ∙ h)

  not_false : (b : Bool) → b ≡ false → not b ≡ true
  not_false b e = rw e refl

  settled : (b : Bool) (before ts rest : List Tok) (s : Stop) → ts ≡ before ++ rest → one_of ts ≡ Err (s, rest) → test ts ≡ b → C.counts s → (w : List Tok) → view rest ≡ view w → cond b (p' (before ++ w)) (q' (before ++ w)) ≡ Err (s, w) → one_of' (before ++ w) ≡ Err (s, w)
  settled b [] ts rest s parts e h c w m again = at_once s rest w c (subst (λ z. one_of z ≡ Err (s, rest)) parts e) m
  settled b (t ∷ us) ts rest s parts e h c w m again = rw (kept b ts (t ∷ us) rest w h parts (omega arith) m) again

  pub by_test : Tracks (l ⊕ r) (l' ⊕ r') (λ ts. cond (test ts) (p ts) (q ts)) (λ ts. cond (test ts) (p' ts) (q' ts)) C pre post
  by_test = record {
    passes = λ ts a rest e. ⊎_elim
        (λ h. let f = x.passes ts a rest h.0 h.1 in left_passed test q' f (λ w m. kept true ts f.us rest w h.0 f.parts (full_l f.us a f.spelled) m))
        (λ h. let f = y.passes ts a rest (not_false (test ts) h.0) h.1 in right_passed test p' f (λ w m. kept false ts f.us rest w h.0 f.parts (full_r f.us a f.spelled) m))
        (if_is (test ts) (p ts) (q ts) (Ok (a, rest)) e);
    fails = λ ts s rest e. ⊎_elim
        (λ h. let f = x.fails ts s rest h.0 h.1 in left_failed test q' f (λ c w m. settled true f.before ts rest s f.parts e h.0 c w m (f.again c w m)))
        (λ h. let f = y.fails ts s rest (not_false (test ts) h.0) h.1 in right_failed test p' f (λ c w m. settled false f.before ts rest s f.parts e h.0 c w m (f.again c w m)))
        (if_is (test ts) (p ts) (q ts) (Err (s, rest)) e);
    sample = sampled;
  }

both : {A : Type 0} (l : List Tok → A → Type 0) (us : List Tok) (a : A) → l us a ⊎ l us a → l us a
both l us a (inl h) = h
both l us a (inr h) = h

-- one of two by a test of what comes next, both for one rule
pub chosen_by : {A : Type 0} {l l' : List Tok → A → Type 0} {p p' q q' : Parser A} {C : Faults} {pre post : Mark → Bool} (test : List Tok → Bool) → ((us v w : List Tok) → view v ≡ view w → test (us ++ v) ≡ test (us ++ w))
    → TracksWhen test l l' p p' C pre post → TracksWhen (λ ts. not (test ts)) l l' q q' C pre post → (us : List Tok) × (a : A) × l us a × l' us a
    → Tracks l l' (λ ts. cond (test ts) (p ts) (q ts)) (λ ts. cond (test ts) (p' ts) (q' ts)) C pre post
chosen_by {A} {l} {l'} {p} {p'} {q} {q'} {C} {pre} {post} test steady x y sampled = record { passes = passes_of; fails = fails_of; sample = sampled }
  where
    kept : (b : Bool) (ts us rest w : List Tok) → ts ≡ us ++ rest → test ts ≡ b → view rest ≡ view w → test (us ++ w) ≡ b
    kept b ts us rest w parts e m = sym (steady us rest w m) ∙ (ap test (sym parts) ∙ e)

    denied : (b : Bool) → b ≡ false → not b ≡ true
    denied b e = rw e refl

    passes_of : (ts : List Tok) (a : A) (rest : List Tok) → cond (test ts) (p ts) (q ts) ≡ Ok (a, rest) → Passed l l' (λ u. cond (test u) (p' u) (q' u)) pre post ts a rest
    passes_of ts a rest e = ⊎_elim
        (λ h. let f = x.passes ts a rest h.0 h.1 in along_passed (both l) (both l') (left_passed test q' f (λ w m. kept true ts f.us rest w f.parts h.0 m)))
        (λ h. let f = y.passes ts a rest (denied (test ts) h.0) h.1 in along_passed (both l) (both l') (right_passed test p' f (λ w m. kept false ts f.us rest w f.parts h.0 m)))
        (if_is (test ts) (p ts) (q ts) (Ok (a, rest)) e)

    fails_of : (ts : List Tok) (s : Stop) (rest : List Tok) → cond (test ts) (p ts) (q ts) ≡ Err (s, rest) → Failed l l' (λ u. cond (test u) (p' u) (q' u)) C pre ts s rest
    fails_of ts s rest e = ⊎_elim
        (λ h. let f = x.fails ts s rest h.0 h.1 in along_failed (both l) (both l') (left_failed test q' f (λ c w m. rw (kept true ts f.before rest w f.parts h.0 m) (f.again c w m))))
        (λ h. let f = y.fails ts s rest (denied (test ts) h.0) h.1 in along_failed (both l) (both l') (right_failed test p' f (λ c w m. rw (kept false ts f.before rest w f.parts h.0 m) (f.again c w m))))
        (if_is (test ts) (p ts) (q ts) (Err (s, rest)) e)

-- one of two by the next token, both for one rule
pub chosen : {A : Type 0} {l l' : List Tok → A → Type 0} {p p' q q' : Parser A} {C : Faults} {pre post : Mark → Bool} (test : Mark → Bool)
    → TracksWhen (λ ts. test (next ts)) l l' p p' C pre post → Tracks l l' q q' C pre post → Tracks l l' (read.choose test p q) (read.choose test p' q') C pre post
chosen test x y = chosen_by (λ ts. test (next ts)) (λ us v w m. ap test (next_same us v w (next_seen v w m))) x (always y) y.sample

pub either : {A : Type 0} {l l' r r' : List Tok → A → Type 0} {p p' q q' : Parser A} {C : Faults} {pre post : Mark → Bool} (test : Mark → Bool)
    → Tracks l l' p p' C pre post → Tracks r r' q q' C pre post → Tracks (l ⊕ r) (l' ⊕ r') (read.choose test p q) (read.choose test p' q') C pre post
either test x y = chosen test (along_when (λ us a h. inl h) (λ us a h. inl h) (always x)) (along (λ us a h. inr h) (λ us a h. inr h) y)

-- ---- one, or nothing

abbrev pub empty : {A : Type 0} → A → List Tok → A → Type 0
empty v us a = (us ≡ []) × (v ≡ a)

empty_passed : {A : Type 0} (v : A) (pre post : Mark → Bool) → within pre post ≡ true → (ts : List Tok) (a : A) (rest : List Tok) → v ≡ a → ts ≡ rest → Passed (empty v) (empty v) (read.pure v) pre post ts a rest
empty_passed v pre post keeps ts a rest is left = record {
  us = [];
  parts = left;
  spelled = (refl, is);
  wide = (refl, is);
  again = λ w e. ap (λ x. Ok (x, w)) is;
  clean = λ m h. (tt, within_at pre post keeps m h);
}

pub nothing : {A : Type 0} (v : A) (C : Faults) (pre post : Mark → Bool) → within pre post ≡ true → Tracks (empty v) (empty v) (read.pure v) (read.pure v) C pre post
nothing v C pre post keeps = record {
  passes = λ ts a rest e. let pair = Ok-value e in empty_passed v pre post keeps ts a rest (ap (λ z. z.0) pair) (ap (λ z. z.1) pair);
  fails = λ ts s rest e. absurd (Ok-Err e);
  sample = ([], v, (refl, refl), (refl, refl));
}

to_optional : {A : Type 0} (l : List Tok → A → Type 0) (us : List Tok) (o : Option A) → (Some ⊛ l ⊕ empty None) us o → rule.optional l us o
to_optional l us o (inl h) = subst (λ z. rule.optional l us z) h.2 h.1
to_optional l us o (inr h) = subst (λ z. rule.optional l us z) h.1 h.0

pub maybe : {A : Type 0} {l l' : List Tok → A → Type 0} {p p' : Parser A} {C : Faults} {pre post : Mark → Bool} (test : Mark → Bool) → within pre post ≡ true
    → Tracks l l' p p' C pre post → Tracks (rule.optional l) (rule.optional l') (read.optional test p) (read.optional test p') C pre post
maybe {l = l} {l' = l'} {C = C} {pre = pre} {post = post} test keeps x = along (to_optional l) (to_optional l') (either test (gives Some x) (nothing None C pre post keeps))

-- ---- any number

to_many : {A : Type 0} (l : List Tok → A → Type 0) (us : List Tok) (xs : List A) → (Chain l (λ a. (λ more. a ∷ more) ⊛ rule.many l) ⊕ empty []) us xs → rule.many l us xs
to_many l us xs (inl h) = subst (λ z. rule.many l us z) h.right.2 (h.first, h.second, h.parts, h.left, h.right.1)
to_many l us xs (inr h) = subst (λ z. rule.many l us z) h.1 h.0

module _ {A : Type 0} (l l' : List Tok → A → Type 0) (p p' : Parser A) (C : Faults) (pre : Mark → Bool) (test : Mark → Bool) (x : Tracks l l' p p' C pre pre) (none : test k.End ≡ false) (full : Full l) (shrinks : Shrinks p') where
  abbrev one_step : Parser (List A)
  one_step = p' >>= (λ a. (λ more. a ∷ more) <$> read.many test p')

  none_left : (n : ℕ) (ts : List Tok) → length ts ≤ n → n ≡ zero → test (next ts) ≡ false
  none_left n [] fits e = none
  none_left n (t ∷ ts) fits e = absurd (omega arith)

  stopped : (ts : List Tok) (xs : List A) (rest : List Tok) → test (next ts) ≡ false → [] ≡ xs → ts ≡ rest → Passed (rule.many l) (rule.many l') (read.many test p') pre pre ts xs rest
  stopped ts xs rest e made left = along_passed (to_many l) (to_many l') (alike_passed (many_step test p' none shrinks)
      (let f = empty_passed [] pre pre (within_self pre) ts xs rest made left in right_passed (λ u. test (next u)) one_step f (λ w m. told test false ts f.us rest w f.parts e m)))

  many_passes : (n : ℕ) (ts : List Tok) (xs : List A) (rest : List Tok) → length ts ≤ n → read.many_within test p n ts ≡ Ok (xs, rest) → Passed (rule.many l) (rule.many l') (read.many test p') pre pre ts xs rest
  many_passes zero ts xs rest fits e = let pair = Ok-value e in stopped ts xs rest (none_left zero ts fits refl) (ap (λ z. z.0) pair) (ap (λ z. z.1) pair)
  many_passes (suc n) ts xs rest fits e = ⊎_elim
      (λ h. let o = and_then_ok (p ts) (λ a. ◌<$>◌ (λ more. a ∷ more) (read.many_within test p n)) (xs, rest) h.1 in
      let i = and_then_ok (read.many_within test p n o.1) (λ more. read.pure (o.0 ∷ more)) (xs, rest) o.3 in
      let pair = Ok-value i.3 in
      let f = x.passes ts o.0 o.1 o.2 in
      let one = full f.us o.0 f.spelled in
      let both : length ts ≡ length f.us + length o.1 = ap length f.parts ∙ length-append f.us o.1 in
      let g = many_passes n o.1 i.0 i.1 (omega arith) i.2 in
      let c = subst (λ m. Passed (Chain l (λ a. (λ more. a ∷ more) ⊛ rule.many l)) (Chain l' (λ a. (λ more. a ∷ more) ⊛ rule.many l')) one_step pre pre ts xs m) (ap (λ z. z.1) pair)
      (chain_passed (λ a. (λ more. a ∷ more) <$> read.many test p') (within_self pre) o.1 o.0 f (given_passed (λ more. o.0 ∷ more) i.0 (ap (λ z. z.0) pair) g)) in
      along_passed (to_many l) (to_many l') (alike_passed (many_step test p' none shrinks) (left_passed (λ u. test (next u)) (read.pure []) c (λ w m. told test true ts c.us rest w c.parts h.0 m))))
      (λ h. let pair = Ok-value h.1 in stopped ts xs rest h.0 (ap (λ z. z.0) pair) (ap (λ z. z.1) pair))
      (if_is (test (next ts)) _ _ (Ok (xs, rest)) e)

  many_fails : (n : ℕ) (ts : List Tok) (s : Stop) (rest : List Tok) → length ts ≤ n → read.many_within test p n ts ≡ Err (s, rest) → Failed (rule.many l) (rule.many l') (read.many test p') C pre ts s rest
  many_fails zero ts s rest fits e = absurd (Ok-Err e)
  many_fails (suc n) ts s rest fits e = ⊎_elim
      (λ h. let c = ⊎_elim
      (λ i. chain_failed (λ a. (λ more. a ∷ more) <$> read.many test p') (λ a. ([], a ∷ [], ([], refl, refl), ([], refl, refl))) (x.fails ts s rest i))
      (λ o. let f = x.passes ts o.0 o.1 o.2 in
      let one = full f.us o.0 f.spelled in
      let both : length ts ≡ length f.us + length o.1 = ap length f.parts ∙ length-append f.us o.1 in
      ⊎_elim
      (λ i. chain_failed_behind (λ a. (λ more. a ∷ more) <$> read.many test p') (within_self pre) o.1 o.0 f (given_failed (λ more. o.0 ∷ more) (many_fails n o.1 s rest (omega arith) i)))
      (λ i. absurd (Ok-Err i.3))
      (and_then_err (read.many_within test p n o.1) (λ more. read.pure (o.0 ∷ more)) (s, rest) o.3))
      (and_then_err (p ts) (λ a. ◌<$>◌ (λ more. a ∷ more) (read.many_within test p n)) (s, rest) h.1) in
      along_failed (to_many l) (to_many l') (alike_failed (many_step test p' none shrinks) (left_failed (λ u. test (next u)) (read.pure []) c (λ k w m. rw (told test true ts c.before rest w c.parts h.0 m) (c.again k w m)))))
      (λ h. absurd (Ok-Err h.1))
      (if_is (test (next ts)) _ _ (Err (s, rest)) e)

  pub repeated : Tracks (rule.many l) (rule.many l') (read.many test p) (read.many test p') C pre pre
  unfolding read.many
  repeated = record {
    passes = λ ts xs rest e. many_passes (length ts) ts xs rest (omega arith) e;
    fails = λ ts s rest e. many_fails (length ts) ts s rest (omega arith) e;
    sample = ([], [], refl, refl);
  }

-- ---- forms made of these

pub enclosed : {A : Type 0} {l l' : List Tok → A → Type 0} {p p' : Parser A} {C : Faults} → Tracks l l' p p' C unstarred unstarred → Tracks (rule.enclosed l) (rule.enclosed l') (read.enclosed p) (read.enclosed p') C any unstarred
unfolding same
enclosed {C = C} x = after k.Open refl refl refl refl (gives (λ q. q.0) (followed x (token C (is k.Close) unstarred k.Close refl refl refl refl) refl))

pub separated : {A : Type 0} {l l' : List Tok → A → Type 0} {p p' : Parser A} {C : Faults} {keeps : Mark → Bool} (wanted : Mark) → is wanted k.End ≡ false → apart (is wanted) (is k.Number) ≡ true → within (is wanted) keeps ≡ true → is wanted wanted ≡ true
    → Shrinks (read.after wanted p') → Tracks l l' p p' C keeps keeps → Tracks (rule.separated wanted l) (rule.separated wanted l') (read.separated wanted p) (read.separated wanted p') C keeps keeps
separated {l = l} {l'} {p} {p'} {C} {keeps} wanted none plain leaves self shrinks x = followed x
    (repeated (rule.after wanted l) (rule.after wanted l') (read.after wanted p) (read.after wanted p') C keeps (is wanted) (weaker keeps keeps (after wanted none plain leaves self x) (all_within keeps) (within_self keeps)) none
    (Full-after wanted l) shrinks)
    (within_self keeps)

pub list_of : {A : Type 0} {l l' : List Tok → A → Type 0} {p p' : Parser A} {C : Faults} {keeps : Mark → Bool} (wanted : Mark) → is wanted k.End ≡ false → apart (is wanted) (is k.Number) ≡ true → within (is wanted) keeps ≡ true → is wanted wanted ≡ true
    → Shrinks (read.after wanted p') → Tracks l l' p p' C keeps keeps → Tracks (rule.list_of wanted l) (rule.list_of wanted l') (read.list_of wanted p) (read.list_of wanted p') C keeps keeps
list_of wanted none plain leaves self shrinks x = gives (λ p. p.0 ∷ p.1) (separated wanted none plain leaves self shrinks x)

-- what doesn't mind a `*` before it doesn't mind anything else
pub plainly : {A : Type 0} {l l' : List Tok → A → Type 0} {p p' : Parser A} {C : Faults} → Tracks l l' p p' C any unstarred → Tracks l l' p p' C unstarred unstarred
plainly x = weaker unstarred unstarred x (all_within unstarred) (within_self unstarred)

-- ---- what doesn't fail at once

-- before such a token it reads one at least
pub record Moves {A : Type 0} (p : Parser A) (C : Faults) (begins : Mark → Bool) : Type 0 where
  pub goes : (ts : List Tok) (s : Stop) (rest : List Tok) → begins (next ts) ≡ true → C.counts s → p ts ≡ Err (s, rest) → length rest < length ts

pub moves_token : (C : Faults) (p : Mark → Bool) → Moves (read.token p) C p
moves_token C p = record { goes = λ ts s rest h c e. absurd (Ok-Err (rw h at e)) }

pub moves_number : {C : Faults} (w : ℕ → Bool) → Moves (read.number w) C (is k.Number)
moves_number {C} w = record {
  goes = λ ts s rest h c e. ⊎_elim
      (λ i. ⊎_elim (λ j. absurd (Ok-Err j.1)) (λ j. absurd (C.no_number (subst C.counts (sym (ap (λ z. z.0) (Err-value j.1))) c))) (if_is (w (head ts).number) (Ok (head ts, behind ts)) (Err (stop.NumberTooLarge, ts)) (Err (s, rest)) i.1))
      (λ i. absurd (no_both h i.0))
      (if_is (is k.Number (next ts)) _ (Err (stop.Syntax, ts)) (Err (s, rest)) e);
}
  where
    no_both : {b : Bool} → b ≡ true → b ≡ false → ⊥
    no_both x y = cc

pub moves_chain : {A B : Type 0} {p : Parser A} {q : A → Parser B} {C : Faults} {b : Mark → Bool} → Moves p C b → Shrinks p → ((a : A) (ts : List Tok) (s : Stop) (rest : List Tok) → q a ts ≡ Err (s, rest) → length rest ≤ length ts) → Moves (p >>= q) C b
moves_chain {p = p} {q} moves shrinks falls = record {
  goes = λ ts s rest h c e. ⊎_elim
      (λ i. moves.goes ts s rest h c i)
      (λ i. let less : length i.1 < length ts = shrinks ts i.0 i.1 i.2 in
      let more : length rest ≤ length i.1 = falls i.0 i.1 s rest i.3 in
      omega arith)
      (and_then_err (p ts) q (s, rest) e);
}

pub moves_gives : {A B : Type 0} {p : Parser A} {C : Faults} {b : Mark → Bool} (f : A → B) → Moves p C b → Moves (f <$> p) C b
moves_gives {p = p} f moves = record {
  goes = λ ts s rest h c e. ⊎_elim
      (λ i. moves.goes ts s rest h c i)
      (λ i. absurd (Ok-Err i.3))
      (and_then_err (p ts) (λ a. read.pure (f a)) (s, rest) e);
}

pub moves_then : {A B : Type 0} {p : Parser A} {q : Parser B} {C : Faults} {b : Mark → Bool} → Moves p C b → Shrinks p → ((ts : List Tok) (s : Stop) (rest : List Tok) → q ts ≡ Err (s, rest) → length rest ≤ length ts) → Moves (p <+> q) C b
moves_then {A} {B} {p} {q} moves shrinks falls = moves_chain moves shrinks (λ a ts s rest e. ⊎_elim
    (λ i. falls ts s rest i)
    (λ i. absurd (Ok-Err i.3))
    (and_then_err (q ts) (λ b. read.pure (a, b)) (s, rest) e))

pub moves_right : {A : Type 0} {q : Parser A} {C : Faults} {b : Mark → Bool} (test : Mark → Bool) (p : Parser A) → apart b test ≡ true → Moves q C b → Moves (read.choose test p q) C b
moves_right {b = b} test p fails moves = record { goes = λ ts s rest h c e. moves.goes ts s rest h c (rw (apart_at b test fails (next ts) h) at e) }

pub falls : {A : Type 0} {l l' : List Tok → A → Type 0} {p p' : Parser A} {C : Faults} {pre post : Mark → Bool} → Tracks l l' p p' C pre post → (ts : List Tok) (s : Stop) (rest : List Tok) → p ts ≡ Err (s, rest) → length rest ≤ length ts
falls x ts s rest e =
    let f = x.fails ts s rest e in
    let both : length ts ≡ length f.before + length rest = ap length f.parts ∙ length-append f.before rest in
    omega arith

pub shrinks_by : {A : Type 0} {l l' : List Tok → A → Type 0} {p p' : Parser A} {C : Faults} {pre post : Mark → Bool} → Tracks l l' p p' C pre post → Full l → Shrinks p
shrinks_by x full ts a rest e =
    let f = x.passes ts a rest e in
    let one = full f.us a f.spelled in
    let both : length ts ≡ length f.us + length rest = ap length f.parts ∙ length-append f.us rest in
    omega arith

nothing_before : (before rest : List Tok) → rest ≡ before ++ rest → before ≡ []
nothing_before [] rest e = refl
nothing_before (t ∷ us) rest e = let longer : length rest ≡ length (t ∷ us) + length rest = ap length e ∙ length-append (t ∷ us) rest in absurd (omega arith)

-- a fault at once doesn't depend on what stands behind the next token
pub again_at_once : {A : Type 0} {l l' : List Tok → A → Type 0} {p p' : Parser A} {C : Faults} {pre post : Mark → Bool} → Tracks l l' p p' C pre post → (s : Stop) (rest w : List Tok) → C.counts s → p rest ≡ Err (s, rest) → view rest ≡ view w → p' w ≡ Err (s, w)
again_at_once {p' = p'} x s rest w c e m =
    let f = x.fails rest s rest e in
    subst (λ z. p' (z ++ w) ≡ Err (s, w)) (nothing_before f.before rest f.parts) (f.again c w m)

-- ---- what is refused

-- before such a token all is refused, which the wide rule can go on with
pub refused : {A : Type 0} {l l' : List Tok → A → Type 0} {p' : Parser A} {C : Faults} {pre post : Mark → Bool} (test : Mark → Bool) (s : Stop) → test k.End ≡ false → (s ≡ stop.NumberTooLarge → ⊥) → ((m : Mark) → test m ≡ true → Stands s m)
    → ((us : List Tok) × (a : A) × l us a) → (C.owed s → (t : Tok) → test t.mark ≡ true → (us : List Tok) × (a : A) × l' (t ∷ us) a)
    → (C.counts s → (w : List Tok) → test (next w) ≡ true → p' w ≡ Err (s, w)) → TracksWhen (λ ts. test (next ts)) l l' (read.refuse s) p' C pre post
refused {A} {l} {l'} {p'} {C} {pre} {post} test s none other stands sampled goes_on again = record {
  passes = λ ts a rest h e. absurd (Err-Ok e);
  fails = λ ts z rest h e.
      let pair = Err-value e in
      subst (λ (v : Stop × List Tok). Failed l l' p' C pre ts v.0 v.1) pair (at_once ts h);
}
  where
    at_once : (ts : List Tok) → test (next ts) ≡ true → Failed l l' p' C pre ts s ts
    at_once [] h = absurd (no_both h none)
      where
        no_both : {b : Bool} → b ≡ true → b ≡ false → ⊥
        no_both x y = cc
    at_once (t ∷ ts) h = record {
      before = [];
      parts = refl;
      begun = sampled;
      further = λ o. let y = goes_on o t h in record { token = t; more = ts; there = refl; us = y.0; value = y.1; spelled = y.2 };
      again = λ c w e. again c w (ap test (sym (next_seen (t ∷ ts) w e)) ∙ h);
      clean = λ left _. tt;
      large = λ left _ too. absurd (other too);
      stands = stands t.mark h;
    }
