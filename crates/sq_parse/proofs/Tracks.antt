-- What a reading function does where it stops: which part of its rule stands before the fault, what the fault
-- depends on, and that no number before it is too large. A reading function with limits stands beside one without.
use Rattle.std.proofs.Common.{◌≡◌, Bool, true, false, not, cond, ◌⊎◌, inl, inr, ⊎_elim, List, [], ◌∷◌, ◌++◌, Result, Ok, Err, refl, ap, sym, subst, ◌∙◌, append_assoc}
use Rattle.sq_token.specs.declared.mark.Mark.{Mark}
use Rattle.sq_token.specs.declared.mark.Mark.TheVariants as k
use Rattle.sq_parse.specs.declared.stop.Stop.{Stop}
use Rattle.sq_parse.specs.declared.stop.Stop.TheVariants as stop
use Rattle.sq_token.specs.Mark.{is}
use Rattle.sq_token.specs.Tok.{Tok, head, next, behind}
use Rattle.sq_parse.specs.Rules as rule
use Rattle.sq_parse.specs.Rules.{Rule, Then, ◌⊗◌, ◌⊕◌, ◌⊛◌}
use Rattle.sq_parse.specs.Reading as read
use Rattle.sq_parse.specs.Reading.{Parser, Outcome, and_then, ◌>>=◌, ◌<$>◌, ◌<+>◌}
use Rattle.sq_parse.specs.Fault.{last}
use Rattle.sq_token.proofs.Marks.{within, within_at, apart, apart_at, within_self}
use Rattle.sq_parse.proofs.Exact.{Chain, Ok-value, Err-Ok, if_ok, and_then_ok}
use Rattle.sq_parse.proofs.Places.{fits, first, Clean, view, last-append, next-append, next_seen, view_same, Clean-append}

-- what is asked of faults: which don't depend on what stands behind the next token, and behind which the wide rule goes on
pub record Faults : Type 1 where
  pub counts : Stop → Type 0
  pub owed : Stop → Type 0
  pub no_number : counts stop.NumberTooLarge → ⊥
  pub no_syntax : owed stop.Syntax → ⊥

-- what was read: the wide rule too has it, the wide reader reads it before whatever comes next, and no number in it is too large
pub record Passed {A : Type 0} (l l' : List Tok → A → Type 0) (p' : Parser A) (pre post : Mark → Bool) (ts : List Tok) (a : A) (rest : List Tok) : Type 0 where
  pub us : List Tok
  pub parts : ts ≡ us ++ rest
  pub spelled : l us a
  pub wide : l' us a
  pub again : (w : List Tok) → view rest ≡ view w → p' (us ++ w) ≡ Ok (a, w)
  pub clean : (left : Mark) → pre left ≡ true → Clean left us (next rest) × (post (last left us) ≡ true)

-- the next token is there, and behind what was read the wide rule goes on with it
pub record Further {A : Type 0} (l' : List Tok → A → Type 0) (before rest : List Tok) : Type 0 where
  pub token : Tok
  pub more : List Tok
  pub there : rest ≡ token ∷ more
  pub us : List Tok
  pub value : A
  pub spelled : l' (before ++ token ∷ us) value

-- at which token a reading function may stop so; for want of memory it never does
abbrev pub Stands : Stop → Mark → Type 0
Stands stop.Memory m = ⊥
Stands stop.Syntax m = Unit {0}
Stands stop.NumberTooLarge m = Unit {0}
Stands stop.TooDeep m = is k.Number m ≡ false
Stands stop.TooManyStatements m = is k.Number m ≡ false

-- where reading stopped
pub record Failed {A : Type 0} (l l' : List Tok → A → Type 0) (p' : Parser A) (C : Faults) (pre : Mark → Bool) (ts : List Tok) (s : Stop) (rest : List Tok) : Type 0 where
  pub before : List Tok
  pub parts : ts ≡ before ++ rest
  pub begun : (us : List Tok) × (a : A) × l (before ++ us) a
  pub further : C.owed s → Further l' before rest
  pub again : C.counts s → (w : List Tok) → view rest ≡ view w → p' (before ++ w) ≡ Err (s, w)
  pub clean : (left : Mark) → pre left ≡ true → Clean left before (next rest)
  pub large : (left : Mark) → pre left ≡ true → s ≡ stop.NumberTooLarge → fits (last left before) (head rest) (next (behind rest)) ≡ false
  pub stands : Stands s (next rest)

pub record Tracks {A : Type 0} (l l' : List Tok → A → Type 0) (p p' : Parser A) (C : Faults) (pre post : Mark → Bool) : Type 0 where
  pub passes : (ts : List Tok) (a : A) (rest : List Tok) → p ts ≡ Ok (a, rest) → Passed l l' p' pre post ts a rest
  pub fails : (ts : List Tok) (s : Stop) (rest : List Tok) → p ts ≡ Err (s, rest) → Failed l l' p' C pre ts s rest
  pub sample : (us : List Tok) × (a : A) × l us a × l' us a

-- ---- outcomes

pub Err-value : {A E : Type 0} {x y : E} → ◌≡◌ {A = Result A E} (Err x) (Err y) → x ≡ y
Err-value e = cc

pub Ok-Err : {A E : Type 0} {x : A} {y : E} → ◌≡◌ {A = Result A E} (Ok x) (Err y) → ⊥
Ok-Err e = cc

pub if_is : {X : Type 0} (b : Bool) (x y z : X) → cond b x y ≡ z → ((b ≡ true) × (x ≡ z)) ⊎ ((b ≡ false) × (y ≡ z))
if_is true x y z e = inl (refl, e)
if_is false x y z e = inr (refl, e)

pub and_then_err : {A B : Type 0} (o : Outcome A) (f : A → Parser B) (v : Stop × List Tok) → and_then o f ≡ Err v → (o ≡ Err v) ⊎ ((a : A) × (ts : List Tok) × (o ≡ Ok (a, ts)) × (f a ts ≡ Err v))
and_then_err (Ok p) f v e = inr (p.0, p.1, refl, e)
and_then_err (Err x) f v e = inl (ap (λ z. Err z) (Err-value e))

-- ---- sets of marks

abbrev pub any : Mark → Bool
any m = true

abbrev pub unstarred : Mark → Bool
unstarred m = not (is k.Star m)

pub weaker : {A : Type 0} {l l' : List Tok → A → Type 0} {p p' : Parser A} {C : Faults} {pre post : Mark → Bool} (pre' post' : Mark → Bool) → Tracks l l' p p' C pre post → within pre' pre ≡ true → within post post' ≡ true → Tracks l l' p p' C pre' post'
weaker {pre = pre} {post = post} pre' post' x less more = record {
  passes = λ ts a rest e. let y = x.passes ts a rest e in record {
    us = y.us;
    parts = y.parts;
    spelled = y.spelled;
    wide = y.wide;
    again = y.again;
    clean = λ left h. let c = y.clean left (within_at pre' pre less left h) in (c.0, within_at post post' more _ c.1);
  };
  fails = λ ts s rest e. let y = x.fails ts s rest e in record {
    before = y.before;
    parts = y.parts;
    begun = y.begun;
    further = y.further;
    again = y.again;
    clean = λ left h. y.clean left (within_at pre' pre less left h);
    large = λ left h. y.large left (within_at pre' pre less left h);
    stands = y.stands;
  };
  sample = x.sample;
}

pub not_large : stop.Syntax ≡ stop.NumberTooLarge → ⊥
not_large e = cc

-- ---- one token

abbrev pub tok : Mark → Tok
tok m = record { at = 0; mark = m; text = []; number = 0 }

fits_other : (left : Mark) (t : Tok) (right : Mark) → is k.Number t.mark ≡ false → fits left t right ≡ true
fits_other left t right e = rw e refl

module _ (C : Faults) (p : Mark → Bool) (post : Mark → Bool) (m : Mark) (none : p k.End ≡ false) (plain : apart p (is k.Number) ≡ true) (leaves : within p post ≡ true) (sampled : p m ≡ true) where
  token_passed : (ts : List Tok) (a : Tok) (rest : List Tok) → read.token p ts ≡ Ok (a, rest) → Passed (rule.token p) (rule.token p) (read.token p) any post ts a rest
  token_passed [] a rest e = absurd (Err-Ok (rw none at e))
  token_passed (t ∷ ts) a rest e = ⊎_elim
      (λ h. let pair = Ok-value h.1 in
      let first : t ≡ a = ap (λ z. z.0) pair in
      let others : ts ≡ rest = ap (λ z. z.1) pair in
      record {
        us = t ∷ [];
        parts = ap (λ x. t ∷ x) others;
        spelled = (ap (λ x. x ∷ []) first, subst (λ x. p x.mark ≡ true) first h.0);
        wide = (ap (λ x. x ∷ []) first, subst (λ x. p x.mark ≡ true) first h.0);
        again = λ w _. rw h.0 (ap (λ x. Ok (x, w)) first);
        clean = λ left _. ((fits_other left t (next rest) (apart_at p (is k.Number) plain t.mark h.0), tt), within_at p post leaves t.mark h.0);
      })
      (λ h. absurd (Err-Ok h.1))
      (if_ok (p t.mark) (Ok (t, ts)) (Err (stop.Syntax, t ∷ ts)) (a, rest) e)

  token_failed : (ts : List Tok) (s : Stop) (rest : List Tok) → read.token p ts ≡ Err (s, rest) → Failed (rule.token p) (rule.token p) (read.token p) C any ts s rest
  token_failed ts s rest e = ⊎_elim
      (λ h. absurd (Ok-Err h.1))
      (λ h. let pair = Err-value h.1 in
      let which : stop.Syntax ≡ s = ap (λ z. z.0) pair in
      let others : ts ≡ rest = ap (λ z. z.1) pair in
      record {
        before = [];
        parts = others;
        begun = (tok m ∷ [], tok m, (refl, sampled));
        further = λ o. absurd (C.no_syntax (subst C.owed (sym which) o));
        again = λ _ w e'. rw (ap p (sym (ap next others ∙ next_seen rest w e')) ∙ h.0) (ap (λ x. Err (x, w)) which);
        clean = λ left _. tt;
        large = λ left _ large. absurd (not_large (which ∙ large));
        stands = subst (λ z. Stands z (next rest)) which tt;
      })
      (if_is (p (next ts)) (Ok (head ts, behind ts)) (Err (stop.Syntax, ts)) (Err (s, rest)) e)

  pub token : Tracks (rule.token p) (rule.token p) (read.token p) (read.token p) C any post
  token = record { passes = token_passed; fails = token_failed; sample = (tok m ∷ [], tok m, (refl, sampled), (refl, sampled)) }

-- ---- the same rule, and the same reader, said otherwise

pub along_passed : {A : Type 0} {l l' m m' : List Tok → A → Type 0} {p' : Parser A} {pre post : Mark → Bool} {ts rest : List Tok} {a : A}
    → ((us : List Tok) (a : A) → l us a → m us a) → ((us : List Tok) (a : A) → l' us a → m' us a) → Passed l l' p' pre post ts a rest → Passed m m' p' pre post ts a rest
along_passed {a = a} from from' x = record { us = x.us; parts = x.parts; spelled = from x.us a x.spelled; wide = from' x.us a x.wide; again = x.again; clean = x.clean }

pub along_failed : {A : Type 0} {l l' m m' : List Tok → A → Type 0} {p' : Parser A} {C : Faults} {pre : Mark → Bool} {ts rest : List Tok} {s : Stop}
    → ((us : List Tok) (a : A) → l us a → m us a) → ((us : List Tok) (a : A) → l' us a → m' us a) → Failed l l' p' C pre ts s rest → Failed m m' p' C pre ts s rest
along_failed from from' x = record {
  before = x.before;
  parts = x.parts;
  begun = (x.begun.0, x.begun.1, from (x.before ++ x.begun.0) x.begun.1 x.begun.2);
  further = λ other. let f = x.further other in record { token = f.token; more = f.more; there = f.there; us = f.us; value = f.value; spelled = from' (x.before ++ f.token ∷ f.us) f.value f.spelled };
  again = x.again;
  clean = x.clean;
  large = x.large;
  stands = x.stands;
}

pub along : {A : Type 0} {l l' m m' : List Tok → A → Type 0} {p p' : Parser A} {C : Faults} {pre post : Mark → Bool}
    → ((us : List Tok) (a : A) → l us a → m us a) → ((us : List Tok) (a : A) → l' us a → m' us a) → Tracks l l' p p' C pre post → Tracks m m' p p' C pre post
along from from' x = record {
  passes = λ ts a rest e. along_passed from from' (x.passes ts a rest e);
  fails = λ ts s rest e. along_failed from from' (x.fails ts s rest e);
  sample = let y = x.sample in (y.0, y.1, from y.0 y.1 y.2, from' y.0 y.1 y.3);
}

pub alike_passed : {A : Type 0} {l l' : List Tok → A → Type 0} {p' q' : Parser A} {pre post : Mark → Bool} {ts rest : List Tok} {a : A} → ((w : List Tok) → p' w ≡ q' w) → Passed l l' q' pre post ts a rest → Passed l l' p' pre post ts a rest
alike_passed same_outcome x = record { us = x.us; parts = x.parts; spelled = x.spelled; wide = x.wide; again = λ w e. same_outcome (x.us ++ w) ∙ x.again w e; clean = x.clean }

pub alike_failed : {A : Type 0} {l l' : List Tok → A → Type 0} {p' q' : Parser A} {C : Faults} {pre : Mark → Bool} {ts rest : List Tok} {s : Stop} → ((w : List Tok) → p' w ≡ q' w) → Failed l l' q' C pre ts s rest → Failed l l' p' C pre ts s rest
alike_failed same_outcome x = record {
  before = x.before;
  parts = x.parts;
  begun = x.begun;
  further = x.further;
  again = λ c w e. same_outcome (x.before ++ w) ∙ x.again c w e;
  clean = x.clean;
  large = x.large;
  stands = x.stands;
}

pub alike : {A : Type 0} {l l' : List Tok → A → Type 0} {p p' q q' : Parser A} {C : Faults} {pre post : Mark → Bool}
    → ((ts : List Tok) → p ts ≡ q ts) → ((ts : List Tok) → p' ts ≡ q' ts) → Tracks l l' q q' C pre post → Tracks l l' p p' C pre post
alike same_outcome same_outcome' x = record {
  passes = λ ts a rest e. alike_passed same_outcome' (x.passes ts a rest (sym (same_outcome ts) ∙ e));
  fails = λ ts s rest e. alike_failed same_outcome' (x.fails ts s rest (sym (same_outcome ts) ∙ e));
  sample = x.sample;
}

-- ---- a value made of another

pub given_passed : {A B : Type 0} {l l' : List Tok → A → Type 0} {p' : Parser A} {pre post : Mark → Bool} {ts rest : List Tok} {b : B} (f : A → B) (a : A) → f a ≡ b → Passed l l' p' pre post ts a rest → Passed (f ⊛ l) (f ⊛ l') (f <$> p') pre post ts b rest
given_passed f a made x = record {
  us = x.us;
  parts = x.parts;
  spelled = (a, x.spelled, made);
  wide = (a, x.wide, made);
  again = λ w e. rw (x.again w e) (ap (λ c. Ok (c, w)) made);
  clean = x.clean;
}

pub given_failed : {A B : Type 0} {l l' : List Tok → A → Type 0} {p' : Parser A} {C : Faults} {pre : Mark → Bool} {ts rest : List Tok} {s : Stop} (f : A → B) → Failed l l' p' C pre ts s rest → Failed (f ⊛ l) (f ⊛ l') (f <$> p') C pre ts s rest
given_failed f x = record {
  before = x.before;
  parts = x.parts;
  begun = (x.begun.0, f x.begun.1, (x.begun.1, x.begun.2, refl));
  further = λ other. let g = x.further other in record { token = g.token; more = g.more; there = g.there; us = g.us; value = f g.value; spelled = (g.value, g.spelled, refl) };
  again = λ c w e. rw (x.again c w e) refl;
  clean = x.clean;
  large = x.large;
  stands = x.stands;
}

pub gives : {A B : Type 0} {l l' : List Tok → A → Type 0} {p p' : Parser A} {C : Faults} {pre post : Mark → Bool} (f : A → B) → Tracks l l' p p' C pre post → Tracks (f ⊛ l) (f ⊛ l') (f <$> p) (f <$> p') C pre post
gives {l = l} {l'} {p} {p'} {C} {pre} {post} f x = record {
  passes = λ ts b rest e.
      let o = and_then_ok (p ts) (λ a. read.pure (f a)) (b, rest) e in
      let pair = Ok-value o.3 in
      subst (λ m. Passed (f ⊛ l) (f ⊛ l') (f <$> p') pre post ts b m) (ap (λ z. z.1) pair) (given_passed f o.0 (ap (λ z. z.0) pair) (x.passes ts o.0 o.1 o.2));
  fails = λ ts s rest e. ⊎_elim
      (λ h. given_failed f (x.fails ts s rest h))
      (λ h. absurd (Ok-Err h.3))
      (and_then_err (p ts) (λ a. read.pure (f a)) (s, rest) e);
  sample = let y = x.sample in (y.0, f y.1, (y.1, y.2, refl), (y.1, y.3, refl));
}

-- ---- one, and then another that depends on what was read

-- the numbers of the first part, before what was found to come next
meeting : (left : Mark) (us vs m rest : List Tok) → m ≡ vs ++ rest → Clean left us (next m) → Clean left us (first vs (next rest))
meeting left us vs m rest parts c = subst (λ n. Clean left us n) (ap next parts ∙ next-append vs rest) c

pub chain_passed : {A B : Type 0} {l l' : List Tok → A → Type 0} {r r' : A → List Tok → B → Type 0} {p' : Parser A} {pre mid mid' post : Mark → Bool} {ts rest : List Tok} {b : B} (q' : A → Parser B) → within mid mid' ≡ true → (m : List Tok) (a : A) → Passed l l' p' pre mid ts a m → Passed (r a) (r' a) (q' a) mid' post m b rest → Passed (Chain l r) (Chain l' r') (p' >>= q') pre post ts b rest
chain_passed {mid = mid} {mid'} {rest = rest} q' joins m a x y = record {
  us = x.us ++ y.us;
  parts = x.parts ∙ (ap (λ z. x.us ++ z) y.parts ∙ sym (append_assoc x.us y.us rest));
  spelled = record { first = x.us; second = y.us; between = a; parts = refl; left = x.spelled; right = y.spelled };
  wide = record { first = x.us; second = y.us; between = a; parts = refl; left = x.wide; right = y.wide };
  again = λ w e. rw (append_assoc, x.again (y.us ++ w) (ap view y.parts ∙ view_same y.us rest w e)) (y.again w e);
  clean = λ left h.
      let c = x.clean left h in
      let d = y.clean (last left x.us) (within_at mid mid' joins _ c.1) in
      (Clean-append left x.us y.us (next rest) (meeting left x.us y.us m rest y.parts c.0) d.0, rw last-append d.1);
}

pub chain_failed : {A B : Type 0} {l l' : List Tok → A → Type 0} {r r' : A → List Tok → B → Type 0} {p' : Parser A} {C : Faults} {pre : Mark → Bool} {ts rest : List Tok} {s : Stop} (q' : A → Parser B) → ((a : A) → (us : List Tok) × (b : B) × r a us b × r' a us b) → Failed l l' p' C pre ts s rest → Failed (Chain l r) (Chain l' r') (p' >>= q') C pre ts s rest
chain_failed q' sampled x =
    let y = sampled x.begun.1 in
    record {
      before = x.before;
      parts = x.parts;
      begun = (
        x.begun.0 ++ y.0,
        y.1,
        record { first = x.before ++ x.begun.0; second = y.0; between = x.begun.1; parts = sym (append_assoc x.before x.begun.0 y.0); left = x.begun.2; right = y.2 },
      );
      further = λ other.
          let f = x.further other in
          let z = sampled f.value in
          record {
            token = f.token;
            more = f.more;
            there = f.there;
            us = f.us ++ z.0;
            value = z.1;
            spelled = record { first = x.before ++ f.token ∷ f.us; second = z.0; between = f.value; parts = sym (append_assoc x.before (f.token ∷ f.us) z.0); left = f.spelled; right = z.3 };
          };
      again = λ c w e. rw (x.again c w e) refl;
      clean = x.clean;
      large = x.large;
      stands = x.stands;
    }

pub chain_failed_behind : {A B : Type 0} {l l' : List Tok → A → Type 0} {r r' : A → List Tok → B → Type 0} {p' : Parser A} {C : Faults} {pre mid mid' : Mark → Bool} {ts rest : List Tok} {s : Stop} (q' : A → Parser B) → within mid mid' ≡ true → (m : List Tok) (a : A) → Passed l l' p' pre mid ts a m → Failed (r a) (r' a) (q' a) C mid' m s rest → Failed (Chain l r) (Chain l' r') (p' >>= q') C pre ts s rest
chain_failed_behind {mid = mid} {mid'} {rest = rest} q' joins m a x y = record {
  before = x.us ++ y.before;
  parts = x.parts ∙ (ap (λ z. x.us ++ z) y.parts ∙ sym (append_assoc x.us y.before rest));
  begun = (y.begun.0, y.begun.1, record { first = x.us; second = y.before ++ y.begun.0; between = a; parts = append_assoc x.us y.before y.begun.0; left = x.spelled; right = y.begun.2 });
  further = λ other.
      let f = y.further other in
      record {
        token = f.token;
        more = f.more;
        there = f.there;
        us = f.us;
        value = f.value;
        spelled = record { first = x.us; second = y.before ++ f.token ∷ f.us; between = a; parts = append_assoc x.us y.before (f.token ∷ f.us); left = x.wide; right = f.spelled };
      };
  again = λ c w e. rw (append_assoc, x.again (y.before ++ w) (ap view y.parts ∙ view_same y.before rest w e)) (y.again c w e);
  clean = λ left h.
      let c = x.clean left h in
      Clean-append left x.us y.before (next rest) (meeting left x.us y.before m rest y.parts c.0) (y.clean (last left x.us) (within_at mid mid' joins _ c.1));
  large = λ left h is. rw last-append (y.large (last left x.us) (within_at mid mid' joins _ (x.clean left h).1) is);
  stands = y.stands;
}

pub chained : {A B : Type 0} {l l' : List Tok → A → Type 0} {r r' : A → List Tok → B → Type 0} {p p' : Parser A} {q q' : A → Parser B} {C : Faults} {pre mid mid' post : Mark → Bool}
    → Tracks l l' p p' C pre mid → ((a : A) → Tracks (r a) (r' a) (q a) (q' a) C mid' post) → within mid mid' ≡ true → Tracks (Chain l r) (Chain l' r') (p >>= q) (p' >>= q') C pre post
chained {A} {B} {l} {l'} {r} {r'} {p} {p'} {q} {q'} {C} {pre} {mid} {mid'} {post} x y joins = record {
  passes = λ ts b rest e.
      let o = and_then_ok (p ts) q (b, rest) e in
      let z : Tracks (r o.0) (r' o.0) (q o.0) (q' o.0) C mid' post = y o.0 in
      chain_passed q' joins o.1 o.0 (x.passes ts o.0 o.1 o.2) (z.passes o.1 b rest o.3);
  fails = λ ts s rest e. ⊎_elim
      (λ h. chain_failed q' (λ a. (y a).sample) (x.fails ts s rest h))
      (λ h. let z : Tracks (r h.0) (r' h.0) (q h.0) (q' h.0) C mid' post = y h.0 in
      chain_failed_behind q' joins h.1 h.0 (x.passes ts h.0 h.1 h.2) (z.fails h.1 s rest h.3))
      (and_then_err (p ts) q (s, rest) e);
  sample =
      let a = x.sample in
      let z : Tracks (r a.1) (r' a.1) (q a.1) (q' a.1) C mid' post = y a.1 in
      let b = z.sample in (
        a.0 ++ b.0,
        b.1,
        record { first = a.0; second = b.0; between = a.1; parts = refl; left = a.2; right = b.2 },
        record { first = a.0; second = b.0; between = a.1; parts = refl; left = a.3; right = b.3 },
      );
}

-- ---- one and then another

pub from_chain : {A B : Type 0} (l : List Tok → A → Type 0) (r : List Tok → B → Type 0) (us : List Tok) (c : A × B) → Chain l (λ a. (λ b. (a, b)) ⊛ r) us c → (l ⊗ r) us c
from_chain l r us c h = record {
  first = h.first;
  second = h.second;
  parts = h.parts;
  left = subst (λ d. l h.first d.0) h.right.2 h.left;
  right = subst (λ d. r h.second d.1) h.right.2 h.right.1;
}

pub followed : {A B : Type 0} {l l' : List Tok → A → Type 0} {r r' : List Tok → B → Type 0} {p p' : Parser A} {q q' : Parser B} {C : Faults} {pre mid mid' post : Mark → Bool}
    → Tracks l l' p p' C pre mid → Tracks r r' q q' C mid' post → within mid mid' ≡ true → Tracks (l ⊗ r) (l' ⊗ r') (p <+> q) (p' <+> q') C pre post
followed {l = l} {l'} {r} {r'} x y joins = along (from_chain l r) (from_chain l' r') (chained x (λ a. gives (λ b. (a, b)) y) joins)

pub after : {A : Type 0} {l l' : List Tok → A → Type 0} {p p' : Parser A} {C : Faults} {mid post : Mark → Bool} (wanted : Mark) → is wanted k.End ≡ false → apart (is wanted) (is k.Number) ≡ true → within (is wanted) mid ≡ true → is wanted wanted ≡ true
    → Tracks l l' p p' C mid post → Tracks (rule.after wanted l) (rule.after wanted l') (read.after wanted p) (read.after wanted p') C any post
after {C = C} {mid = mid} wanted none plain leaves self x = gives (λ q. q.1) (followed (token C (is wanted) mid wanted none plain leaves self) x (within_self mid))
