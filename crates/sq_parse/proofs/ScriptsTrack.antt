-- Where the reader of scripts stops.
use Rattle.std.proofs.Common.{◌≡◌, Bool, true, false, not, cond, ⊎_elim, ℕ, zero, suc, ◌<◌, ◌≤◌, List, [], ◌∷◌, ◌++◌, length, Some, None, Ok, Err, refl, ap, sym, subst, ◌∙◌, append_assoc, append-nil, arith}
use Rattle.sq_token.specs.declared.mark.Mark.{Mark}
use Rattle.sq_token.specs.declared.mark.Mark.TheVariants as k
use Rattle.sq_parse.specs.declared.stop.Stop.{Stop}
use Rattle.sq_parse.specs.declared.stop.Stop.TheVariants as stop
use Rattle.sq_parse.specs.declared.tree.Statement.{Statement}
use Rattle.sq_parse.specs.declared.tree.Script.{Script}
use Rattle.sq_token.specs.Mark.{is, same}
use Rattle.sq_token.specs.Tok.{Tok, next, done}
use Rattle.sq_parse.specs.Rules as rule
use Rattle.sq_parse.specs.Rules.{Then, ◌⊗◌, ◌⊕◌, ◌⊛◌}
use Rattle.sq_parse.specs.Reading as reading
use Rattle.sq_parse.specs.Reading.{Parser, Outcome, ◌>>=◌, ◌<$>◌, ◌<+>◌}
use Rattle.sq_parse.specs.Grammar as g
use Rattle.sq_parse.specs.Grammar.{shipped}
use Rattle.sq_parse.specs.Spelling.{unlimited}
use Rattle.sq_parse.specs.Reader as read
use Rattle.sq_token.proofs.Marks.{apart_at, within_self}
use Rattle.sq_parse.proofs.Exact.{Chain, Err-Ok}
use Rattle.sq_parse.proofs.Places.{next_seen, done_same}
use Rattle.sq_parse.proofs.Tracks.{Faults, Failed, Tracks, Err-value, if_is, any, unstarred, not_large, token, along, gives, chained}
use Rattle.sq_parse.proofs.Choices.{TracksWhen, empty, plainly, along_when, nothing, always, chosen, chosen_by}
use Rattle.sq_parse.proofs.StatementsTrack as statements

-- ---- what stands behind the first statement

module _ (l : List Tok → Statement → Type 0) where
  abbrev pub Tail : List Tok → List Statement → Type 0
  Tail = (λ p. p.0) ⊛ (rule.many (rule.after k.Semicolon l) ⊗ rule.optional (rule.mark k.Semicolon))

  tail_none : Tail [] []
  tail_none = (([], None), record { first = []; second = []; parts = refl; left = refl; right = refl }, refl)

  tail_last : (c : Tok) → is k.Semicolon c.mark ≡ true → Tail (c ∷ []) []
  tail_last c e = (([], Some c), record { first = []; second = c ∷ []; parts = refl; left = refl; right = (refl, e) }, refl)

  tail_more : (c : Tok) (us vs : List Tok) (s : Statement) (xs : List Statement) → is k.Semicolon c.mark ≡ true → l us s → Tail vs xs → Tail (c ∷ (us ++ vs)) (s ∷ xs)
  tail_more c us vs s xs e one h =
      let t = h.1 in (
        (s ∷ xs, h.0.1),
        record {
          first = c ∷ (us ++ t.first);
          second = t.second;
          parts = ap (λ z. c ∷ z) (ap (λ z. us ++ z) t.parts ∙ sym (append_assoc us t.first t.second));
          left = (
            c ∷ us,
            t.first,
            refl,
            ((c, s), record { first = c ∷ []; second = us; parts = refl; left = (refl, e); right = one }, refl),
            subst (λ z. rule.many (rule.after k.Semicolon l) t.first z) h.2 t.left,
          );
          right = t.right;
        },
        refl,
      )

  -- with few statements
  abbrev pub Few : ℕ → List Tok → List Statement → Type 0
  Few n us xs = Tail us xs × (length xs ≤ n)

  -- what may stand behind a semicolon
  abbrev Behind : List Tok → List Statement → Type 0
  Behind us xs = (c : Tok) → is k.Semicolon c.mark ≡ true → Tail (c ∷ us) xs

  abbrev Few_behind : ℕ → List Tok → List Statement → Type 0
  Few_behind n us xs = (c : Tok) → is k.Semicolon c.mark ≡ true → Few n (c ∷ us) xs

  nothing_behind : (us : List Tok) (xs : List Statement) → empty [] us xs → Behind us xs
  nothing_behind us xs h c e = subst (λ z. Tail (c ∷ us) z) h.1 (subst (λ z. Tail (c ∷ z) []) (sym h.0) (tail_last c e))

  few_nothing_behind : (n : ℕ) (us : List Tok) (xs : List Statement) → empty [] us xs → Few_behind n us xs
  few_nothing_behind n us xs h c e = (nothing_behind us xs h c e, subst (λ (z : List Statement). length z ≤ n) h.1 (omega arith))

  no_tail : (us : List Tok) (xs : List Statement) → empty [] us xs → Tail us xs
  no_tail us xs h = subst (λ z. Tail us z) h.1 (subst (λ z. Tail z []) (sym h.0) tail_none)

  few_no_tail : (n : ℕ) (us : List Tok) (xs : List Statement) → empty [] us xs → Few n us xs
  few_no_tail n us xs h = (no_tail us xs h, subst (λ (z : List Statement). length z ≤ n) h.1 (omega arith))

  behind_semicolon : (us : List Tok) (xs : List Statement) → Chain (rule.mark k.Semicolon) (λ _. Behind) us xs → Tail us xs
  behind_semicolon us xs h = subst (λ z. Tail z xs) (sym (h.parts ∙ ap (λ z. z ++ h.second) h.left.0)) (h.right h.between h.left.1)

  few_behind_semicolon : (n : ℕ) (us : List Tok) (xs : List Statement) → Chain (rule.mark k.Semicolon) (λ _. Few_behind n) us xs → Few n us xs
  few_behind_semicolon n us xs h = subst (λ z. Few n z xs) (sym (h.parts ∙ ap (λ z. z ++ h.second) h.left.0)) (h.right h.between h.left.1)

  one_behind : (us : List Tok) (xs : List Statement) → Chain l (λ s. (λ more. s ∷ more) ⊛ Tail) us xs → Behind us xs
  one_behind us xs h c e =
      let r = h.right in
      subst (λ z. Tail (c ∷ us) z) r.2 (subst (λ z. Tail (c ∷ z) (h.between ∷ r.0)) (sym h.parts) (tail_more c h.first h.second h.between r.0 e h.left r.1))

  few_one_behind : (n : ℕ) (us : List Tok) (xs : List Statement) → Chain l (λ s. (λ more. s ∷ more) ⊛ Few n) us xs → Few_behind (suc n) us xs
  few_one_behind n us xs h c e =
      let r = h.right in (
        one_behind us xs (record { first = h.first; second = h.second; between = h.between; parts = h.parts; left = h.left; right = (r.0, r.1.0, r.2) }) c e,
        subst (λ (z : List Statement). length z ≤ suc n) r.2 (let fits : length r.0 ≤ n = r.1.1 in omega arith),
      )

-- a statement begins with any SELECT
begins_with : {A : Type 0} (l : List Tok → A → Type 0) (t : Tok) (us : List Tok) (a : A) → is k.Select t.mark ≡ true → rule.after k.Select l us a → (vs : List Tok) × rule.after k.Select l (t ∷ vs) a
begins_with l t us a e h = (h.1.second, ((t, h.0.1), record { first = t ∷ []; second = h.1.second; parts = refl; left = (refl, e); right = h.1.right }, h.2))

no_select : (d : ℕ) (w : List Tok) → is k.Select (next w) ≡ false → read.statement unlimited d w ≡ Err (stop.Syntax, w)
unfolding read.statement
no_select d w e = rw e refl

-- a script of at most one statement more
abbrev pub Fits : ℕ → ℕ → List Tok → Script → Type 0
Fits d n us tree = g.script shipped d us tree × (length tree.statements ≤ suc n)

module _ (C : Faults) (d d' e : ℕ) (a : d ≤ d') (b : d ≤ e) (deep : C.counts stop.TooDeep → d ≡ d') (deeper : C.owed stop.TooDeep → d < e) where
  abbrev One : List Tok → Statement → Type 0
  One = g.statement shipped d

  abbrev One' : List Tok → Statement → Type 0
  One' = g.statement unlimited e

  one : Tracks One One' (read.statement shipped d) (read.statement unlimited d') C any unstarred
  one = statements.statement C d d' e a b deep deeper

  -- what the reader without limits reads behind a semicolon
  abbrev more_by : ℕ → Parser (List Statement)
  more_by zero = read.no_more unlimited
  more_by (suc n) = read.statement unlimited d' >>= (λ s. (λ more. s ∷ more) <$> read.statements unlimited d' n)

  sample_by : (t : Tok) → is k.Select t.mark ≡ true → (us : List Tok) × (s : Statement) × One' (t ∷ us) s
  sample_by t h =
      let z = one.sample in
      let y = begins_with _ t z.0 z.3.0 h z.3.1 in
      (y.0, z.1, (z.3.0, y.1, z.3.2))

  no_more_again : (n' : ℕ) (w : List Tok) → is k.Select (next w) ≡ false → more_by n' w ≡ Err (stop.Syntax, w)
  no_more_again zero w h = rw h refl
  no_more_again (suc n') w h = rw (no_select d' w h) refl

  too_many_again : (n' : ℕ) (w : List Tok) → zero ≡ n' → is k.Select (next w) ≡ true → more_by n' w ≡ Err (stop.TooManyStatements, w)
  too_many_again zero w z h = rw h refl
  too_many_again (suc n') w z h = absurd (omega arith)

  no_number : (m : Mark) → is k.Select m ≡ true → is k.Number m ≡ false
  unfolding same
  no_number m e = apart_at (is k.Select) (is k.Number) refl m e

  too_many_failed : (n' : ℕ) → (C.counts stop.TooManyStatements → zero ≡ n') → (ts : List Tok) → not (done ts) ≡ true → is k.Select (next ts) ≡ true → Failed (Few_behind One zero) (Behind One') (more_by n') C unstarred ts stop.TooManyStatements ts
  too_many_failed n' many [] h i = absurd (no_both h)
    where
      no_both : ◌≡◌ {A = Bool} false true → ⊥
      no_both x = cc
  too_many_failed n' many (t ∷ ts) h i = record {
    before = [];
    parts = refl;
    begun = ([], [], few_nothing_behind One zero [] [] (refl, refl));
    further = λ o.
        let z = sample_by t i in
        record { token = t; more = ts; there = refl; us = z.0; value = z.1 ∷ []; spelled = λ c f. subst (λ y. Tail One' (c ∷ y) (z.1 ∷ [])) (append-nil (t ∷ z.0)) (tail_more One' c (t ∷ z.0) [] z.1 [] f z.2 (tail_none One')) };
    again = λ c w m. too_many_again n' w (many c) (ap (is k.Select) (sym (next_seen (t ∷ ts) w m)) ∙ i);
    clean = λ left _. tt;
    large = λ left _ too. absurd (other too);
    stands = no_number t.mark i;
  }
    where
      other : stop.TooManyStatements ≡ stop.NumberTooLarge → ⊥
      other x = cc

  syntax_failed : (n' : ℕ) (ts : List Tok) → is k.Select (next ts) ≡ false → Failed (Few_behind One zero) (Behind One') (more_by n') C unstarred ts stop.Syntax ts
  syntax_failed n' ts i = record {
    before = [];
    parts = refl;
    begun = ([], [], few_nothing_behind One zero [] [] (refl, refl));
    further = λ o. absurd (C.no_syntax o);
    again = λ c w m. no_more_again n' w (ap (is k.Select) (sym (next_seen ts w m)) ∙ i);
    clean = λ left _. tt;
    large = λ left _ too. absurd (not_large too);
    stands = tt;
  }

  no_more : (n' : ℕ) → (C.counts stop.TooManyStatements → zero ≡ n') → TracksWhen (λ ts. not (done ts)) (Few_behind One zero) (Behind One') (read.no_more shipped) (more_by n') C unstarred unstarred
  no_more n' many = record {
    passes = λ ts xs rest h i. ⊎_elim (λ j. absurd (Err-Ok j.1)) (λ j. absurd (Err-Ok j.1))
        (if_is (is k.Select (next ts)) (reading.refuse stop.TooManyStatements ts) (reading.refuse stop.Syntax ts) (Ok (xs, rest)) i);
    fails = λ ts s rest h i. ⊎_elim
        (λ j. subst (λ (v : Stop × List Tok). Failed (Few_behind One zero) (Behind One') (more_by n') C unstarred ts v.0 v.1) (Err-value j.1) (too_many_failed n' many ts h j.0))
        (λ j. subst (λ (v : Stop × List Tok). Failed (Few_behind One zero) (Behind One') (more_by n') C unstarred ts v.0 v.1) (Err-value j.1) (syntax_failed n' ts j.0))
        (if_is (is k.Select (next ts)) (reading.refuse stop.TooManyStatements ts) (reading.refuse stop.Syntax ts) (Err (s, rest)) i);
  }

  -- behind a semicolon
  ended : (n n' : ℕ) (p : Parser (List Statement)) → TracksWhen (λ ts. not (done ts)) (Few_behind One n) (Behind One') p (more_by n') C unstarred unstarred
      → Tracks (Few_behind One n) (Behind One') (λ ts. cond (done ts) (reading.pure [] ts) (p ts)) (λ ts. cond (done ts) (reading.pure [] ts) (more_by n' ts)) C unstarred unstarred
  ended n n' p x = chosen_by done done_same (always (along (few_nothing_behind One n) (nothing_behind One') (nothing [] C unstarred unstarred (within_self unstarred)))) x
      ([], [], few_nothing_behind One n [] [] (refl, refl), nothing_behind One' [] [] (refl, refl))

  behind_first : (n n' : ℕ) (p : Parser (List Statement)) → TracksWhen (λ ts. not (done ts)) (Few_behind One n) (Behind One') p (more_by n') C unstarred unstarred
      → Tracks (Few One n) (Tail One') (read.after_semicolon shipped p) (read.after_semicolon unlimited (more_by n')) C unstarred unstarred
  unfolding same
  behind_first n n' p x = chosen (is k.Semicolon)
      (along_when (few_behind_semicolon One n) (behind_semicolon One') (always (chained (plainly (token C (is k.Semicolon) unstarred k.Semicolon refl refl refl refl)) (λ _. ended n n' p x) refl)))
      (along (few_no_tail One n) (no_tail One') (nothing [] C unstarred unstarred (within_self unstarred)))

  pub tail : (n n' : ℕ) → n ≤ n' → (C.counts stop.TooManyStatements → n ≡ n') → Tracks (Few One n) (Tail One') (read.statements shipped d n) (read.statements unlimited d' n') C unstarred unstarred
  unfolding read.statements
  tail zero zero few many = behind_first zero zero _ (no_more zero many)
  tail zero (suc n') few many = behind_first zero (suc n') _ (no_more (suc n') many)
  tail (suc n) zero few many = absurd (omega arith)
  tail (suc n) (suc n') few many = behind_first (suc n) (suc n') _
      (always (along (few_one_behind One n) (one_behind One') (chained (plainly one) (λ s. gives (λ more. s ∷ more) (tail n n' (omega arith) (λ c. let equal : suc n ≡ suc n' = many c in omega arith))) (within_self unstarred))))

  -- ---- the end

  abbrev stands : Script → Parser Script
  stands tree = λ ts. cond (done ts) (Ok (tree, ts)) (Err (stop.Syntax, ts))

  refused_end : (tree : Script) → TracksWhen (λ ts. not (done ts)) (empty tree) (empty tree) (reading.refuse stop.Syntax) (reading.refuse stop.Syntax) C unstarred unstarred
  refused_end tree = record {
    passes = λ ts x rest h i. absurd (Err-Ok i);
    fails = λ ts s rest h i. subst (λ (v : Stop × List Tok). Failed (empty tree) (empty tree) (reading.refuse stop.Syntax) C unstarred ts v.0 v.1) (Err-value i) (record {
      before = [];
      parts = refl;
      begun = ([], tree, (refl, refl));
      further = λ o. absurd (C.no_syntax o);
      again = λ c w m. refl;
      clean = λ left _. tt;
      large = λ left _ too. absurd (not_large too);
      stands = tt;
    });
  }

  end : (tree : Script) → Tracks (empty tree) (empty tree) (stands tree) (stands tree) C unstarred unstarred
  end tree = chosen_by done done_same (always (nothing tree C unstarred unstarred (within_self unstarred))) (refused_end tree) ([], tree, (refl, refl), (refl, refl))

  abbrev Script_by : (List Tok → Statement → Type 0) → (List Tok → List Statement → Type 0) → List Tok → Script → Type 0
  Script_by l r = Chain l (λ s. Chain r (λ xs. empty (record { statements = s ∷ xs })))

  as_script : (us : List Tok) (tree : Script) → Script_by One' (Tail One') us tree → g.script unlimited e us tree
  as_script us tree h =
      let r = h.right in
      let t = r.left in
      let last = r.right in (
        ((h.between, r.between), t.0.1),
        record {
          first = h.first ++ t.1.first;
          second = t.1.second;
          parts = h.parts ∙ (ap (λ z. h.first ++ z) (r.parts ∙ (ap (λ z. r.first ++ z) last.0 ∙ (append-nil r.first ∙ t.1.parts))) ∙ sym (append_assoc h.first t.1.first t.1.second));
          left = record { first = h.first; second = t.1.first; parts = refl; left = h.left; right = subst (λ z. rule.many (rule.after k.Semicolon One') t.1.first z) t.2 t.1.left };
          right = t.1.right;
        },
        last.1,
      )

  as_few : (n : ℕ) (us : List Tok) (tree : Script) → Script_by One (Few One n) us tree → Fits d n us tree
  as_few n us tree h =
      let r = h.right in
      let t = r.left.0 in
      let last = r.right in (
        (
          ((h.between, r.between), t.0.1),
          record {
            first = h.first ++ t.1.first;
            second = t.1.second;
            parts = h.parts ∙ (ap (λ z. h.first ++ z) (r.parts ∙ (ap (λ z. r.first ++ z) last.0 ∙ (append-nil r.first ∙ t.1.parts))) ∙ sym (append_assoc h.first t.1.first t.1.second));
            left = record { first = h.first; second = t.1.first; parts = refl; left = h.left; right = subst (λ z. rule.many (rule.after k.Semicolon One) t.1.first z) t.2 t.1.left };
            right = t.1.right;
          },
          last.1,
        ),
        subst (λ (z : Script). length z.statements ≤ suc n) last.1 (let fits : length r.between ≤ n = r.left.1 in omega arith),
      )

  pub script : (n n' : ℕ) → n ≤ n' → (C.counts stop.TooManyStatements → n ≡ n') → Tracks (Fits d n) (g.script unlimited e) (read.script shipped d n) (read.script unlimited d' n') C any unstarred
  unfolding read.script
  script n n' few many = along (as_few n) as_script (chained one (λ s. chained (tail n n' few many) (λ xs. end (record { statements = s ∷ xs })) (within_self unstarred)) (within_self unstarred))
