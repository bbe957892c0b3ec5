-- Where the readers of conditions stop, however deep.
use Rattle.std.proofs.Common.{◌≡◌, true, inl, inr, ℕ, zero, suc, ◌<◌, ◌≤◌, List, [], ◌∷◌, ◌++◌, None, Err, refl, sym, append-nil, arith}
use Rattle.sq_token.specs.declared.mark.Mark.TheVariants as k
use Rattle.sq_parse.specs.declared.stop.Stop.TheVariants as stop
use Rattle.sq_parse.specs.declared.tree.Tree.{Tree}
use Rattle.sq_parse.specs.declared.tree.Tree.TheVariants as t
use Rattle.sq_token.specs.Mark.{is, same, is_truth_word}
use Rattle.sq_token.specs.Tok.{Tok, next}
use Rattle.sq_parse.specs.Tree.{tested, all_of, any_of}
use Rattle.sq_parse.specs.Rules as rule
use Rattle.sq_parse.specs.Rules.{Then, ◌⊗◌, ◌⊕◌, ◌⊛◌}
use Rattle.sq_parse.specs.Reading as reading
use Rattle.sq_parse.specs.Reading.{Parser, ◌<$>◌, ◌<+>◌}
use Rattle.sq_parse.specs.Grammar as g
use Rattle.sq_parse.specs.Grammar.{Limits, shipped}
use Rattle.sq_parse.specs.Spelling.{unlimited}
use Rattle.sq_parse.specs.Reader as read
use Rattle.sq_token.proofs.Marks.{apart_at}
use Rattle.sq_parse.proofs.Exact.{Full-after}
use Rattle.sq_parse.proofs.Exact as exact
use Rattle.sq_parse.proofs.Loops.{Shrinks, Shrinks-exact}
use Rattle.sq_parse.proofs.ConditionsExact as conditions_exact
use Rattle.sq_parse.proofs.Tracks.{Faults, Tracks, unstarred, tok, token, along, gives, followed, after}
use Rattle.sq_parse.proofs.Choices.{TracksWhen, plainly, along_when, maybe, separated, enclosed, always, chosen, refused}
use Rattle.sq_parse.proofs.PredicatesTrack as predicates

-- ---- parts of the rules

test_of : (limits : Limits) (l : List Tok → Tree → Type 0) (us : List Tok) (a : Tree) → g.predicate limits us a → g.test limits l us a
test_of limits l us a h = ((a, None), record { first = us; second = []; parts = sym (append-nil us); left = inr h; right = refl }, refl)

enclosed_test : (limits : Limits) (l : List Tok → Tree → Type 0) (us : List Tok) (a : Tree) → rule.enclosed l us a → g.test limits l us a
enclosed_test limits l us a h = ((a, None), record { first = us; second = []; parts = sym (append-nil us); left = inl h; right = refl }, refl)

denied_by : (l : List Tok → Tree → Type 0) (n : Tok) (us : List Tok) (a : Tree) → is k.Not n.mark ≡ true → l us a → (t.Not ⊛ rule.after k.Not l) (n ∷ us) (t.Not a)
denied_by l n us a e h = (a, ((n, a), record { first = n ∷ []; second = us; parts = refl; left = (refl, e); right = h }, refl), refl)

enclosed_by : (l : List Tok → Tree → Type 0) (n : Tok) (us : List Tok) (a : Tree) → is k.Open n.mark ≡ true → l us a → rule.enclosed l (n ∷ us ++ tok k.Close ∷ []) a
unfolding same
enclosed_by l n us a e h = (
  (n, a),
  record {
    first = n ∷ [];
    second = us ++ tok k.Close ∷ [];
    parts = refl;
    left = (refl, e);
    right = ((a, tok k.Close), record { first = us; second = tok k.Close ∷ []; parts = refl; left = h; right = (refl, refl) }, refl);
  },
  refl,
)

one_part : (l : List Tok → Tree → Type 0) (us : List Tok) (a : Tree) → l us a → g.disjunction l us a
one_part l us a h = (
  (a, []),
  record {
    first = us;
    second = [];
    parts = sym (append-nil us);
    left = ((a, []), record { first = us; second = []; parts = sym (append-nil us); left = h; right = refl }, refl);
    right = refl;
  },
  refl,
)

shrinks_and : (d : ℕ) → Shrinks (reading.after k.And (read.neg unlimited d))
unfolding same
shrinks_and d = Shrinks-exact (exact.after k.And refl (conditions_exact.neg unlimited (λ n h. refl) d)) (Full-after k.And (g.neg unlimited d))

shrinks_or : (d : ℕ) → Shrinks (reading.after k.Or (read.conjunction (read.neg unlimited d)))
unfolding same read.conjunction_at
shrinks_or d = Shrinks-exact (exact.after k.Or refl (conditions_exact.conjunction_at unlimited (λ n h. refl) d)) (Full-after k.Or (g.conjunction (g.neg unlimited d)))

module _ (C : Faults) where
  predicate : Tracks (g.predicate shipped) (g.predicate unlimited) (read.predicate shipped) (read.predicate unlimited) C unstarred unstarred
  predicate = predicates.predicate C

  -- what stands in parentheses, before a parenthesis
  abbrev Inner : (l l' : List Tok → Tree → Type 0) (p p' : Parser Tree) → Type 0
  Inner l l' p p' = TracksWhen (λ ts. is k.Open (next ts)) (g.primary shipped l) (g.primary unlimited l') p p' C unstarred unstarred

  -- what stands behind NOT, before NOT
  abbrev Lower : (m m' l l' : List Tok → Tree → Type 0) (q q' : Parser Tree) → Type 0
  Lower m m' l l' q q' = TracksWhen (λ ts. is k.Not (next ts)) (g.negation shipped m l) (g.negation unlimited m' l') (t.Not <$> q) (t.Not <$> q') C unstarred unstarred

  test : (l l' : List Tok → Tree → Type 0) (p p' : Parser Tree) → Inner l l' p p' → Tracks (g.test shipped l) (g.test unlimited l') (read.truth_test shipped p) (read.truth_test unlimited p') C unstarred unstarred
  unfolding read.truth_test read.primary same
  test l l' p p' x = gives (λ p. tested p.0 p.1) (followed (chosen (is k.Open) x (along (λ us a h. inr h) (λ us a h. inr h) predicate))
      (maybe (is k.Is) refl (plainly (after k.Is refl refl refl refl (followed (predicates.negated C) (token C is_truth_word unstarred k.True refl refl refl refl) refl)))) refl)

  negation : (m m' l l' : List Tok → Tree → Type 0) (q q' p p' : Parser Tree) → Lower m m' l l' q q' → Inner l l' p p' → Tracks (g.negation shipped m l) (g.negation unlimited m' l') (read.negation shipped q p) (read.negation unlimited q' p') C unstarred unstarred
  unfolding read.negation
  negation m m' l l' q q' p p' y x = chosen (is k.Not) y (along (λ us a h. inr h) (λ us a h. inr h) (test l l' p p' x))

  disjunction : (n n' : List Tok → Tree → Type 0) (p p' : Parser Tree) → Shrinks (reading.after k.And p') → Shrinks (reading.after k.Or (read.conjunction p')) → Tracks n n' p p' C unstarred unstarred
      → Tracks (g.disjunction n) (g.disjunction n') (read.disjunction p) (read.disjunction p') C unstarred unstarred
  unfolding read.disjunction read.conjunction same
  disjunction n n' p p' and or x = gives (λ p. any_of p.0 p.1) (separated k.Or refl refl refl refl or (gives (λ p. all_of p.0 p.1) (separated k.And refl refl refl refl and x)))

  -- ---- where no more may be open

  module _ (m' l' : List Tok → Tree → Type 0) (p' : Parser Tree) where
    nothing_lower : (C.owed stop.TooDeep → (us : List Tok) × (a : Tree) × m' us a) → (C.counts stop.TooDeep → (w : List Tok) → p' w ≡ Err (stop.TooDeep, w)) → Lower rule.nothing m' rule.nothing l' (reading.refuse stop.TooDeep) p'
    unfolding same
    nothing_lower deeper again = refused (is k.Not) stop.TooDeep refl (λ e. cc) (apart_at (is k.Not) (is k.Number) refl)
        (let z = predicate.sample in (z.0, z.1, inr (test_of shipped rule.nothing z.0 z.1 z.2)))
        (λ o n e. let z = deeper o in (z.0, t.Not z.1, inl (denied_by m' n z.0 z.1 e z.2)))
        (λ c w e. rw (again c w) refl)

    nothing_inner : (C.owed stop.TooDeep → (us : List Tok) × (a : Tree) × l' us a) → (C.counts stop.TooDeep → (w : List Tok) → p' w ≡ Err (stop.TooDeep, w)) → Inner rule.nothing l' (reading.refuse stop.TooDeep) p'
    unfolding same
    nothing_inner deeper again = refused (is k.Open) stop.TooDeep refl (λ e. cc) (apart_at (is k.Open) (is k.Number) refl)
        (let z = predicate.sample in (z.0, z.1, inr z.2))
        (λ o n e. let z = deeper o in (z.0 ++ tok k.Close ∷ [], z.1, inl (enclosed_by l' n z.0 z.1 e z.2)))
        (λ c w e. again c w)

  sample_neg : (e : ℕ) → (us : List Tok) × (a : Tree) × g.neg unlimited e us a
  sample_neg zero = let z = predicate.sample in (z.0, z.1, inr (test_of unlimited rule.nothing z.0 z.1 z.3))
  sample_neg (suc e) = let z = predicate.sample in (z.0, z.1, inr (test_of unlimited (g.disjunction (g.neg unlimited e)) z.0 z.1 z.3))

  sample_inner : (e : ℕ) → (us : List Tok) × (a : Tree) × g.disjunction (g.neg unlimited e) us a
  sample_inner e = let z = sample_neg e in (z.0, z.1, one_part (g.neg unlimited e) z.0 z.1 z.2)

  -- one level more
  one_more : (d d' e : ℕ) → Tracks (g.neg shipped d) (g.neg unlimited e) (read.neg shipped d) (read.neg unlimited d') C unstarred unstarred
      → Tracks (g.neg shipped (suc d)) (g.neg unlimited (suc e)) (read.neg shipped (suc d)) (read.neg unlimited (suc d')) C unstarred unstarred
  unfolding read.neg same
  one_more d d' e x = negation (g.neg shipped d) (g.neg unlimited e) (g.disjunction (g.neg shipped d)) (g.disjunction (g.neg unlimited e)) _ _ _ _
      (along_when (λ us a h. inl h) (λ us a h. inl h) (always (gives t.Not (plainly (after k.Not refl refl refl refl x)))))
      (along_when (λ us a h. inl h) (λ us a h. inl h) (always (plainly (enclosed (disjunction (g.neg shipped d) (g.neg unlimited e) (read.neg shipped d) (read.neg unlimited d') (shrinks_and d') (shrinks_or d') x)))))

  -- a part of a conjunction, beside a reader that goes deeper and a rule that goes deeper
  pub neg : (d d' e : ℕ) → d ≤ d' → d ≤ e → (C.counts stop.TooDeep → d ≡ d') → (C.owed stop.TooDeep → d < e) → Tracks (g.neg shipped d) (g.neg unlimited e) (read.neg shipped d) (read.neg unlimited d') C unstarred unstarred
  unfolding read.neg
  neg zero zero zero a b deep deeper = negation _ _ _ _ _ _ _ _
      (nothing_lower rule.nothing rule.nothing (reading.refuse stop.TooDeep) (λ o. absurd (let less : zero < zero = deeper o in omega arith)) (λ c w. refl))
      (nothing_inner rule.nothing rule.nothing (reading.refuse stop.TooDeep) (λ o. absurd (let less : zero < zero = deeper o in omega arith)) (λ c w. refl))
  neg zero zero (suc e) a b deep deeper = negation _ _ _ _ _ _ _ _
      (nothing_lower (g.neg unlimited e) (g.disjunction (g.neg unlimited e)) (reading.refuse stop.TooDeep) (λ o. sample_neg e) (λ c w. refl))
      (nothing_inner (g.neg unlimited e) (g.disjunction (g.neg unlimited e)) (reading.refuse stop.TooDeep) (λ o. sample_inner e) (λ c w. refl))
  neg zero (suc d') zero a b deep deeper = negation _ _ _ _ _ _ _ _
      (nothing_lower rule.nothing rule.nothing (reading.after k.Not (read.neg unlimited d')) (λ o. absurd (let less : zero < zero = deeper o in omega arith)) (λ c w. absurd (let one : zero ≡ suc d' = deep c in omega arith)))
      (nothing_inner rule.nothing rule.nothing (reading.enclosed (read.disjunction (read.neg unlimited d'))) (λ o. absurd (let less : zero < zero = deeper o in omega arith)) (λ c w. absurd (let one : zero ≡ suc d' = deep c in omega arith)))
  neg zero (suc d') (suc e) a b deep deeper = negation _ _ _ _ _ _ _ _
      (nothing_lower (g.neg unlimited e) (g.disjunction (g.neg unlimited e)) (reading.after k.Not (read.neg unlimited d')) (λ o. sample_neg e) (λ c w. absurd (let one : zero ≡ suc d' = deep c in omega arith)))
      (nothing_inner (g.neg unlimited e) (g.disjunction (g.neg unlimited e)) (reading.enclosed (read.disjunction (read.neg unlimited d'))) (λ o. sample_inner e) (λ c w. absurd (let one : zero ≡ suc d' = deep c in omega arith)))
  neg (suc d) zero e a b deep deeper = absurd (omega arith)
  neg (suc d) (suc d') zero a b deep deeper = absurd (omega arith)
  neg (suc d) (suc d') (suc e) a b deep deeper =
      let x = neg d d' e (omega arith) (omega arith) (λ c. let one : suc d ≡ suc d' = deep c in omega arith) (λ o. let less : suc d < suc e = deeper o in omega arith) in
      one_more d d' e x

  pub condition : (d d' e : ℕ) → d ≤ d' → d ≤ e → (C.counts stop.TooDeep → d ≡ d') → (C.owed stop.TooDeep → d < e) → Tracks (g.condition shipped d) (g.condition unlimited e) (read.condition shipped d) (read.condition unlimited d') C unstarred unstarred
  unfolding read.condition
  condition d d' e a b deep deeper = disjunction (g.neg shipped d) (g.neg unlimited e) (read.neg shipped d) (read.neg unlimited d') (shrinks_and d') (shrinks_or d') (neg d d' e a b deep deeper)
