-- Where the readers of names, columns and operands stop.
use Rattle.std.proofs.Common.{◌≡◌, Bool, true, false, not, ◌&&◌, ◌||◌, cond, inl, inr, ⊎_elim, ℕ, nat_lt, ◌<◌, ◌≤◌, List, [], ◌∷◌, ◌++◌, length, Some, None, Ok, Err, refl, ap, sym, subst, ◌∙◌, arith}
use Rattle.std.proofs.lemmas.Bool.Decides.{nat_tests}
use Rattle.sq_token.specs.declared.mark.Mark.{Mark}
use Rattle.sq_token.specs.declared.mark.Mark.TheVariants as k
use Rattle.sq_parse.specs.declared.stop.Stop.{Stop}
use Rattle.sq_parse.specs.declared.stop.Stop.TheVariants as stop
use Rattle.sq_parse.specs.declared.tree.RawTerm.{RawTerm}
use Rattle.sq_parse.specs.declared.tree.Operand.TheVariants as o
use Rattle.sq_token.specs.Mark.{is, same, is_name, is_sign}
use Rattle.sq_token.specs.Tok.{Tok, head, next, behind}
use Rattle.sq_parse.specs.Tree.{name_of, column_of, number_term, column_term, signed, sum_of}
use Rattle.sq_parse.specs.Rules as rule
use Rattle.sq_parse.specs.Rules.{Then, ◌⊗◌, ◌⊕◌, ◌⊛◌}
use Rattle.sq_parse.specs.Reading as reading
use Rattle.sq_parse.specs.Reading.{Parser, ◌<$>◌, ◌<+>◌}
use Rattle.sq_parse.specs.Grammar as g
use Rattle.sq_parse.specs.Grammar.{Limits, shipped}
use Rattle.sq_parse.specs.Spelling.{unlimited}
use Rattle.sq_parse.specs.Reader as read
use Rattle.sq_parse.specs.Fault.{is_large}
use Rattle.sq_token.proofs.Marks.{apart_at, within_at, within_self}
use Rattle.sq_parse.proofs.Exact.{Full, Full-either, Full-gives, Full-left, Full-right, Full-number, Full-token, Ok-value, Err-Ok, no_number}
use Rattle.sq_parse.proofs.Exact as exact
use Rattle.sq_parse.proofs.Loops.{Shrinks-exact}
use Rattle.sq_parse.proofs.Shrinking.{nested, no_sign}
use Rattle.sq_parse.proofs.OperandsExact as operands
use Rattle.sq_parse.proofs.Places.{fits, view, next_same, next_seen}
use Rattle.sq_parse.proofs.Tracks.{Faults, Stands, Passed, Failed, Tracks, Err-value, Ok-Err, if_is, any, unstarred, tok, not_large, token, along, alike, gives, followed, after}
use Rattle.sq_parse.proofs.Choices.{TracksWhen, plainly, either, maybe, repeated, gives_when, followed_when, by_test, Moves, moves_number, moves_token, moves_gives, moves_then, moves_chain, moves_right, falls, shrinks_by}

-- ---- numbers

abbrev all_numbers : ℕ → Bool
all_numbers n = true

fits_small : (left : Mark) (t : Tok) (right : Mark) → is k.Number t.mark ≡ true → is_large left t.number right ≡ false → fits left t right ≡ true
fits_small left t right e f = rw (e, f) refl

fits_not : (left : Mark) (t : Tok) (right : Mark) → is k.Number t.mark ≡ true → is_large left t.number right ≡ true → fits left t right ≡ false
fits_not left t right e f = rw (e, f) refl

module _ (w : ℕ → Bool) (pre : Mark → Bool) where
  number_passed : (ts : List Tok) (a : Tok) (rest : List Tok) → reading.number w ts ≡ Ok (a, rest) → ((left : Mark) → pre left ≡ true → w (head ts).number ≡ true → is_large left (head ts).number (next (behind ts)) ≡ false)
      → Passed (rule.number w) (rule.number all_numbers) (reading.number all_numbers) pre unstarred ts a rest
  unfolding same
  number_passed [] a rest e small = absurd (Err-Ok e)
  number_passed (t ∷ ts) a rest e small =
      ⊎_elim
      (λ h. ⊎_elim
      (λ i. let pair = Ok-value i.1 in
      let first : t ≡ a = ap (λ z. z.0) pair in
      let others : ts ≡ rest = ap (λ z. z.1) pair in
      record {
        us = t ∷ [];
        parts = ap (λ x. t ∷ x) others;
        spelled = (ap (λ x. x ∷ []) first, subst (λ x. is k.Number x.mark ≡ true) first h.0, subst (λ x. w x.number ≡ true) first i.0);
        wide = (ap (λ x. x ∷ []) first, subst (λ x. is k.Number x.mark ≡ true) first h.0, refl);
        again = λ v _. rw h.0 (ap (λ x. Ok (x, v)) first);
        clean = λ left m. ((fits_small left t (next rest) h.0 (subst (λ r. is_large left t.number (next r) ≡ false) others (small left m i.0)), tt), within_at (is k.Number) unstarred refl t.mark h.0);
      })
      (λ i. absurd (Err-Ok i.1))
      (if_is (w t.number) (Ok (t, ts)) (Err (stop.NumberTooLarge, t ∷ ts)) (Ok (a, rest)) h.1))
      (λ h. absurd (Err-Ok h.1))
      (if_is (is k.Number t.mark) _ (Err (stop.Syntax, t ∷ ts)) (Ok (a, rest)) e)

  module _ (C : Faults) where
    too_large : (ts : List Tok) → is k.Number (next ts) ≡ true → w (head ts).number ≡ false → w 0 ≡ true → ((left : Mark) → pre left ≡ true → is_large left (head ts).number (next (behind ts)) ≡ true)
        → Failed (rule.number w) (rule.number all_numbers) (reading.number all_numbers) C pre ts stop.NumberTooLarge ts
    unfolding same
    too_large [] e f zero_fits large = absurd (no_both e no_number)
      where
        no_both : {b : Bool} → b ≡ true → b ≡ false → ⊥
        no_both x y = cc
    too_large (t ∷ ts) e f zero_fits large = record {
      before = [];
      parts = refl;
      begun = (tok k.Number ∷ [], tok k.Number, (refl, refl, zero_fits));
      further = λ _. record { token = t; more = ts; there = refl; us = []; value = t; spelled = (refl, e, refl) };
      again = λ c. absurd (C.no_number c);
      clean = λ left _. tt;
      large = λ left m _. fits_not left t (next ts) e (large left m);
      stands = tt;
    }

    number_failed : (ts : List Tok) (s : Stop) (rest : List Tok) → reading.number w ts ≡ Err (s, rest) → w 0 ≡ true → ((left : Mark) → pre left ≡ true → w (head ts).number ≡ false → is_large left (head ts).number (next (behind ts)) ≡ true)
        → Failed (rule.number w) (rule.number all_numbers) (reading.number all_numbers) C pre ts s rest
    unfolding same
    number_failed ts s rest e zero_fits large =
        ⊎_elim
        (λ h. ⊎_elim
        (λ i. absurd (Ok-Err i.1))
        (λ i. let pair = Err-value i.1 in
        subst (λ (z : Stop × List Tok). Failed (rule.number w) (rule.number all_numbers) (reading.number all_numbers) C pre ts z.0 z.1) pair (too_large ts h.0 i.0 zero_fits (λ left m. large left m i.0)))
        (if_is (w (head ts).number) (Ok (head ts, behind ts)) (Err (stop.NumberTooLarge, ts)) (Err (s, rest)) h.1))
        (λ h. let pair = Err-value h.1 in
        let which : stop.Syntax ≡ s = ap (λ z. z.0) pair in
        let others : ts ≡ rest = ap (λ z. z.1) pair in
        record {
          before = [];
          parts = others;
          begun = (tok k.Number ∷ [], tok k.Number, (refl, refl, zero_fits));
          further = λ o. absurd (C.no_syntax (subst C.owed (sym which) o));
          again = λ _ v e'. rw (ap (is k.Number) (sym (ap next others ∙ next_seen rest v e')) ∙ h.0) (ap (λ x. Err (x, v)) which);
          clean = λ left _. tt;
          large = λ left _ too. absurd (not_large (which ∙ too));
          stands = subst (λ z. Stands z (next rest)) which tt;
        })
        (if_is (is k.Number (next ts)) _ (Err (stop.Syntax, ts)) (Err (s, rest)) e)

-- ---- bounds

narrow_is_small : (left : Mark) (n : ℕ) (right : Mark) → shipped.narrow n ≡ true → is_large left n right ≡ false
narrow_is_small left n right e =
    let a : nat_lt 9223372036854775807 n ≡ false = grind (arith, nat_tests) in
    let b : nat_lt 2147483647 n ≡ false = grind (arith, nat_tests) in
    rw (a, b) refl

and_false : (a : Bool) → (a && false) ≡ false
and_false true = refl
and_false false = refl

or_true : (a : Bool) → (a || true) ≡ true
or_true true = refl
or_true false = refl

wide_is_small : (left : Mark) (n : ℕ) (right : Mark) → shipped.wide n ≡ true → is k.Star left ≡ false → is k.Star right ≡ false → is_large left n right ≡ false
wide_is_small left n right e l r =
    let a : nat_lt 9223372036854775807 n ≡ false = grind (arith, nat_tests) in
    rw (a, l, r) (and_false (nat_lt 2147483647 n))

wide_is_large : (left : Mark) (n : ℕ) (right : Mark) → shipped.wide n ≡ false → is_large left n right ≡ true
wide_is_large left n right e =
    let a : nat_lt 9223372036854775807 n ≡ true = grind (arith, nat_tests) in
    rw a refl

narrow_is_large : (left : Mark) (n : ℕ) (right : Mark) → shipped.narrow n ≡ false → (is k.Star left || is k.Star right) ≡ true → is_large left n right ≡ true
narrow_is_large left n right e starred =
    let b : nat_lt 2147483647 n ≡ true = grind (arith, nat_tests) in
    rw (b, starred) (or_true (nat_lt 9223372036854775807 n))

no_star_left : (left : Mark) → unstarred left ≡ true → is k.Star left ≡ false
unfolding same
no_star_left left e = apart_at unstarred (is k.Star) refl left e

is_false : (b : Bool) → not b ≡ true → b ≡ false
is_false true e = cc
is_false false e = refl

-- a test of the second token depends on the next one alone once a token was read
steady_star : (us rest w : List Tok) → 1 ≤ length us → view rest ≡ view w → read.is_starred (us ++ rest) ≡ read.is_starred (us ++ w)
steady_star [] rest w some m = absurd (omega arith)
steady_star (t ∷ us) rest w some m = ap (is k.Star) (next_same us rest w (next_seen rest w m))

-- ---- what takes a token at least

pub Full-name : Full g.name
Full-name = Full-gives name_of (Full-token is_name)

Full-column : Full g.column
Full-column = Full-gives (λ p. column_of p.0 p.1) (Full-left g.name (rule.optional (rule.after k.Dot g.name)) Full-name)

module _ (limits : Limits) where
  Full-term : Full (g.term limits)
  Full-term = Full-either (g.number_led limits) (g.column_led limits)
      (Full-either _ _ (Full-gives (λ n. number_term n None) (Full-number limits.wide))
      (Full-gives (λ p. number_term p.0 (Some p.1)) (Full-left (rule.number limits.narrow) (rule.after k.Star g.column) (Full-number limits.narrow))))
      (Full-gives (λ p. column_term p.0 p.1) (Full-left g.column (rule.optional (rule.after k.Star (rule.number limits.narrow))) Full-column))

  pub Full-operand : Full (g.operand limits)
  Full-operand = Full-either g.literal (g.sum limits)
      (Full-either _ _ (Full-gives (λ n. o.Null n.at) (Full-token (is k.Null))) (Full-gives (λ x. o.Text x.at x.text) (Full-token (is k.Text))))
      (Full-gives (λ p. sum_of p.0 p.1.0 p.1.1) (Full-right (rule.optional (rule.token is_sign)) _ (Full-left (g.term limits) (rule.many (g.signed_term limits)) Full-term)))

module _ (C : Faults) where
  pub name : Tracks g.name g.name read.name read.name C any unstarred
  unfolding read.name same
  name = gives name_of (token C is_name unstarred k.Name refl refl refl refl)

  pub column : Tracks g.column g.column read.column read.column C any unstarred
  unfolding read.column same
  column = gives (λ p. column_of p.0 p.1) (followed name (maybe (is k.Dot) refl (plainly (after k.Dot refl refl refl refl name))) refl)

  pub literal : Tracks g.literal g.literal read.literal read.literal C any unstarred
  unfolding read.literal same
  literal = either (is k.Null) (gives (λ n. o.Null n.at) (token C (is k.Null) unstarred k.Null refl refl refl refl)) (gives (λ x. o.Text x.at x.text) (token C (is k.Text) unstarred k.Text refl refl refl refl))

  -- a number behind a `*`
  narrow : Tracks (rule.number shipped.narrow) (rule.number unlimited.narrow) (reading.number shipped.narrow) (reading.number unlimited.narrow) C (is k.Star) unstarred
  unfolding same
  narrow = record {
    passes = λ ts a rest e. number_passed shipped.narrow (is k.Star) ts a rest e (λ left m small. narrow_is_small left (head ts).number (next (behind ts)) small);
    fails = λ ts s rest e. number_failed shipped.narrow (is k.Star) C ts s rest e refl (λ left m big. narrow_is_large left (head ts).number (next (behind ts)) big (rw m refl));
    sample = (tok k.Number ∷ [], tok k.Number, (refl, refl, refl), (refl, refl, refl));
  }

  -- a number before a `*`
  starred : TracksWhen read.is_starred (rule.number shipped.narrow) (rule.number unlimited.narrow) (reading.number shipped.narrow) (reading.number unlimited.narrow) C unstarred unstarred
  starred = record {
    passes = λ ts a rest h e. number_passed shipped.narrow unstarred ts a rest e (λ left m small. narrow_is_small left (head ts).number (next (behind ts)) small);
    fails = λ ts s rest h e. number_failed shipped.narrow unstarred C ts s rest e refl (λ left m big. narrow_is_large left (head ts).number (next (behind ts)) big (rw h (or_true (is k.Star left))));
  }

  -- a number beside no `*`
  alone : TracksWhen (λ ts. not (read.is_starred ts)) (rule.number shipped.wide) (rule.number unlimited.wide) (reading.number shipped.wide) (reading.number unlimited.wide) C unstarred unstarred
  alone = record {
    passes = λ ts a rest h e. number_passed shipped.wide unstarred ts a rest e (λ left m small. wide_is_small left (head ts).number (next (behind ts)) small (no_star_left left m) (is_false (read.is_starred ts) h));
    fails = λ ts s rest h e. number_failed shipped.wide unstarred C ts s rest e refl (λ left m big. wide_is_large left (head ts).number (next (behind ts)) big);
  }

  pub behind_star : Tracks (rule.after k.Star (rule.number shipped.narrow)) (rule.after k.Star (rule.number unlimited.narrow)) (reading.after k.Star (reading.number shipped.narrow)) (reading.after k.Star (reading.number unlimited.narrow)) C any unstarred
  unfolding same
  behind_star = after k.Star refl refl refl refl narrow

  column_led : Tracks (g.column_led shipped) (g.column_led unlimited) (read.column_led shipped) (read.column_led unlimited) C any unstarred
  unfolding read.column_led same
  column_led = gives (λ p. column_term p.0 p.1) (followed column (maybe (is k.Star) refl (plainly behind_star)) refl)

  -- ---- a number, and perhaps a column behind a `*`

  abbrev with_column : Limits → Parser RawTerm
  with_column limits = (λ p. number_term p.0 (Some p.1)) <$> (reading.number limits.narrow <+> reading.after k.Star read.column)

  abbrev by_itself : Limits → Parser RawTerm
  by_itself limits = (λ n. number_term n None) <$> reading.number limits.wide

  star_column : Tracks (rule.after k.Star g.column) (rule.after k.Star g.column) (reading.after k.Star read.column) (reading.after k.Star read.column) C any unstarred
  unfolding same
  star_column = after k.Star refl refl refl refl column

  led_moves : Moves (λ ts. cond (read.is_starred ts) (with_column shipped ts) (by_itself shipped ts)) C (is k.Number)
  led_moves = record {
    goes = λ ts s rest h c e. ⊎_elim
        (λ i. with_moves.goes ts s rest h c i.1)
        (λ i. alone_moves.goes ts s rest h c i.1)
        (if_is (read.is_starred ts) (with_column shipped ts) (by_itself shipped ts) (Err (s, rest)) e);
  }
    where
      with_moves : Moves (with_column shipped) C (is k.Number)
      with_moves = moves_gives (λ p. number_term p.0 (Some p.1)) (moves_then (moves_number shipped.narrow) (Shrinks-exact (exact.number shipped.narrow) (Full-number shipped.narrow)) (falls star_column))

      alone_moves : Moves (by_itself shipped) C (is k.Number)
      alone_moves = moves_gives (λ n. number_term n None) (moves_number shipped.wide)

  led_none : (limits : Limits) (b : Bool) (ts : List Tok) → is k.Number (next ts) ≡ false → cond b (with_column limits ts) (by_itself limits ts) ≡ Err (stop.Syntax, ts)
  led_none limits true ts e = rw e refl
  led_none limits false ts e = rw e refl

  led_at_once : (b : Bool) (s : Stop) (rest w : List Tok) → is k.Number (next rest) ≡ b → C.counts s → cond (read.is_starred rest) (with_column shipped rest) (by_itself shipped rest) ≡ Err (s, rest) → view rest ≡ view w
      → cond (read.is_starred w) (with_column unlimited w) (by_itself unlimited w) ≡ Err (s, w)
  led_at_once true s rest w h c e m = let less : length rest < length rest = led_moves.goes rest s rest h c e in absurd (omega arith)
  led_at_once false s rest w h c e m =
      let which : stop.Syntax ≡ s = ap (λ z. z.0) (Err-value (sym (led_none shipped (read.is_starred rest) rest h) ∙ e)) in
      led_none unlimited (read.is_starred w) w (ap (is k.Number) (sym (next_seen rest w m)) ∙ h) ∙ ap (λ z. Err (z, w)) which

  number_led : Tracks (g.number_led shipped) (g.number_led unlimited) (read.number_led shipped) (read.number_led unlimited) C unstarred unstarred
  unfolding read.number_led same
  number_led = along (λ us a h. ⊎_elim inr inl h) (λ us a h. ⊎_elim inr inl h)
      (by_test read.is_starred
      (gives_when (λ p. number_term p.0 (Some p.1)) (followed_when starred star_column refl))
      (gives_when (λ n. number_term n None) alone)
      (Full-gives (λ p. number_term p.0 (Some p.1)) (Full-left (rule.number shipped.narrow) (rule.after k.Star g.column) (Full-number shipped.narrow)))
      (Full-gives (λ n. number_term n None) (Full-number shipped.wide))
      steady_star
      (λ s rest w c e m. led_at_once (is k.Number (next rest)) s rest w refl c e m)
      (tok k.Number ∷ [], number_term (tok k.Number) None, inr (tok k.Number, (refl, refl, refl), refl), inr (tok k.Number, (refl, refl, refl), refl)))

  pub term : Tracks (g.term shipped) (g.term unlimited) (read.term shipped) (read.term unlimited) C unstarred unstarred
  unfolding read.term
  term = either (is k.Number) number_led (plainly column_led)

  pub signed_term : Tracks (g.signed_term shipped) (g.signed_term unlimited) (read.signed_term shipped) (read.signed_term unlimited) C any unstarred
  unfolding read.signed_term same
  signed_term = gives (λ p. signed p.0 p.1) (followed (token C is_sign unstarred k.Plus refl refl refl refl) term refl)

  sign : Tracks (rule.optional (rule.token is_sign)) (rule.optional (rule.token is_sign)) (reading.optional is_sign (reading.token is_sign)) (reading.optional is_sign (reading.token is_sign)) C unstarred unstarred
  unfolding same
  sign = maybe is_sign refl (plainly (token C is_sign unstarred k.Plus refl refl refl refl))

  terms : Tracks (rule.many (g.signed_term shipped)) (rule.many (g.signed_term unlimited)) (reading.many is_sign (read.signed_term shipped)) (reading.many is_sign (read.signed_term unlimited)) C unstarred unstarred
  terms = repeated (g.signed_term shipped) (g.signed_term unlimited) (read.signed_term shipped) (read.signed_term unlimited) C unstarred is_sign (plainly signed_term)
      no_sign (operands.Full-signed shipped) (Shrinks-exact (operands.signed_term unlimited) (operands.Full-signed unlimited))

  pub sum : Tracks (g.sum shipped) (g.sum unlimited) (read.sum shipped) (read.sum unlimited) C unstarred unstarred
  sum = alike (λ ts. operands.sum_alike shipped ts (is_sign (next ts)) refl) (λ ts. operands.sum_alike unlimited ts (is_sign (next ts)) refl)
      (gives (λ p. sum_of p.0 p.1.0 p.1.1) (followed sign (followed term terms (within_self unstarred)) (within_self unstarred)))

  pub operand : Tracks (g.operand shipped) (g.operand unlimited) (read.operand shipped) (read.operand unlimited) C unstarred unstarred
  unfolding read.operand
  operand = either read.is_literal (plainly literal) sum

  -- ---- arguments

  plain_none : (limits : Limits) (b : Bool) (ts : List Tok) → is k.Number (next ts) ≡ false → cond b (reading.number limits.narrow ts) (reading.number limits.wide ts) ≡ Err (stop.Syntax, ts)
  plain_none limits true ts e = rw e refl
  plain_none limits false ts e = rw e refl

  plain_moves : Moves (λ ts. cond (read.is_starred ts) (reading.number shipped.narrow ts) (reading.number shipped.wide ts)) C (is k.Number)
  plain_moves = record {
    goes = λ ts s rest h c e. ⊎_elim
        (λ i. narrow_moves.goes ts s rest h c i.1)
        (λ i. wide_moves.goes ts s rest h c i.1)
        (if_is (read.is_starred ts) (reading.number shipped.narrow ts) (reading.number shipped.wide ts) (Err (s, rest)) e);
  }
    where
      narrow_moves : Moves (reading.number shipped.narrow) C (is k.Number)
      narrow_moves = moves_number shipped.narrow

      wide_moves : Moves (reading.number shipped.wide) C (is k.Number)
      wide_moves = moves_number shipped.wide

  plain_at_once : (b : Bool) (s : Stop) (rest w : List Tok) → is k.Number (next rest) ≡ b → C.counts s → cond (read.is_starred rest) (reading.number shipped.narrow rest) (reading.number shipped.wide rest) ≡ Err (s, rest) → view rest ≡ view w
      → cond (read.is_starred w) (reading.number unlimited.narrow w) (reading.number unlimited.wide w) ≡ Err (s, w)
  plain_at_once true s rest w h c e m = let less : length rest < length rest = plain_moves.goes rest s rest h c e in absurd (omega arith)
  plain_at_once false s rest w h c e m =
      let which : stop.Syntax ≡ s = ap (λ z. z.0) (Err-value (sym (plain_none shipped (read.is_starred rest) rest h) ∙ e)) in
      plain_none unlimited (read.is_starred w) w (ap (is k.Number) (sym (next_seen rest w m)) ∙ h) ∙ ap (λ z. Err (z, w)) which

  held : (us : List Tok) (a : Tok) → (rule.number shipped.narrow ⊕ rule.number shipped.wide) us a → rule.number shipped.wide us a
  held us a (inl h) = (h.0, h.1, nested a.number h.2)
  held us a (inr h) = h

  held_unlimited : (us : List Tok) (a : Tok) → (rule.number unlimited.narrow ⊕ rule.number unlimited.wide) us a → rule.number unlimited.wide us a
  held_unlimited us a (inl h) = h
  held_unlimited us a (inr h) = h

  pub plain_number : Tracks (rule.number shipped.wide) (rule.number unlimited.wide) (read.plain_number shipped) (read.plain_number unlimited) C unstarred unstarred
  unfolding read.plain_number same
  plain_number = along held held_unlimited
      (by_test read.is_starred starred alone (Full-number shipped.narrow) (Full-number shipped.wide) steady_star
      (λ s rest w c e m. plain_at_once (is k.Number (next rest)) s rest w refl c e m)
      (tok k.Number ∷ [], tok k.Number, inr (refl, refl, refl), inr (refl, refl, refl)))

  pub simple : Tracks (g.simple shipped) (g.simple unlimited) (read.simple shipped) (read.simple unlimited) C unstarred unstarred
  unfolding read.simple read.simple_number read.simple_column
  simple = either read.is_literal (plainly literal)
      (either read.begins_number
      (gives (λ p. sum_of p.0 (number_term p.1 None) []) (followed sign plain_number (within_self unstarred)))
      (gives (λ c. sum_of None (column_term c None) []) (plainly column)))

  -- ---- what begins with a name doesn't fail at once

  pub name_moves : Moves read.name C is_name
  unfolding read.name
  name_moves = moves_gives name_of (moves_token C is_name)

  column_moves : Moves read.column C is_name
  unfolding read.column same
  column_moves = moves_gives (λ p. column_of p.0 p.1) (moves_then name_moves (shrinks_by name Full-name) (falls (maybe (is k.Dot) refl (plainly (after k.Dot refl refl refl refl name)))))

  column_led_moves : Moves (read.column_led shipped) C is_name
  unfolding read.column_led same
  column_led_moves = moves_gives (λ p. column_term p.0 p.1) (moves_then column_moves (shrinks_by column Full-column) (falls (maybe (is k.Star) refl (plainly behind_star))))

  term_moves : Moves (read.term shipped) C is_name
  unfolding read.term same
  term_moves = moves_right (is k.Number) (read.number_led shipped) refl column_led_moves

  sum_moves : Moves (read.sum shipped) C is_name
  unfolding read.sum read.sum_from same
  sum_moves = moves_right is_sign _ refl (moves_chain term_moves (shrinks_by term (Full-term shipped)) (λ first. falls (gives (λ more. o.Sum first.at (first ∷ more)) terms)))

  pub operand_moves : Moves (read.operand shipped) C is_name
  unfolding read.operand same
  operand_moves = moves_right read.is_literal read.literal refl sum_moves
