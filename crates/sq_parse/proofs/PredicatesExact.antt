-- The readers of predicates are exact for their rules.
use Rattle.std.proofs.Common.{◌≡◌, Bool, true, false, ◌&&◌, ◌||◌, inl, inr, ℕ, List, ◌∷◌, ◌++◌, Option, Some, None, is_some, refl, append_assoc}
use Rattle.sq_token.specs.declared.mark.Mark.{Mark}
use Rattle.sq_token.specs.declared.mark.Mark.TheVariants as k
use Rattle.sq_parse.specs.declared.tree.Operand.{Operand}
use Rattle.sq_parse.specs.declared.tree.Operand.TheVariants as o
use Rattle.sq_parse.specs.declared.tree.Tree.{Tree}
use Rattle.sq_parse.specs.declared.tree.Tree.TheVariants as t
use Rattle.sq_token.specs.Mark.{is, same, is_name, is_sign, is_comparison}
use Rattle.sq_token.specs.Tok.{Tok, next}
use Rattle.sq_parse.specs.Tree.{name_of, number_term, column_term, sum_of, begin_of, comparison_by}
use Rattle.sq_parse.specs.Rules as rule
use Rattle.sq_parse.specs.Rules.{Then, ◌⊗◌, ◌⊕◌, ◌⊛◌}
use Rattle.sq_parse.specs.Reading as reading
use Rattle.sq_parse.specs.Reading.{Parser, ◌>>=◌, ◌<$>◌, ◌<+>◌}
use Rattle.sq_parse.specs.Grammar as g
use Rattle.sq_parse.specs.Grammar.{Limits}
use Rattle.sq_parse.specs.Reader as read
use Rattle.sq_token.proofs.Marks.{within, within_at, apart, apart_at, all_within}
use Rattle.sq_parse.proofs.Exact.{Exact, Chain, token, number, weaker, gives, followed, chained, along, by_test, either, maybe, repeated, after, closed, list_exact}
use Rattle.sq_parse.proofs.OperandsExact.{anything, ends_term, ends_operand, begins_term, begins_operand, name, column, signed_term, Full-signed, term, operand, simple}

-- ---- no call begins with an operand

-- before what may follow, no name is followed by a parenthesis
abbrev NoCall : {A : Type 0} → (List Tok → A → Type 0) → (Mark → Bool) → Type 0
NoCall {A} l f = (us : List Tok) (a : A) (w : List Tok) → l us a → f (next w) ≡ true → read.begins_call (us ++ w) ≡ false

and_false : (a : Bool) → (a && false) ≡ false
and_false true = refl
and_false false = refl

single : (t : Tok) (w : List Tok) → is k.Open (next w) ≡ false → read.begins_call (t ∷ w) ≡ false
single t w e = rw e (and_false (is_name t.mark))

NoCall-token : (p f : Mark → Bool) → apart f (is k.Open) ≡ true → NoCall (rule.token p) f
NoCall-token p f fails us t w h e = rw h.0 (single t w (apart_at f (is k.Open) fails (next w) e))

NoCall-number : (n : ℕ → Bool) (f : Mark → Bool) → apart f (is k.Open) ≡ true → NoCall (rule.number n) f
NoCall-number n f fails us t w h e = rw h.0 (single t w (apart_at f (is k.Open) fails (next w) e))

NoCall-gives : {A B : Type 0} (l : List Tok → A → Type 0) (h : A → B) (f : Mark → Bool) → NoCall l f → NoCall (h ⊛ l) f
NoCall-gives l h f x us b w y e = x us y.0 w y.1 e

NoCall-either : {A : Type 0} (l r : List Tok → A → Type 0) (f : Mark → Bool) → NoCall l f → NoCall r f → NoCall (l ⊕ r) f
NoCall-either l r f x y us a w (inl h) e = x us a w h e
NoCall-either l r f x y us a w (inr h) e = y us a w h e

NoCall-then : {A B : Type 0} (l : List Tok → A → Type 0) (r : List Tok → B → Type 0) (q : Parser B) (s f f' : Mark → Bool) → NoCall l f → Exact r q s f' → within s f ≡ true → NoCall (l ⊗ r) f'
NoCall-then l r q s f f' x y joins us c w h e =
    rw (h.parts, append_assoc) (x h.first c.0 (h.second ++ w) h.left (within_at s f joins _ (y.begins h.second c.1 w h.right e)))

module _ {A B : Type 0} (l : List Tok → A → Type 0) (r : List Tok → B → Type 0) (q : Parser B) (s f f' : Mark → Bool) (x : NoCall l f) (y : Exact r q s f') (joins : within s f ≡ true) (z : NoCall r f') where
  maybe_first : (o : Option A) (b : B) (us first second w : List Tok) → us ≡ first ++ second → rule.optional l first o → r second b → f' (next w) ≡ true → read.begins_call (us ++ w) ≡ false
  maybe_first None b us first second w parts none right e = rw (parts, none) (z second b w right e)
  maybe_first (Some a) b us first second w parts left right e =
      rw (parts, append_assoc) (x first a (second ++ w) left (within_at s f joins _ (y.begins second b w right e)))

  NoCall-maybe : NoCall (rule.optional l ⊗ r) f'
  NoCall-maybe us c w h e = maybe_first c.0 c.1 us h.first h.second w h.parts h.left h.right e

-- what comes behind an operand in a predicate, behind a term, and behind a column
abbrev begins_tail : Mark → Bool
begins_tail m = is_comparison m || is k.Is m || is k.Not m || is k.Between m || is k.In m

abbrev behind_term : Mark → Bool
behind_term m = is_sign m || begins_tail m

abbrev behind_column : Mark → Bool
behind_column m = is k.Star m || behind_term m

abbrev behind_name : Mark → Bool
behind_name m = is k.Dot m || behind_column m

NoCall-column : NoCall g.column behind_column
unfolding same
NoCall-column = NoCall-gives _ _ behind_column (NoCall-then g.name (rule.optional (rule.after k.Dot g.name)) _ behind_name behind_name behind_column
    (NoCall-gives (rule.token is_name) name_of behind_name (NoCall-token is_name behind_name refl))
    (maybe (is k.Dot) behind_column (after k.Dot refl name) refl refl refl) refl)

module _ (limits : Limits) where
  NoCall-term : NoCall (g.term limits) behind_term
  unfolding same
  NoCall-term = NoCall-either (g.number_led limits) (g.column_led limits) behind_term
      (NoCall-either _ _ behind_term
      (NoCall-gives (rule.number limits.wide) (λ n. number_term n None) behind_term (NoCall-number limits.wide behind_term refl))
      (NoCall-gives _ (λ p. number_term p.0 (Some p.1)) behind_term (NoCall-then (rule.number limits.narrow) (rule.after k.Star g.column) _ (is k.Star) (is k.Star) behind_term
      (NoCall-number limits.narrow (is k.Star) refl) (weaker (is k.Star) behind_term (after k.Star refl column) refl refl) refl)))
      (NoCall-gives _ (λ p. column_term p.0 p.1) behind_term (NoCall-then g.column (rule.optional (rule.after k.Star (rule.number limits.narrow))) _ behind_column behind_column behind_term
      NoCall-column (maybe (is k.Star) behind_term (after k.Star refl (number limits.narrow)) refl refl refl) refl))

  terms : Exact (rule.many (g.signed_term limits)) (reading.many is_sign (read.signed_term limits)) behind_term begins_tail
  unfolding same
  terms = repeated (g.signed_term limits) (read.signed_term limits) is_sign ends_term is_sign begins_tail (signed_term limits) refl refl refl refl (Full-signed limits)

  NoCall-operand : NoCall (g.operand limits) begins_tail
  unfolding same
  NoCall-operand = NoCall-either g.literal (g.sum limits) begins_tail
      (NoCall-either _ _ begins_tail
      (NoCall-gives (rule.mark k.Null) (λ n. o.Null n.at) begins_tail (NoCall-token (is k.Null) begins_tail refl))
      (NoCall-gives (rule.mark k.Text) (λ x. o.Text x.at x.text) begins_tail (NoCall-token (is k.Text) begins_tail refl)))
      (NoCall-gives _ (λ p. sum_of p.0 p.1.0 p.1.1) begins_tail
      (NoCall-maybe (rule.token is_sign) (g.term limits ⊗ rule.many (g.signed_term limits)) _ begins_term begins_term begins_tail
      (NoCall-token is_sign begins_term refl)
      (followed (term limits) terms refl) refl
      (NoCall-then (g.term limits) (rule.many (g.signed_term limits)) _ behind_term behind_term begins_tail NoCall-term terms refl)))

  -- ---- predicates with a subject, told by what stands behind it

  abbrev pub compared_rest : Operand → List Tok → Tree → Type 0
  compared_rest x = (λ p. t.Compare (begin_of x) x (comparison_by p.0.mark) p.1) ⊛ (rule.token is_comparison ⊗ g.operand limits)

  abbrev pub null_rest : Operand → List Tok → Tree → Type 0
  null_rest x = (λ p. t.IsNull (begin_of x) (is_some p.0) x) ⊛ rule.after k.Is (rule.optional (rule.mark k.Not) ⊗ rule.mark k.Null)

  abbrev pub between_rest : Operand → Option Tok → List Tok → Tree → Type 0
  between_rest x n = (λ p. t.Between (begin_of x) (is_some n) x p.0 p.1) ⊛ (rule.after k.Between (g.operand limits) ⊗ rule.after k.And (g.operand limits))

  abbrev pub within_rest : Operand → Option Tok → List Tok → Tree → Type 0
  within_rest x n = (λ p. t.Within (begin_of x) (is_some n) x p) ⊛ rule.after k.In (rule.enclosed (rule.list_of k.Comma (g.operand limits)))

  abbrev pub ranged_rest : Operand → List Tok → Tree → Type 0
  ranged_rest x = Chain (rule.optional (rule.mark k.Not)) (λ n. between_rest x n ⊕ within_rest x n)

  abbrev pub subject_rest : Operand → List Tok → Tree → Type 0
  subject_rest x = compared_rest x ⊕ null_rest x ⊕ ranged_rest x

  abbrev pub with_subject : List Tok → Tree → Type 0
  with_subject = Chain (g.operand limits) subject_rest

  to_rest : (us : List Tok) (a : Tree) → g.predicate limits us a → (g.call limits ⊕ with_subject) us a
  to_rest us a (inl h) =
      inr (record { first = h.1.first; second = h.1.second; between = h.0.0; parts = h.1.parts; left = h.1.left; right = inl (h.0.1, h.1.right, h.2) })
  to_rest us a (inr (inl h)) =
      let r = h.1.right in
      inr (record {
        first = h.1.first;
        second = h.1.second;
        between = h.0.0;
        parts = h.1.parts;
        left = h.1.left;
        right = inr (inr (record { first = r.first; second = r.second; between = h.0.1.0; parts = r.parts; left = r.left; right = inl (h.0.1.1, r.right, h.2) }));
      })
  to_rest us a (inr (inr (inl h))) =
      let r = h.1.right in
      inr (record {
        first = h.1.first;
        second = h.1.second;
        between = h.0.0;
        parts = h.1.parts;
        left = h.1.left;
        right = inr (inr (record { first = r.first; second = r.second; between = h.0.1.0; parts = r.parts; left = r.left; right = inr (h.0.1.1, r.right, h.2) }));
      })
  to_rest us a (inr (inr (inr (inl h)))) =
      inr (record { first = h.1.first; second = h.1.second; between = h.0.0; parts = h.1.parts; left = h.1.left; right = inr (inl (h.0.1, h.1.right, h.2)) })
  to_rest us a (inr (inr (inr (inr h)))) = inl h

  from_ranged : (us first second : List Tok) (x : Operand) (a : Tree) → us ≡ first ++ second → g.operand limits first x → (f' s' : List Tok) (n : Option Tok) → second ≡ f' ++ s' → rule.optional (rule.mark k.Not) f' n → (between_rest x n ⊕ within_rest x n) s' a → g.predicate limits us a
  from_ranged us first second x a parts left f' s' n inner negated (inl b) =
      inr (inl ((x, (n, b.0)), record { first = first; second = second; parts = parts; left = left; right = record { first = f'; second = s'; parts = inner; left = negated; right = b.1 } }, b.2))
  from_ranged us first second x a parts left f' s' n inner negated (inr b) =
      inr (inr (inl ((x, (n, b.0)), record { first = first; second = second; parts = parts; left = left; right = record { first = f'; second = s'; parts = inner; left = negated; right = b.1 } }, b.2)))

  from_subject : (us first second : List Tok) (x : Operand) (a : Tree) → us ≡ first ++ second → g.operand limits first x → subject_rest x second a → g.predicate limits us a
  from_subject us first second x a parts left (inl c) = inl ((x, c.0), record { first = first; second = second; parts = parts; left = left; right = c.1 }, c.2)
  from_subject us first second x a parts left (inr (inl c)) =
      inr (inr (inr (inl ((x, c.0), record { first = first; second = second; parts = parts; left = left; right = c.1 }, c.2))))
  from_subject us first second x a parts left (inr (inr c)) = from_ranged us first second x a parts left c.first c.second c.between c.parts c.left c.right

  pub from_rest : (us : List Tok) (a : Tree) → (g.call limits ⊕ with_subject) us a → g.predicate limits us a
  from_rest us a (inl h) = inr (inr (inr (inr h)))
  from_rest us a (inr h) = from_subject us h.first h.second h.between a h.parts h.left h.right

  pub negated : (f : Mark → Bool) → apart f (is k.Not) ≡ true → Exact (rule.optional (rule.mark k.Not)) (reading.optional (is k.Not) (reading.mark k.Not)) (λ m. is k.Not m || f m) f
  unfolding same
  negated f fails = maybe (is k.Not) f (token (is k.Not) refl) refl fails (all_within f)

  comparison : (x : Operand) → Exact (compared_rest x) (read.comparison limits x) is_comparison ends_operand
  unfolding read.comparison same
  comparison x = gives (λ p. t.Compare (begin_of x) x (comparison_by p.0.mark) p.1) (followed (token is_comparison refl) (operand limits) refl)

  null_test : (x : Operand) → Exact (null_rest x) (read.null_test limits x) (is k.Is) anything
  unfolding read.null_test same
  null_test x = gives (λ p. t.IsNull (begin_of x) (is_some p.0) x) (after k.Is refl (followed (negated (is k.Null) refl) (token (is k.Null) refl) refl))

  between : (x : Operand) (n : Option Tok) → Exact (between_rest x n) (read.between limits x (is_some n)) (is k.Between) ends_operand
  unfolding read.between same
  between x n = gives (λ p. t.Between (begin_of x) (is_some n) x p.0 p.1) (followed (after k.Between refl (operand limits)) (after k.And refl (operand limits)) refl)

  abbrev ends_operands : Mark → Bool
  ends_operands m = is k.Close m

  operands : Exact (rule.list_of k.Comma (g.operand limits)) (read.operands limits) begins_operand ends_operands
  unfolding read.operands same
  operands = list_exact k.Comma ends_operands refl (operand limits) refl refl refl refl refl

  listed_in : (x : Operand) (n : Option Tok) → Exact (within_rest x n) (read.within limits x (is_some n)) (is k.In) anything
  unfolding read.within same
  listed_in x n = gives (λ all. t.Within (begin_of x) (is_some n) x all) (after k.In refl (closed operands refl))

  abbrev begins_range : Mark → Bool
  begins_range m = is k.Between m || is k.In m

  ranged : (x : Operand) → Exact (ranged_rest x) (read.ranged limits x) (λ m. is k.Not m || begins_range m) ends_operand
  unfolding read.ranged same
  ranged x = chained (negated begins_range refl) (λ n. weaker begins_range ends_operand (either (is k.Between) (between x n) (listed_in x n) refl refl) refl refl) refl

  behind_subject : (x : Operand) → Exact (subject_rest x) (read.behind_subject limits x) begins_tail ends_operand
  unfolding read.behind_subject same
  behind_subject x = weaker begins_tail ends_operand (either is_comparison (comparison x) (either (is k.Is) (null_test x) (ranged x) refl refl) refl refl) refl refl

  module _ (nested : (n : ℕ) → limits.narrow n ≡ true → limits.wide n ≡ true) where
    call : Exact (g.call limits) (read.call limits) is_name anything
    unfolding read.call read.simples same
    call = gives (λ p. t.Call p.0 p.1) (followed name (closed (list_exact k.Comma ends_operands refl (simple limits nested) refl refl refl refl refl) refl) refl)

    called : (us : List Tok) (a : Tree) (w : List Tok) → g.call limits us a → read.begins_call (us ++ w) ≡ true
    called us a w h =
        let c = h.1 in
        let o = c.right.1 in
        let n = c.left.1 in
        rw (c.parts, n.0, o.parts, o.left.0, n.1) o.left.1

    uncalled : (us : List Tok) (a : Tree) (w : List Tok) → with_subject us a → ends_operand (next w) ≡ true → read.begins_call (us ++ w) ≡ false
    uncalled us a w h e =
        rw (h.parts, append_assoc) (NoCall-operand h.first h.between (h.second ++ w) h.left ((behind_subject h.between).begins h.second a w h.right e))

    pub predicate : Exact (g.predicate limits) (read.predicate limits) begins_operand ends_operand
    unfolding read.predicate same
    predicate = along to_rest from_rest (weaker begins_operand ends_operand
        (by_test read.begins_call call (chained (operand limits) behind_subject refl)
        (λ us a w h e. called us a w h)
        uncalled)
        refl refl)
