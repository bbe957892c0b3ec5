-- The readers of conditions are exact for their rules, however deep.
use Rattle.std.proofs.Common.{◌≡◌, Bool, true, not, ◌||◌, ℕ, zero, suc, List, refl}
use Rattle.sq_token.specs.declared.mark.Mark.{Mark}
use Rattle.sq_token.specs.declared.mark.Mark.TheVariants as k
use Rattle.sq_parse.specs.declared.stop.Stop.TheVariants as stop
use Rattle.sq_parse.specs.declared.tree.Tree.{Tree}
use Rattle.sq_parse.specs.declared.tree.Tree.TheVariants as t
use Rattle.sq_token.specs.Mark.{is, same, is_sign, is_truth_word}
use Rattle.sq_token.specs.Tok.{Tok}
use Rattle.sq_parse.specs.Tree.{tested, all_of, any_of}
use Rattle.sq_parse.specs.Rules as rule
use Rattle.sq_parse.specs.Rules.{◌⊗◌, ◌⊕◌, ◌⊛◌}
use Rattle.sq_parse.specs.Reading as reading
use Rattle.sq_parse.specs.Reading.{Parser, ◌<$>◌, ◌<+>◌}
use Rattle.sq_parse.specs.Grammar as g
use Rattle.sq_parse.specs.Grammar.{Limits}
use Rattle.sq_parse.specs.Reader as read
use Rattle.sq_parse.proofs.Exact.{Exact, token, weaker, gives, followed, either, maybe, after, closed, listed, never}
use Rattle.sq_parse.proofs.OperandsExact.{anything, ends_operand, begins_operand}
use Rattle.sq_parse.proofs.PredicatesExact.{negated, predicate}

-- ---- what may follow

abbrev pub ends_test : Mark → Bool
ends_test m = not (is k.Dot m || is k.Star m || is_sign m || is k.Is m)

abbrev pub ends_conjunction : Mark → Bool
ends_conjunction m = not (is k.Dot m || is k.Star m || is_sign m || is k.Is m || is k.And m)

abbrev pub ends_condition : Mark → Bool
ends_condition m = not (is k.Dot m || is k.Star m || is_sign m || is k.Is m || is k.And m || is k.Or m)

abbrev pub begins_primary : Mark → Bool
begins_primary m = is k.Open m || begins_operand m

abbrev pub begins_condition : Mark → Bool
begins_condition m = is k.Not m || begins_primary m

module _ (limits : Limits) (nested : (n : ℕ) → limits.narrow n ≡ true → limits.wide n ≡ true) where
  primary : (l : List Tok → Tree → Type 0) (p : Parser Tree) → Exact (rule.enclosed l) p (is k.Open) anything → Exact (g.primary limits l) (read.primary limits p) begins_primary ends_operand
  unfolding read.primary same
  primary l p x = weaker begins_primary ends_operand (either (is k.Open) x (predicate limits nested) refl refl) refl refl

  test : (l : List Tok → Tree → Type 0) (p : Parser Tree) → Exact (rule.enclosed l) p (is k.Open) anything → Exact (g.test limits l) (read.truth_test limits p) begins_primary ends_test
  unfolding read.truth_test same
  test l p x = gives (λ p. tested p.0 p.1) (followed (primary l p x)
      (maybe (is k.Is) ends_test (after k.Is refl (followed (negated limits is_truth_word refl) (token is_truth_word refl) refl)) refl refl refl) refl)

  negation : (m l : List Tok → Tree → Type 0) (q p : Parser Tree) → Exact (rule.after k.Not m) q (is k.Not) ends_test → Exact (rule.enclosed l) p (is k.Open) anything
      → Exact (g.negation limits m l) (read.negation limits q p) begins_condition ends_test
  unfolding read.negation same
  negation m l q p y x = weaker begins_condition ends_test (either (is k.Not) (gives t.Not y) (test l p x) refl refl) refl refl

  conjunction : (n : List Tok → Tree → Type 0) (p : Parser Tree) → Exact n p begins_condition ends_test → Exact (g.conjunction n) (read.conjunction p) begins_condition ends_conjunction
  unfolding read.conjunction same
  conjunction n p x = gives (λ p. all_of p.0 p.1) (listed k.And ends_conjunction refl x refl refl refl refl refl)

  disjunction : (n : List Tok → Tree → Type 0) (p : Parser Tree) → Exact n p begins_condition ends_test → Exact (g.disjunction n) (read.disjunction p) begins_condition ends_condition
  unfolding read.disjunction same
  disjunction n p x = gives (λ p. any_of p.0 p.1) (listed k.Or ends_condition refl (conjunction n p x) refl refl refl refl refl)

  none_after : Exact (rule.after k.Not (rule.nothing {A = Tree})) (reading.refuse stop.TooDeep) (is k.Not) ends_test
  none_after = never (rule.after k.Not rule.nothing) stop.TooDeep (is k.Not) ends_test (λ us a h. h.1.right)

  none_enclosed : Exact (rule.enclosed (rule.nothing {A = Tree})) (reading.refuse stop.TooDeep) (is k.Open) anything
  none_enclosed = never (rule.enclosed rule.nothing) stop.TooDeep (is k.Open) anything (λ us a h. h.1.right.1.left)

  pub neg : (d : ℕ) → Exact (g.neg limits d) (read.neg limits d) begins_condition ends_test
  unfolding read.neg same
  neg zero = negation rule.nothing rule.nothing (reading.refuse stop.TooDeep) (reading.refuse stop.TooDeep) none_after none_enclosed
  neg (suc d) = negation (g.neg limits d) (g.disjunction (g.neg limits d)) _ _ (after k.Not refl (neg d)) (closed (disjunction (g.neg limits d) (read.neg limits d) (neg d)) refl)

  pub condition : (d : ℕ) → Exact (g.condition limits d) (read.condition limits d) begins_condition ends_condition
  unfolding read.condition
  condition d = disjunction (g.neg limits d) (read.neg limits d) (neg d)

  pub conjunction_at : (d : ℕ) → Exact (g.conjunction (g.neg limits d)) (read.conjunction_at limits d) begins_condition ends_conjunction
  unfolding read.conjunction_at
  conjunction_at d = conjunction (g.neg limits d) (read.neg limits d) (neg d)
