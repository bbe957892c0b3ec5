use Rattle.std.proofs.Common.{rules, ◌≡◌, ◌-◌, ◌∙◌, [], true, false, refl, ap, sym, subst, arith}
use Rattle.sq_token.specs.declared.mark.Mark.TheVariants as k
use Rattle.sq_parse.specs.declared.tree.Tree.TheVariants as tree
use Rattle.sq_parse.specs.Grammar.{shipped}
use Rattle.sq_token.specs.Mark.{is}
use Rattle.sq_token.specs.Tok.{next}
use Rattle.sq_parse.specs.Tree.{all_of, any_of}
use Rattle.sq_parse.specs.Reading.{after, Reads}
use Rattle.sq_parse.specs.Reader as read
use Rattle.sq_parse.proofs.Shrinking as shrinking
use Rattle.sq_parse.proofs.Steps.{hands_on, after_none, enclosed_ok, enclosed_fails, enclosed_unclosed, denied_none, denied_more, nested_none, nested_more, neg_is, part_alone, part_fails, more_fails, part_more}
use Rattle.sq_parse.proofs.Loops.{so_far_more, so_far_all, so_far_error, after_is}
use Rattle.sq_parse.proofs.condition.+condition.Goals as goal

-- ---- NOT and parentheses

pub denied-returns-then-depth-eq0 : goal.denied-returns-then-depth-eq0
denied-returns-then-depth-eq0 t c _ = denied_none shipped c.args.depth c.args.tokens.now (omega arith)

pub denied-returns-in_err-expect : goal.denied-returns-in_err-expect
denied-returns-in_err-expect t c =
    hands_on _ _ _ _ c.from_residual.ensures.1 (λ other.
    denied_more shipped c.args.depth c.args.tokens.now (omega arith) ∙ (after_none k.Not _ c.args.tokens.now c.in_err-expect.ensures.0 ∙ rw (c.in_err-expect.ensures.1, c.in_err-expect.ensures.2) refl))

pub denied-returns : goal.denied-returns
denied-returns t c =
    let is_same = denied_more shipped c.args.depth c.args.tokens.now (omega arith) ∙ (after_is k.Not (read.neg shipped (c.args.depth - 1)) c.args.tokens.now c.in_ok-expect.ensures.0 ∙ ap (read.neg shipped (c.args.depth - 1)) (sym c.in_ok-expect.ensures.1)) in
    subst (λ o. Reads o c.negation.result c.negation.new.tokens) (sym is_same) c.negation.ensures

pub nested-returns-then-depth-eq0 : goal.nested-returns-then-depth-eq0
nested-returns-then-depth-eq0 t c _ = nested_none shipped c.args.depth c.args.tokens.now (omega arith)

pub nested-returns-in_err-expect : goal.nested-returns-in_err-expect
nested-returns-in_err-expect t c =
    hands_on _ _ _ _ c.from_residual.ensures.1 (λ other.
    nested_more shipped c.args.depth c.args.tokens.now (omega arith) ∙ (after_none k.Open _ c.args.tokens.now c.in_err-expect.ensures.0 ∙ rw (c.in_err-expect.ensures.1, c.in_err-expect.ensures.2) refl))

pub nested-returns-in_err-inner : goal.nested-returns-in_err-inner
nested-returns-in_err-inner t c =
    hands_on _ _ _ _ c.from_residual-in_err-inner.ensures.1 (λ other.
    nested_more shipped c.args.depth c.args.tokens.now (omega arith)
    ∙ enclosed_fails (read.condition shipped (c.args.depth - 1)) c.args.tokens.now _ _ c.in_ok-expect.ensures.0 (rw c.in_ok-expect.ensures.1 at (c.in_err-inner.ensures other)))

pub nested-returns-in_err-expect-2 : goal.nested-returns-in_err-expect-2
nested-returns-in_err-expect-2 t c =
    hands_on _ _ _ _ c.from_residual-in_err-expect-2.ensures.1 (λ other.
    nested_more shipped c.args.depth c.args.tokens.now (omega arith)
    ∙ (enclosed_unclosed (read.condition shipped (c.args.depth - 1)) c.args.tokens.now _ _ c.in_ok-expect.ensures.0 (rw c.in_ok-expect.ensures.1 at c.in_ok-inner.ensures) c.in_err-expect-2.ensures.0
    ∙ rw (c.in_err-expect-2.ensures.1, c.in_err-expect-2.ensures.2) refl))

pub nested-returns : goal.nested-returns
nested-returns t c =
    nested_more shipped c.args.depth c.args.tokens.now (omega arith)
    ∙ (enclosed_ok (read.condition shipped (c.args.depth - 1)) c.args.tokens.now _ _ c.in_ok-expect.ensures.0 (rw c.in_ok-expect.ensures.1 at c.in_ok-inner.ensures) c.in_ok-expect-2.ensures.0
    ∙ rw c.in_ok-expect-2.ensures.1 refl)

pub negation-returns-then-not-sees : goal.negation-returns-then-not-sees
unfolding read.negation read.test_at
negation-returns-then-not-sees t c =
    let other : is k.Not (next c.args.tokens.now) ≡ false = search rules in
    subst (λ o. Reads o c.test.result c.test.new.tokens) (sym (neg_is shipped c.args.depth c.args.tokens.now ∙ rw other refl)) c.test.ensures

pub negation-returns-in_err-tree : goal.negation-returns-in_err-tree
unfolding read.negation
negation-returns-in_err-tree t c =
    let begins : is k.Not (next c.args.tokens.now) ≡ true = search rules in
    hands_on _ _ _ _ c.from_residual.ensures.1 (λ other. neg_is shipped c.args.depth c.args.tokens.now ∙ rw (begins, c.in_err-tree.ensures other) refl)

pub negation-returns : goal.negation-returns
unfolding read.negation
negation-returns t c =
    let begins : is k.Not (next c.args.tokens.now) ≡ true = search rules in
    neg_is shipped c.args.depth c.args.tokens.now ∙ rw (begins, c.in_ok-tree.ensures, c.in_ok-tree-2.ensures) refl

-- ---- conjunction

pub conjunction-returns-in_err-first : goal.conjunction-returns-in_err-first
unfolding read.conjunction_at read.conjunction
conjunction-returns-in_err-first t c =
    hands_on _ _ _ _ c.from_residual.ensures.1 (λ other. part_fails k.And (read.neg shipped c.args.depth) all_of shrinking.no_and (shrinking.neg c.args.depth) _ _ _ (c.in_err-first.ensures other))

pub conjunction-returns-then-not-sees : goal.conjunction-returns-then-not-sees
unfolding read.conjunction_at read.conjunction
conjunction-returns-then-not-sees t c =
    let ends : is k.And (next c.negation.new.tokens) ≡ false = search rules in
    part_alone k.And (read.neg shipped c.args.depth) all_of shrinking.no_and (shrinking.neg c.args.depth) _ _ _ c.in_ok-first.ensures ends

pub conjunction-returns-in_err-parts : goal.conjunction-returns-in_err-parts
unfolding read.conjunction_at read.conjunction
conjunction-returns-in_err-parts t c =
    hands_on _ _ _ _ c.from_residual-in_err-parts.ensures.1 (λ other. more_fails k.And (read.neg shipped c.args.depth) all_of shrinking.no_and (shrinking.neg c.args.depth) _ _ _ _ _ c.in_ok-first.ensures (c.in_err-parts.ensures other))

pub conjunction-returns : goal.conjunction-returns
unfolding read.conjunction_at read.conjunction
conjunction-returns t c =
    let begins : is k.And (next c.negation.new.tokens) ≡ true = search rules in
    part_more k.And (read.neg shipped c.args.depth) all_of shrinking.no_and (shrinking.neg c.args.depth) tree.All (λ x y ys. refl) _ _ _ [] _ _ _ c.in_ok-first.ensures begins (rw c.new-parts.ensures at c.in_ok-push.ensures.ok) c.in_ok-parts.ensures

-- ---- condition

pub condition-returns-in_err-first : goal.condition-returns-in_err-first
unfolding read.condition read.disjunction read.conjunction_at
condition-returns-in_err-first t c =
    hands_on _ _ _ _ c.from_residual.ensures.1 (λ other. part_fails k.Or (read.conjunction_at shipped c.args.depth) any_of shrinking.no_or (shrinking.conjunction c.args.depth) _ _ _ (c.in_err-first.ensures other))

pub condition-returns-then-not-sees : goal.condition-returns-then-not-sees
unfolding read.condition read.disjunction read.conjunction_at
condition-returns-then-not-sees t c =
    let ends : is k.Or (next c.conjunction.new.tokens) ≡ false = search rules in
    part_alone k.Or (read.conjunction_at shipped c.args.depth) any_of shrinking.no_or (shrinking.conjunction c.args.depth) _ _ _ c.in_ok-first.ensures ends

pub condition-returns-in_err-parts : goal.condition-returns-in_err-parts
unfolding read.condition read.disjunction read.conjunction_at
condition-returns-in_err-parts t c =
    hands_on _ _ _ _ c.from_residual-in_err-parts.ensures.1 (λ other. more_fails k.Or (read.conjunction_at shipped c.args.depth) any_of shrinking.no_or (shrinking.conjunction c.args.depth) _ _ _ _ _ c.in_ok-first.ensures (c.in_err-parts.ensures other))

pub condition-returns : goal.condition-returns
unfolding read.condition read.disjunction read.conjunction_at
condition-returns t c =
    let begins : is k.Or (next c.conjunction.new.tokens) ≡ true = search rules in
    part_more k.Or (read.conjunction_at shipped c.args.depth) any_of shrinking.no_or (shrinking.conjunction c.args.depth) tree.Any (λ x y ys. refl) _ _ _ [] _ _ _ c.in_ok-first.ensures begins (rw c.new-parts.ensures at c.in_ok-push.ensures.ok) c.in_ok-parts.ensures

-- ---- more_negations

pub more_negations-returns-in_err-negation : goal.more_negations-returns-in_err-negation
more_negations-returns-in_err-negation t c =
    let begins : is k.And (next c.more.tokens) ≡ true = search rules in
    so_far_error (is k.And) (after k.And (read.neg shipped c.args.depth)) shrinking.no_and (shrinking.neg c.args.depth) _ _ c.more.found c.more.tokens _ _ _ c.from_residual.ensures.1 c.more.invariant begins
    (λ other. after_is k.And (read.neg shipped c.args.depth) c.more.tokens begins ∙ rw c.advance.ensures at (c.in_err-negation.ensures other))

pub more_negations-more-smaller : goal.more_negations-more-smaller
more_negations-more-smaller t c =
    let begins : is k.And (next c.more.tokens) ≡ true = search rules in
    (shrinking.neg c.args.depth) c.more.tokens _ _ (after_is k.And (read.neg shipped c.args.depth) c.more.tokens begins ∙ rw c.advance.ensures at c.in_ok-negation.ensures)

pub more_negations-more-preserved : goal.more_negations-more-preserved
more_negations-more-preserved t c =
    let begins : is k.And (next c.more.tokens) ≡ true = search rules in
    so_far_more (is k.And) (after k.And (read.neg shipped c.args.depth)) shrinking.no_and (shrinking.neg c.args.depth) _ _ c.more.found c.more.tokens _ _ _ c.more.invariant begins
    (after_is k.And (read.neg shipped c.args.depth) c.more.tokens begins ∙ rw c.advance.ensures at c.in_ok-negation.ensures) c.in_ok-push.ensures.ok

pub more_negations-returns : goal.more_negations-returns
more_negations-returns t c =
    let ends : is k.And (next c.more.tokens) ≡ false = search rules in
    so_far_all (is k.And) (after k.And (read.neg shipped c.args.depth)) shrinking.no_and (shrinking.neg c.args.depth) _ _ _ _ c.more.invariant ends

-- ---- more_conjunctions

pub more_conjunctions-returns-in_err-conjunction : goal.more_conjunctions-returns-in_err-conjunction
more_conjunctions-returns-in_err-conjunction t c =
    let begins : is k.Or (next c.more.tokens) ≡ true = search rules in
    so_far_error (is k.Or) (after k.Or (read.conjunction_at shipped c.args.depth)) shrinking.no_or (shrinking.conjunction c.args.depth) _ _ c.more.found c.more.tokens _ _ _ c.from_residual.ensures.1 c.more.invariant begins
    (λ other. after_is k.Or (read.conjunction_at shipped c.args.depth) c.more.tokens begins ∙ rw c.advance.ensures at (c.in_err-conjunction.ensures other))

pub more_conjunctions-more-smaller : goal.more_conjunctions-more-smaller
more_conjunctions-more-smaller t c =
    let begins : is k.Or (next c.more.tokens) ≡ true = search rules in
    (shrinking.conjunction c.args.depth) c.more.tokens _ _ (after_is k.Or (read.conjunction_at shipped c.args.depth) c.more.tokens begins ∙ rw c.advance.ensures at c.in_ok-conjunction.ensures)

pub more_conjunctions-more-preserved : goal.more_conjunctions-more-preserved
more_conjunctions-more-preserved t c =
    let begins : is k.Or (next c.more.tokens) ≡ true = search rules in
    so_far_more (is k.Or) (after k.Or (read.conjunction_at shipped c.args.depth)) shrinking.no_or (shrinking.conjunction c.args.depth) _ _ c.more.found c.more.tokens _ _ _ c.more.invariant begins
    (after_is k.Or (read.conjunction_at shipped c.args.depth) c.more.tokens begins ∙ rw c.advance.ensures at c.in_ok-conjunction.ensures) c.in_ok-push.ensures.ok

pub more_conjunctions-returns : goal.more_conjunctions-returns
more_conjunctions-returns t c =
    let ends : is k.Or (next c.more.tokens) ≡ false = search rules in
    so_far_all (is k.Or) (after k.Or (read.conjunction_at shipped c.args.depth)) shrinking.no_or (shrinking.conjunction c.args.depth) _ _ _ _ c.more.invariant ends

-- ---- test

pub test-returns : goal.test-returns
unfolding read.test_at read.truth_test read.primary_at read.truth
test-returns t c = search rules
