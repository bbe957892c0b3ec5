use Rattle.std.proofs.Common.{◌≡◌, ◌∙◌, true, false, ap, sym, refl}
use Rattle.sq_token.specs.Mark.{is_comparison}
use Rattle.sq_token.specs.Tok.{next}
use Rattle.sq_parse.specs.Reader as read
use Rattle.sq_parse.proofs.Steps.{hands_on}
use Rattle.sq_parse.proofs.predicate.comparison.Goals as goal

pub returns-then-not-is_comparison : goal.returns-then-not-is_comparison
unfolding read.comparison
returns-then-not-is_comparison c =
    let none : is_comparison (next c.args.tokens.now) ≡ false = ap is_comparison (sym c.peek-mark.ensures) ∙ sym c.is_comparison.ensures ∙ c.if-not-is_comparison.true in
    λ other. rw none refl

pub returns-in_err-right : goal.returns-in_err-right
unfolding read.comparison
returns-in_err-right c =
    let some : is_comparison (next c.args.tokens.now) ≡ true = ap is_comparison (sym c.peek-mark.ensures) ∙ sym c.is_comparison.ensures ∙ c.if-not-is_comparison.false in
    hands_on _ _ _ _ c.from_residual.ensures.1 (λ other. rw (some, rw c.advance.ensures at (c.in_err-right.ensures other)) refl)

pub returns : goal.returns
unfolding read.comparison
returns c =
    let some : is_comparison (next c.args.tokens.now) ≡ true = ap is_comparison (sym c.peek-mark.ensures) ∙ sym c.is_comparison.ensures ∙ c.if-not-is_comparison.false in
    rw (some, rw c.advance.ensures at c.in_ok-right.ensures, c.begin_of.ensures, c.comparison_by.ensures, c.peek-mark.ensures) refl
