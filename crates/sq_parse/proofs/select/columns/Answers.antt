use Rattle.std.proofs.Common.{rules, ◌≡◌, ◌∙◌, true, false}
use Rattle.sq_token.specs.declared.mark.Mark.TheVariants as k
use Rattle.sq_token.specs.Mark.{is}
use Rattle.sq_token.specs.Tok.{next}
use Rattle.sq_parse.specs.Reading.{after}
use Rattle.sq_parse.specs.Reader as read
use Rattle.sq_parse.proofs.Shrinking as shrinking
use Rattle.sq_parse.proofs.Loops.{so_far_more, so_far_all, so_far_error, after_is, list_done, list_fails}
use Rattle.sq_parse.proofs.select.columns.Goals as goal

pub returns-in_err-column-2 : goal.returns-in_err-column-2
unfolding read.columns
returns-in_err-column-2 c =
    let begins : is k.Comma (next c.more.tokens) ≡ true = search rules in
    list_fails k.Comma read.column _ _ _ _ _ _ _ c.in_ok-column.ensures c.from_residual-in_err-column-2.ensures.1
    (so_far_error (is k.Comma) (after k.Comma read.column) shrinking.no_comma shrinking.column _ _ c.more.found c.more.tokens _ _ _
    c.from_residual-in_err-column-2.ensures.1 c.more.invariant begins
    (λ other. after_is k.Comma read.column c.more.tokens begins ∙ rw c.advance.ensures at (c.in_err-column-2.ensures other)))

pub more-smaller : goal.more-smaller
more-smaller c =
    let begins : is k.Comma (next c.more.tokens) ≡ true = search rules in
    shrinking.column c.more.tokens _ _ (after_is k.Comma read.column c.more.tokens begins ∙ rw c.advance.ensures at c.in_ok-column-2.ensures)

pub more-preserved : goal.more-preserved
more-preserved c =
    let begins : is k.Comma (next c.more.tokens) ≡ true = search rules in
    so_far_more (is k.Comma) (after k.Comma read.column) shrinking.no_comma shrinking.column _ _ c.more.found c.more.tokens _ _ _ c.more.invariant begins
    (after_is k.Comma read.column c.more.tokens begins ∙ rw c.advance.ensures at c.in_ok-column-2.ensures) c.in_ok-push-2.ensures.ok

pub returns : goal.returns
unfolding read.columns
returns c =
    let ends : is k.Comma (next c.more.tokens) ≡ false = search rules in
    list_done k.Comma read.column _ _ _ _ _ _ c.in_ok-column.ensures (rw c.new-found.ensures at c.in_ok-push.ensures.ok)
    (so_far_all (is k.Comma) (after k.Comma read.column) shrinking.no_comma shrinking.column _ _ _ _ c.more.invariant ends)
