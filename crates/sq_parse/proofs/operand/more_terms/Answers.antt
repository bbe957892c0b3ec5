use Rattle.std.proofs.Common.{rules}
use Rattle.sq_parse.specs.Grammar.{shipped}
use Rattle.sq_token.specs.Mark.{is_sign}
use Rattle.sq_parse.specs.Reader as read
use Rattle.sq_parse.proofs.Shrinking.{no_sign, signed_term}
use Rattle.sq_parse.proofs.Loops.{so_far_more, so_far_all, so_far_error}
use Rattle.sq_parse.proofs.operand.more_terms.Goals as goal

pub returns-in_err-signed_term : goal.returns-in_err-signed_term
returns-in_err-signed_term c =
    so_far_error is_sign (read.signed_term shipped) no_sign signed_term _ _ c.more.found c.more.tokens _ _ _ c.from_residual.ensures.1 c.more.invariant (search rules) c.in_err-signed_term.ensures

pub more-smaller : goal.more-smaller
more-smaller c = signed_term _ _ _ c.in_ok-signed_term.ensures

pub more-preserved : goal.more-preserved
more-preserved c =
    so_far_more is_sign (read.signed_term shipped) no_sign signed_term _ _ c.more.found c.more.tokens _ _ _ c.more.invariant (search rules) c.in_ok-signed_term.ensures c.in_ok-push.ensures.ok

pub returns : goal.returns
returns c = so_far_all is_sign (read.signed_term shipped) no_sign signed_term _ _ _ _ c.more.invariant (search rules)
