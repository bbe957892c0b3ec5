use Rattle.std.proofs.Common.{◌≡◌, ◌∙◌, rules, true, refl}
use Rattle.sq_token.specs.declared.mark.Mark.TheVariants as k
use Rattle.sq_token.specs.Mark.{is}
use Rattle.sq_token.specs.Tok.{next, behind}
use Rattle.sq_parse.specs.Reader as read
use Rattle.sq_parse.proofs.Steps.{hands_on}
use Rattle.sq_parse.proofs.statement.where_condition.Goals as goal

pub returns-in_err-found : goal.returns-in_err-found
unfolding read.where_condition
returns-in_err-found c =
    let begins : is k.Where (next c.args.tokens.now) ≡ true = search rules in
    let past : c.eat.new.self ≡ behind c.args.tokens.now = c.eat.ensures.after ∙ rw c.if-not-eat.false refl in
    hands_on _ _ _ _ c.from_residual.ensures.1 (λ other. rw (begins, rw past at (c.in_err-found.ensures other)) refl)

pub returns : goal.returns
unfolding read.where_condition
returns c =
    let begins : is k.Where (next c.args.tokens.now) ≡ true = search rules in
    let past : c.eat.new.self ≡ behind c.args.tokens.now = c.eat.ensures.after ∙ rw c.if-not-eat.false refl in
    rw (begins, rw past at c.in_ok-found.ensures) refl
