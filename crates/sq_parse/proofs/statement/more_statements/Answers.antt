use Rattle.std.proofs.Common.{rules, ◌≡◌, ◌∙◌, [], Ok, true, false, sym, ap, refl, arith}
use Rattle.sq_token.specs.declared.mark.Mark.TheVariants as k
use Rattle.sq_parse.specs.Grammar.{shipped}
use Rattle.sq_token.specs.Mark.{is}
use Rattle.sq_token.specs.Tok.{next, behind, done}
use Rattle.sq_parse.specs.Reader as read
use Rattle.sq_parse.proofs.Loops.{more_step, more_done, more_error}
use Rattle.sq_parse.proofs.Steps.{statements_stop, statements_end, statements_none, statements_more}
use Rattle.sq_parse.proofs.statement.more_statements.Goals as goal

pub returns-then-is_done : goal.returns-then-is_done
returns-then-is_done c =
    let begins : is k.Semicolon (next c.more.tokens) ≡ true = search rules in
    let ends : done (behind c.more.tokens) ≡ true = rw c.advance.ensures at (sym c.is_done.ensures ∙ c.if-is_done.true) in
    more_done _ _ _ _ _ c.more.invariant (statements_end shipped 64 c.more.left c.more.tokens begins ends ∙ ap (λ z. Ok ([], z)) (sym c.advance.ensures))

pub returns-then-left-eq0 : goal.returns-then-left-eq0
returns-then-left-eq0 c other =
    let begins : is k.Semicolon (next c.more.tokens) ≡ true = search rules in
    let goes : done (behind c.more.tokens) ≡ false = rw c.advance.ensures at (sym c.is_done.ensures ∙ c.if-is_done.false) in
    let stops = statements_none shipped 64 c.more.left c.more.tokens (omega arith) begins goes ∙ (ap (read.no_more shipped) (sym c.advance.ensures) ∙ c.no_more.ensures) in
    c.more.invariant.is ∙ rw stops refl

pub returns-in_err-statement : goal.returns-in_err-statement
returns-in_err-statement c =
    let begins : is k.Semicolon (next c.more.tokens) ≡ true = search rules in
    let goes : done (behind c.more.tokens) ≡ false = rw c.advance.ensures at (sym c.is_done.ensures ∙ c.if-is_done.false) in
    more_error _ _ _ _ _ _ _ c.from_residual.ensures.1 c.more.invariant (λ other.
    statements_more shipped 64 c.more.left c.more.tokens (omega arith) begins goes ∙ rw (rw c.advance.ensures at (c.in_err-statement.ensures other)) refl)

pub more-preserved : goal.more-preserved
more-preserved c =
    let begins : is k.Semicolon (next c.more.tokens) ≡ true = search rules in
    let goes : done (behind c.more.tokens) ≡ false = rw c.advance.ensures at (sym c.is_done.ensures ∙ c.if-is_done.false) in
    more_step _ _ _ _ _ _ _ c.more.invariant
    (statements_more shipped 64 c.more.left c.more.tokens (omega arith) begins goes ∙ rw (rw c.advance.ensures at c.in_ok-statement.ensures) refl) c.in_ok-push.ensures.ok

pub returns : goal.returns
returns c =
    let ends : is k.Semicolon (next c.more.tokens) ≡ false = search rules in
    more_done _ _ _ _ _ c.more.invariant (statements_stop shipped 64 c.more.left c.more.tokens ends)
