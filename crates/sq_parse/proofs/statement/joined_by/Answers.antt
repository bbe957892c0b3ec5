use Rattle.std.proofs.Common.{◌∙◌, ap, sym, subst}
use Rattle.sq_token.specs.declared.mark.Mark.TheVariants as k
use Rattle.sq_parse.specs.Grammar.{shipped}
use Rattle.sq_parse.specs.Reading.{Reads}
use Rattle.sq_parse.specs.Reader as read
use Rattle.sq_parse.proofs.Loops.{after_is}
use Rattle.sq_parse.proofs.statement.joined_by.Goals as goal

pub returns : goal.returns
returns c =
    let same = after_is k.On (read.condition shipped 64) c.args.tokens.now c.in_ok-expect.ensures.0 ∙ ap (read.condition shipped 64) (sym c.in_ok-expect.ensures.1) in
    subst (λ o. Reads o c.condition.result c.condition.new.tokens) (sym same) c.condition.ensures
