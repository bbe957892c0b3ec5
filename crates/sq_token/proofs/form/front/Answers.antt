use Rattle.std.proofs.Common.{rules}
use Rattle.sq_token.proofs.FormLemmas.{IsCut-from_seams}
use Rattle.sq_token.proofs.form.front.Goals as goal

pub returns-clause-cut : goal.returns-clause-cut
returns-clause-cut c =
    IsCut-from_seams _ c.args.text.now _ c.utf8.text c.front_of.ensures.within.0 (search rules) (search rules)
