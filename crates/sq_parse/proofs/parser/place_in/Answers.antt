use Rattle.std.proofs.Common.{◌∙◌, sym}
use Rattle.sq_parse.proofs.ParseLemmas.{place_ahead}
use Rattle.sq_parse.proofs.parser.place_in.Goals as goal

pub returns-else-is_done : goal.returns-else-is_done
returns-else-is_done c = c.at.ensures ∙ place_ahead c.args.end c.args.tokens.now (sym c.is_done.ensures ∙ c.if-is_done.false)
