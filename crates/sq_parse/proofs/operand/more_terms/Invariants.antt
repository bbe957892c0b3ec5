use Rattle.std.proofs.Common.{length}
use Rattle.sq_parse.specs.Grammar.{shipped}
use Rattle.sq_token.specs.Mark.{is_sign}
use Rattle.sq_parse.specs.Reader as read
use Rattle.sq_parse.proofs.Loops.{ReadSoFar}
use Rattle.sq_parse.proofs.operand.more_terms.Given as goal

abbrev pub invariant-more : goal.invariant-more
invariant-more l = ReadSoFar is_sign (read.signed_term shipped) l.initial.found l.initial.tokens l.found l.tokens

abbrev pub decreases-more : goal.decreases-more
decreases-more l = length l.tokens
