use Rattle.std.proofs.Common.{length}
use Rattle.sq_token.specs.declared.mark.Mark.TheVariants as k
use Rattle.sq_token.specs.Mark.{is}
use Rattle.sq_parse.specs.Reading.{after}
use Rattle.sq_parse.specs.Reader as read
use Rattle.sq_parse.proofs.Loops.{ReadSoFar}
use Rattle.sq_parse.proofs.select.columns.Given as goal

abbrev pub invariant-more : goal.invariant-more
invariant-more l = ReadSoFar (is k.Comma) (after k.Comma read.column) l.initial.found l.initial.tokens l.found l.tokens

abbrev pub decreases-more : goal.decreases-more
decreases-more l = length l.tokens
