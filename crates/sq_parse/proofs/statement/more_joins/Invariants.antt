use Rattle.std.proofs.Common.{length}
use Rattle.sq_parse.specs.Grammar.{shipped}
use Rattle.sq_parse.specs.Reader as read
use Rattle.sq_parse.proofs.Loops.{ReadSoFar}
use Rattle.sq_parse.proofs.statement.more_joins.Given as goal

abbrev pub invariant-more : goal.invariant-more
invariant-more l = ReadSoFar read.begins_join (read.join shipped 64) l.initial.found l.initial.tokens l.found l.tokens

abbrev pub decreases-more : goal.decreases-more
decreases-more l = length l.tokens
