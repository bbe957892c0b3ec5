use Rattle.sq_parse.specs.Grammar.{shipped}
use Rattle.sq_parse.specs.Reader as read
use Rattle.sq_parse.proofs.Loops.{MoreSoFar}
use Rattle.sq_parse.proofs.statement.more_statements.Given as goal

abbrev pub invariant-more : goal.invariant-more
invariant-more l = MoreSoFar l.initial.found (read.statements shipped 64 63 l.initial.tokens) l.found (read.statements shipped 64 l.left l.tokens)

abbrev pub decreases-more : goal.decreases-more
decreases-more l = l.left
