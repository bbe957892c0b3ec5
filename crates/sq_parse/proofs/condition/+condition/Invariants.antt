use Rattle.std.proofs.Common.{◌+◌, ◌*◌, length}
use Rattle.sq_token.specs.declared.mark.Mark.TheVariants as k
use Rattle.sq_parse.specs.Grammar.{shipped}
use Rattle.sq_token.specs.Mark.{is}
use Rattle.sq_parse.specs.Reading.{after}
use Rattle.sq_parse.specs.Reader as read
use Rattle.sq_parse.proofs.Loops.{ReadSoFar}
use Rattle.sq_parse.proofs.condition.+condition.Given as goal

abbrev pub decreases-condition : goal.decreases-condition
decreases-condition l = 10 * l.depth + 8

abbrev pub decreases-more_conjunctions : goal.decreases-more_conjunctions
decreases-more_conjunctions l = 10 * l.depth + 7

abbrev pub decreases-conjunction : goal.decreases-conjunction
decreases-conjunction l = 10 * l.depth + 6

abbrev pub decreases-more_negations : goal.decreases-more_negations
decreases-more_negations l = 10 * l.depth + 5

abbrev pub decreases-negation : goal.decreases-negation
decreases-negation l = 10 * l.depth + 4

abbrev pub decreases-test : goal.decreases-test
decreases-test l = 10 * l.depth + 2

abbrev pub decreases-primary : goal.decreases-primary
decreases-primary l = 10 * l.depth + 1

abbrev pub decreases-nested : goal.decreases-nested
decreases-nested l = 10 * l.depth + 0

abbrev pub decreases-denied : goal.decreases-denied
decreases-denied l = 10 * l.depth + 0

abbrev pub invariant-more_negations-more : goal.invariant-more_negations-more
invariant-more_negations-more l = ReadSoFar (is k.And) (after k.And (read.neg shipped l.depth)) l.initial.found l.initial.tokens l.found l.tokens

abbrev pub decreases-more_negations-more : goal.decreases-more_negations-more
decreases-more_negations-more l = length l.tokens

abbrev pub invariant-more_conjunctions-more : goal.invariant-more_conjunctions-more
invariant-more_conjunctions-more l = ReadSoFar (is k.Or) (after k.Or (read.conjunction_at shipped l.depth)) l.initial.found l.initial.tokens l.found l.tokens

abbrev pub decreases-more_conjunctions-more : goal.decreases-more_conjunctions-more
decreases-more_conjunctions-more l = length l.tokens
