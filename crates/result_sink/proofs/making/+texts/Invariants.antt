use Rattle.std.proofs.Common.{◌+◌, ◌*◌}
use Rattle.result_sink.proofs.making.+texts.Given as goal

abbrev pub decreases-texts_of : goal.decreases-texts_of
decreases-texts_of g l = 2 * l.threads

abbrev pub decreases-first : goal.decreases-first
decreases-first g l = 2 * l.low + 1

abbrev pub decreases-second : goal.decreases-second
decreases-second g l = 2 * l.high + 1
