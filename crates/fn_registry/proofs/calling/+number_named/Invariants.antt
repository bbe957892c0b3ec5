use Rattle.std.proofs.Common.{length}
use Rattle.fn_registry.proofs.calling.+number_named.Given as goal

abbrev pub decreases-number_named : goal.decreases-number_named
decreases-number_named g l = length l.items.now
