use Rattle.std.proofs.Common.{length}
use Rattle.fn_registry.proofs.adding.+has_number.Given as goal

abbrev pub decreases-has_number : goal.decreases-has_number
decreases-has_number g l = length l.items.now
