use Rattle.std.proofs.Common.{length}
use Rattle.fn_registry.proofs.calling.+kinds_numbered.Given as goal

abbrev pub decreases-kinds_numbered : goal.decreases-kinds_numbered
decreases-kinds_numbered g l = length l.items.now
