use Rattle.std.proofs.Common.{length}
use Rattle.command_line.proofs.remotes.+remotes_differ.Given as goal

abbrev pub decreases-remotes_differ : goal.decreases-remotes_differ
decreases-remotes_differ l = length l.remotes.now
