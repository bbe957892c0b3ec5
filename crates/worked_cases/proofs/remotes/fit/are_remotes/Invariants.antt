use Rattle.std.proofs.Common.{take}
use Rattle.std.specs.Prelude.{All}
use Rattle.remote_lookup.specs.Loaded.{IsRemote}
use Rattle.worked_cases.proofs.remotes.fit.are_remotes.Given as goal

abbrev pub invariant-loop-remote : goal.invariant-loop-remote
invariant-loop-remote l = All (IsRemote l.tables) (take l.remote-index l.remotes)
