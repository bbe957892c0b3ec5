use Rattle.std.proofs.Common.{◌≡◌, map, take}
use Rattle.remote_lookup.specs.Working.{empty_of}
use Rattle.remote_lookup.proofs.rounds.spare_tables.Given as goal

abbrev pub invariant-loop-remote : goal.invariant-loop-remote
invariant-loop-remote g l = l.spare ≡ map (empty_of l.query.tables.now) (take l.remote-index l.query.remotes.now)
