use Rattle.remote_lookup.proofs.FreshLemmas.{SaysFrom}
use Rattle.remote_lookup.proofs.rounds.crowded.Given as goal

abbrev pub invariant-loop-remote : goal.invariant-loop-remote
invariant-loop-remote l = SaysFrom l.tallies l.fresh l.remote
