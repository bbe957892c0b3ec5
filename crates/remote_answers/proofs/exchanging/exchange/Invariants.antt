use Rattle.std.proofs.Common.{◌≡◌}
use Rattle.remote_answers.proofs.PlaceLemmas.{IsHalfway}
use Rattle.remote_answers.proofs.exchanging.exchange.Given as goal

abbrev pub invariant-loop-remote : goal.invariant-loop-remote
invariant-loop-remote l = record {
  names : l.catalogue.names ≡ l.initial.catalogue.names;
  halfway : IsHalfway l.initial.catalogue.tables l.catalogue.tables l.remotes l.initial.tables.items l.tables.items l.remote-index;
}
