use Rattle.remote_lookup.specs.Asks.{AreAsksBelow}
use Rattle.remote_lookup.proofs.asks.asks_of.Given as goal

abbrev pub invariant-loop-conjunct : goal.invariant-loop-conjunct
invariant-loop-conjunct l = AreAsksBelow l.block l.remotes l.conjunct-index l.asks.items
