use Rattle.std.proofs.Common.{take}
use Rattle.remote_lookup.specs.Asked.{Grows}
use Rattle.remote_lookup.specs.Asking.{IsAskedFirst}
use Rattle.remote_lookup.proofs.asking.ask_tables.Given as goal

abbrev pub invariant-loop-ask : goal.invariant-loop-ask
invariant-loop-ask g l =
    Grows (IsAskedFirst g.P.Predicates.gives l.query.block.now l.query.tables.now l.query.remotes.now (take l.ask-index l.query.asks.items)) l.initial.asked l.asked
