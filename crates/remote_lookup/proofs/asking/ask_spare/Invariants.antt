use Rattle.std.proofs.Common.{◌≡◌, Some, take}
use Rattle.std.specs.Prelude.{slice_get}
use Rattle.sq_value.specs.Relation.{Relation}
use Rattle.remote_lookup.specs.Asked.{Grows}
use Rattle.remote_lookup.specs.Asking.{IsAskedBehind}
use Rattle.remote_lookup.proofs.asking.ask_spare.Given as goal

abbrev pub invariant-loop-ask : goal.invariant-loop-ask
invariant-loop-ask g l =
    (t : Relation) → slice_get l.spare l.from ≡ Some t
    → Grows (IsAskedBehind g.P.Predicates.gives l.query.block.now l.query.remotes.now l.from t.rows (take l.ask-index l.query.asks.items)) l.initial.asked l.asked
