use Rattle.std.proofs.Common.{◌≡◌, map}
use Rattle.std.specs.Prelude.{drop}
use Rattle.fn_registry.specs.Registry.{kinds_numbered}
use Rattle.fn_registry.proofs.calling.call_numbered.Given as goal

abbrev pub invariant-loop-item : goal.invariant-loop-item
invariant-loop-item g l =
    kinds_numbered (map (λ r. r.signature) (drop l.item-index l.items)) l.number
    ≡ kinds_numbered (map (λ r. r.signature) l.items) l.number
