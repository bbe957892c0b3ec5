use Rattle.std.proofs.Common.{◌≡◌, [], take, drop}
use Rattle.sq_bind.specs.Fault.{sooner, first_of}
use Rattle.sq_bind.specs.Statement.{Scope, sources_faults}
use Rattle.sq_bind.specs.Found.{IsFound}
use Rattle.sq_bind.specs.Repeated.{HoldsNames}
use Rattle.sq_bind.proofs.source.sources_fault.Given as goal

abbrev pub invariant-loop-index : goal.invariant-loop-index
invariant-loop-index l = record {
  names : HoldsNames l.names (take l.index l.sources);
  so_far : (scope : Scope) → IsFound scope l.sources l.tables
      → sooner l.fault (first_of (sources_faults scope (take l.index l.sources) (drop l.index l.sources)))
      ≡ first_of (sources_faults scope [] l.sources);
}
