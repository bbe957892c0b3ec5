use Rattle.std.proofs.Common.{◌≡◌, Some, take}
use Rattle.std.specs.Prelude.{slice_get}
use Rattle.sq_value.specs.Relation.{Relation}
use Rattle.remote_lookup.specs.Asked.{Grows}
use Rattle.remote_lookup.specs.Asking.{IsAskedByRows}
use Rattle.remote_lookup.proofs.asking.ask_rows.Given as goal

abbrev pub invariant-loop-row : goal.invariant-loop-row
invariant-loop-row g l =
    (t : Relation) → slice_get l.tables l.table ≡ Some t
    → Grows (IsAskedByRows g.P.Predicates.gives l.query.block.now l.remote l.column (take l.row t.rows)) l.initial.asked l.asked
