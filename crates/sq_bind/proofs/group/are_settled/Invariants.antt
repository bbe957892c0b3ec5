use Rattle.std.proofs.Common.{◌≡◌, drop}
use Rattle.std.specs.List.{list_all}
use Rattle.sq_bind.specs.Statement.{is_settled}
use Rattle.sq_bind.proofs.group.are_settled.Given as goal

abbrev pub invariant-loop-cell : goal.invariant-loop-cell
invariant-loop-cell l = list_all (is_settled l.keys) (drop l.cell-index l.cells) ≡ list_all (is_settled l.keys) l.cells
