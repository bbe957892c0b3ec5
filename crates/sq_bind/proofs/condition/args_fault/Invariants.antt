use Rattle.std.proofs.Common.{◌≡◌, map, drop}
use Rattle.std.specs.List.{flat_map}
use Rattle.sq_bind.specs.Fault.{sooner, first_of}
use Rattle.sq_bind.specs.Operand.{operand_faults}
use Rattle.sq_bind.specs.Seen.{seen}
use Rattle.sq_bind.proofs.condition.args_fault.Given as goal

abbrev pub invariant-loop-arg : goal.invariant-loop-arg
invariant-loop-arg l =
    sooner l.fault (first_of (flat_map (operand_faults (map seen l.aliases)) (drop l.arg-index l.args)))
    ≡ first_of (flat_map (operand_faults (map seen l.aliases)) l.args)
