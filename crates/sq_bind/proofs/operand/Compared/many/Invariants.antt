use Rattle.std.proofs.Common.{◌≡◌, map, drop}
use Rattle.sq_bind.specs.Seen.{seen}
use Rattle.sq_bind.specs.Compared.{compared, joined}
use Rattle.sq_bind.proofs.operand.Compared.many.Given as goal

abbrev pub invariant-loop-operand : goal.invariant-loop-operand
invariant-loop-operand l =
    joined l.all (compared (map seen l.aliases) (drop l.operand-index l.operands)) ≡ compared (map seen l.aliases) l.operands
