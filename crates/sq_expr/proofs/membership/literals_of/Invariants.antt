use Rattle.std.proofs.Common.{take}
use Rattle.sq_expr.specs.Membership.{AreLiterals}
use Rattle.sq_expr.proofs.membership.literals_of.Given as goal

abbrev pub invariant-loop-part : goal.invariant-loop-part
invariant-loop-part l = AreLiterals l.column (take l.part-index l.parts) l.literals
