use Rattle.std.proofs.Common.{◌≡◌, drop}
use Rattle.std.specs.List.{list_any}
use Rattle.sq_expr.specs.Fits.{aliases_of}
use Rattle.sq_expr.specs.declared.cond.Cond.{Cond}
use Rattle.sq_bind.specs.Statement.{is_among}
use Rattle.sq_bind.proofs.span.+has.Given as goal

abbrev pub invariant-parts_have-loop-part : goal.invariant-parts_have-loop-part
invariant-parts_have-loop-part l =
    let has = λ (c : Cond). is_among l.alias (aliases_of c) in list_any has (drop l.part-index l.parts) ≡ list_any has l.parts
