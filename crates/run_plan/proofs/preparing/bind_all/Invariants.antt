use Rattle.std.proofs.Common.{Ok, take}
use Rattle.std.specs.Prelude.{All}
use Rattle.sq_bind.specs.Condition.{calling}
use Rattle.sq_bind.specs.Given.{over}
use Rattle.run_base.specs.Runnable.{IsRunnable}
use Rattle.run_plan.specs.Prepared.{AreBoundTo}
use Rattle.run_plan.proofs.preparing.bind_all.Given as goal

abbrev pub invariant-loop-index : goal.invariant-loop-index
invariant-loop-index g l = record {
  bound : AreBoundTo (over l.catalogue l.accesses (calling (g.P.Predicates.number_of l.functions) (g.P.Predicates.kinds_of l.functions))) 1
      (take l.index l.statements) (Ok l.bounds);
  run : All (IsRunnable (g.P.Predicates.kinds_of l.functions) l.catalogue.tables) l.bounds;
}
