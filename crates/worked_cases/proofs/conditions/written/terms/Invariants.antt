use Rattle.std.specs.Prelude.{All}
use Rattle.sq_expr.specs.Fits.{FitsTerm}
use Rattle.worked_cases.specs.SampleConditions.{IsSampleColumn}
use Rattle.sq_expr.specs.declared.cond.Term.{Term}
use Rattle.worked_cases.proofs.conditions.written.terms.Given as goal

abbrev pub invariant-loop-part : goal.invariant-loop-part
invariant-loop-part l = All (λ (t : Term). FitsTerm (IsSampleColumn l.tables) t.factor t.column) l.terms.items
