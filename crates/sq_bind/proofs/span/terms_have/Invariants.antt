use Rattle.std.proofs.Common.{◌≡◌, drop}
use Rattle.std.specs.List.{list_any}
use Rattle.sq_expr.specs.Fits.{term_aliases}
use Rattle.sq_expr.specs.declared.cond.Term.{Term}
use Rattle.sq_bind.specs.Statement.{is_among}
use Rattle.sq_bind.proofs.span.terms_have.Given as goal

abbrev pub invariant-loop-term : goal.invariant-loop-term
invariant-loop-term l =
    let has = λ (t : Term). is_among l.alias (term_aliases t.column) in list_any has (drop l.term-index l.terms) ≡ list_any has l.terms
