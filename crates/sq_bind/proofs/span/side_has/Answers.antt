use Rattle.std.proofs.Common.{List, ap, sym, ◌∙◌}
use Rattle.std.specs.List.{list_any}
use Rattle.sq_expr.specs.Fits.{term_aliases, side_aliases}
use Rattle.sq_expr.specs.declared.cond.Side.{Side}
use Rattle.sq_expr.specs.declared.cond.Term.{Term}
use Rattle.sq_bind.specs.Statement.{is_among}
use Rattle.sq_bind.proofs.OccursLemmas.{among-terms}
use Rattle.sq_bind.proofs.span.side_has.Goals as goal

pub returns-in-Sum : goal.returns-in-Sum
returns-in-Sum c =
    c.terms_have.ensures ∙ ap (λ (ts : List Term). list_any (λ (t : Term). is_among c.args.alias (term_aliases t.column)) ts) c.as_slice.ensures
    ∙ sym (ap (λ (s : Side). is_among c.args.alias (side_aliases s)) c.in-Sum.is ∙ among-terms c.args.alias c.in-Sum.terms)
