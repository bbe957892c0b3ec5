use Rattle.std.proofs.Common.{◌≡◌, ℕ, sym, subst}
use Rattle.eddy_meaning.specs.Route.{IsLegalSelect}
use Rattle.eddy_meaning.specs.Tuple.{Tuple}
use Rattle.eddy_query.specs.Fitted.{Fitted}
use Rattle.engine_cases.proofs.tuples.selected.Goals as goal

legal_of : {F : Type 0} (q p : Fitted F) (t : Tuple) (conjunct : ℕ) → q ≡ p → IsLegalSelect p.block t conjunct → IsLegalSelect q.block t conjunct
legal_of {F} q p t conjunct is legal = subst (λ (f : Fitted F). IsLegalSelect f.block t conjunct) (sym is) legal

pub apply-requires-clause-legal : goal.apply-requires-clause-legal
apply-requires-clause-legal c =
    legal_of c.new-query.result _ c.args.tuple.now c.args.conjunct c.new-query.ensures (c.is_selectable.ensures c.if-not-is_selectable.false)
