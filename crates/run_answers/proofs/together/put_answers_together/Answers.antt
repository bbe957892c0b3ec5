use Rattle.std.proofs.Common.{List, map, sym, ◌∙◌, subst}
use Rattle.std.specs.Prelude.{All}
use Rattle.sq_expr.specs.Fits.{IsFit}
use Rattle.run_base.specs.Items.{items_over}
use Rattle.run_base.specs.declared.bound.Bound.{Bound}
use Rattle.run_answers.specs.Joint.{AreBags, bounds_of}
use Rattle.run_answers.specs.Text.{text_of}
use Rattle.run_answers.proofs.TogetherLemmas.{answers_apart, answers_unfound, fits_in, found_bags, line_for_all, text_of-some}
use Rattle.run_answers.proofs.together.put_answers_together.Goals as goal

pub returns-in_default : goal.returns-in_default
returns-in_default g c =
    answers_unfound c.args.engine.now.settings.now.tally g.P.Predicates.gives (items_over c.args.tables.now c.args.bounds) (text_of g.P.Predicates.gives) _
    (text_of-some g.P.Predicates.gives c.args.tables.now c.args.bounds c.requires.shared.some)

pub found_together-requires-clause-fits : goal.found_together-requires-clause-fits
found_together-requires-clause-fits g c κs within =
    subst (All (IsFit (g.P.Predicates.kinds_of c.args.engine.now.functions.now) c.args.tables.now)) (sym (c.as_slice.ensures.value ∙ c.in-Ok.ensures.blocks))
    (fits_in (g.P.Predicates.kinds_of c.args.engine.now.functions.now) c.args.tables.now c.args.bounds c.requires.run)

pub put_found-requires-clause-found : goal.put_found-requires-clause-found
put_found-requires-clause-found g c κs within =
    subst (λ (bs : List Bound). AreBags g.P.Predicates.gives (items_over c.args.tables.now bs) (map (λ f. f.combos.items) c.in-Ok-found_together.together.found.items))
    (sym c.in-Ok.ensures.bounds)
    (found_bags c.args.engine.now.settings.now.tally g.P.Predicates.gives c.args.tables.now _ c.args.bounds _ _ (c.as_slice.ensures.value ∙ c.in-Ok.ensures.blocks)
    c.in-Ok-found_together.ensures)

pub returns-in-Ok-found_together : goal.returns-in-Ok-found_together
returns-in-Ok-found_together g c =
    answers_apart c.args.engine.now.settings.now.tally g.P.Predicates.gives c.args.tables.now (bounds_of c.in-Ok.statements) c.args.bounds (text_of g.P.Predicates.gives) _ _ _
    c.put_found.result c.in-Ok.ensures.bounds
    (line_for_all c.args.engine.now.settings.now.tally g.P.Predicates.gives c.args.tables.now _ c.args.bounds _ _ (c.as_slice.ensures.value ∙ c.in-Ok.ensures.blocks)
    c.in-Ok-found_together.ensures)
    c.put_found.ensures

pub returns : goal.returns
returns g c =
    answers_unfound c.args.engine.now.settings.now.tally g.P.Predicates.gives (items_over c.args.tables.now c.args.bounds) (text_of g.P.Predicates.gives) _
    (text_of-some g.P.Predicates.gives c.args.tables.now c.args.bounds c.requires.shared.some)
