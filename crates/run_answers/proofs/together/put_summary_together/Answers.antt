use Rattle.std.proofs.Common.{◌≡◌, refl, sym, ◌∙◌, subst}
use Rattle.std.specs.Prelude.{All}
use Rattle.sq_expr.specs.Fits.{IsFit}
use Rattle.run_base.specs.Items.{items_over}
use Rattle.run_answers.specs.Summary.{summary}
use Rattle.run_answers.specs.Together.{blocks_in}
use Rattle.run_answers.proofs.TogetherLemmas.{answers_apart, answers_unfound, fits_in, found_bags, line_for_all, summary-some}
use Rattle.run_answers.proofs.together.put_summary_together.Goals as goal

pub returns-in_default : goal.returns-in_default
returns-in_default g c =
    answers_unfound c.args.engine.now.settings.now.tally g.P.Predicates.gives (items_over c.args.tables.now c.args.bounds) (summary g.P.Predicates.gives) _
    (summary-some g.P.Predicates.gives (items_over c.args.tables.now c.args.bounds))

pub found_together-requires-clause-fits : goal.found_together-requires-clause-fits
found_together-requires-clause-fits g c κs within =
    subst (All (IsFit (g.P.Predicates.kinds_of c.args.engine.now.functions.now) c.args.tables.now)) (sym (c.as_slice.ensures.value ∙ c.in-Ok.ensures.blocks))
    (fits_in (g.P.Predicates.kinds_of c.args.engine.now.functions.now) c.args.tables.now c.args.bounds c.requires.run)

pub returns-in-Ok-found_together : goal.returns-in-Ok-found_together
returns-in-Ok-found_together g c =
    let blocks : c.as_slice.result.now ≡ blocks_in c.args.bounds = c.as_slice.ensures.value ∙ c.in-Ok.ensures.blocks in
    answers_apart c.args.engine.now.settings.now.tally g.P.Predicates.gives c.args.tables.now c.args.bounds c.args.bounds (summary g.P.Predicates.gives) _ _ _
    c.put_counted.result refl
    (line_for_all c.args.engine.now.settings.now.tally g.P.Predicates.gives c.args.tables.now _ c.args.bounds _ _ blocks c.in-Ok-found_together.ensures)
    (c.put_counted.ensures g.P.Predicates.gives (items_over c.args.tables.now c.args.bounds)
    (found_bags c.args.engine.now.settings.now.tally g.P.Predicates.gives c.args.tables.now _ c.args.bounds _ _ blocks c.in-Ok-found_together.ensures))

pub returns : goal.returns
returns g c =
    answers_unfound c.args.engine.now.settings.now.tally g.P.Predicates.gives (items_over c.args.tables.now c.args.bounds) (summary g.P.Predicates.gives) _
    (summary-some g.P.Predicates.gives (items_over c.args.tables.now c.args.bounds))
