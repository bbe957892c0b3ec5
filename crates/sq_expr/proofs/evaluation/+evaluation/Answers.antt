use Rattle.std.proofs.Common.{List, map, All, sym, ap, subst, ◌∙◌, rules}
use Rattle.sq_value.specs.Truth.{negated, is_truth}
use Rattle.sq_value.specs.Comparison.{two_valued}
use Rattle.sq_value.specs.declared.value.Truth.{Truth}
use Rattle.sq_expr.specs.Meaning.{truth_of, value_in, least, greatest}
use Rattle.sq_expr.specs.Fits.{FitsHere}
use Rattle.sq_expr.specs.Reading.{IsSeen, IsReadyOver}
use Rattle.sq_expr.specs.declared.cond.Cond.{Cond, the_lemmas}
use Rattle.sq_expr.specs.declared.cond.Cond.TheVariants as variants
use Rattle.sq_expr.proofs.FitLemmas.{every-here, every-Not, every-All, every-Any, every-Is}
use Rattle.sq_expr.proofs.MeaningLemmas.{truth_of-Compare, truth_of-IsNull, truth_of-Call, truth_of-Not, truth_of-All, truth_of-Any, truth_of-Is}
use Rattle.sq_expr.proofs.evaluation.+evaluation.Goals as goal

pub evaluate-compare_sides-requires : goal.evaluate-compare_sides-requires
evaluate-compare_sides-requires g t c =
    let rows = c.args.rows.now in
    every-here (FitsHere (g.F.Predicates.kinds_of c.args.functions.now) (IsSeen rows.tables.now rows.uses rows.rows)) _ _ _
    (variants.outs-Compare c.in-Compare.left c.in-Compare.cmp c.in-Compare.right) c.in-Compare.is c.requires

pub evaluate-is_null-requires : goal.evaluate-is_null-requires
evaluate-is_null-requires g t c =
    let rows = c.args.rows.now in
    every-here (FitsHere (g.F.Predicates.kinds_of c.args.functions.now) (IsSeen rows.tables.now rows.uses rows.rows)) _ _ _
    (variants.outs-IsNull c.in-IsNull.side) c.in-IsNull.is c.requires

pub evaluate-call-requires : goal.evaluate-call-requires
evaluate-call-requires g t c =
    let rows = c.args.rows.now in
    every-here (FitsHere (g.F.Predicates.kinds_of c.args.functions.now) (IsSeen rows.tables.now rows.uses rows.rows)) _ _ _
    (variants.outs-Call c.in-Call.number c.in-Call.x c.in-Call.y) c.in-Call.is c.requires

pub evaluate-evaluate-requires : goal.evaluate-evaluate-requires
evaluate-evaluate-requires g t c κs within =
    let rows = c.args.rows.now in
    let fits = FitsHere (g.F.Predicates.kinds_of c.args.functions.now) (IsSeen rows.tables.now rows.uses rows.rows) in
    let ready = IsReadyOver (g.F.Predicates.kinds_of c.args.functions.now) rows.tables.now rows.uses rows.rows in
    (search (rules, the_lemmas), (search rules, subst ready (sym c.get.ensures) (every-Not fits _ _ c.in-Not.is c.requires)))

pub evaluate-least-requires : goal.evaluate-least-requires
evaluate-least-requires g t c κs within =
    let rows = c.args.rows.now in
    let fits = FitsHere (g.F.Predicates.kinds_of c.args.functions.now) (IsSeen rows.tables.now rows.uses rows.rows) in
    let ready = IsReadyOver (g.F.Predicates.kinds_of c.args.functions.now) rows.tables.now rows.uses rows.rows in
    (search (rules, the_lemmas), (search rules, subst (All ready) (sym c.as_slice.ensures) (every-All fits _ _ c.in-All.is c.requires)))

pub evaluate-greatest-requires : goal.evaluate-greatest-requires
evaluate-greatest-requires g t c κs within =
    let rows = c.args.rows.now in
    let fits = FitsHere (g.F.Predicates.kinds_of c.args.functions.now) (IsSeen rows.tables.now rows.uses rows.rows) in
    let ready = IsReadyOver (g.F.Predicates.kinds_of c.args.functions.now) rows.tables.now rows.uses rows.rows in
    (search (rules, the_lemmas), (search rules, subst (All ready) (sym c.as_slice-in-Any.ensures) (every-Any fits _ _ c.in-Any.is c.requires)))

pub evaluate-evaluate-requires-in-Is : goal.evaluate-evaluate-requires-in-Is
evaluate-evaluate-requires-in-Is g t c κs within =
    let rows = c.args.rows.now in
    let fits = FitsHere (g.F.Predicates.kinds_of c.args.functions.now) (IsSeen rows.tables.now rows.uses rows.rows) in
    let ready = IsReadyOver (g.F.Predicates.kinds_of c.args.functions.now) rows.tables.now rows.uses rows.rows in
    (search (rules, the_lemmas), (search rules, subst ready (sym c.get-in-Is.ensures) (every-Is fits _ _ _ c.in-Is.is c.requires)))

pub evaluate-returns-in-Compare : goal.evaluate-returns-in-Compare
evaluate-returns-in-Compare g t c =
    let at = value_in c.args.rows.now.tables.now c.args.rows.now.uses c.args.rows.now.rows in
    c.compare_sides.ensures ∙ sym (ap (truth_of g.F.Predicates.gives at) c.in-Compare.is ∙ truth_of-Compare _ at _ _ _)

pub evaluate-returns-in-IsNull : goal.evaluate-returns-in-IsNull
evaluate-returns-in-IsNull g t c =
    let at = value_in c.args.rows.now.tables.now c.args.rows.now.uses c.args.rows.now.rows in
    let is = ap (truth_of g.F.Predicates.gives at) c.in-IsNull.is ∙ truth_of-IsNull _ at _ in
    cc

pub evaluate-returns-in-Call : goal.evaluate-returns-in-Call
evaluate-returns-in-Call g t c =
    let at = value_in c.args.rows.now.tables.now c.args.rows.now.uses c.args.rows.now.rows in
    c.call.ensures ∙ sym (ap (truth_of g.F.Predicates.gives at) c.in-Call.is ∙ truth_of-Call _ at _ _ _)

pub evaluate-returns-in-Not : goal.evaluate-returns-in-Not
evaluate-returns-in-Not g t c =
    let at = value_in c.args.rows.now.tables.now c.args.rows.now.uses c.args.rows.now.rows in
    let of = truth_of g.F.Predicates.gives at in
    c.not.ensures ∙ ap negated (c.evaluate.ensures ∙ ap of c.get.ensures) ∙ sym (ap of c.in-Not.is ∙ truth_of-Not _ at _)

pub evaluate-returns-in-All : goal.evaluate-returns-in-All
evaluate-returns-in-All g t c =
    let at = value_in c.args.rows.now.tables.now c.args.rows.now.uses c.args.rows.now.rows in
    let of = truth_of g.F.Predicates.gives at in
    c.least.ensures ∙ ap (λ (parts : List Cond). least (map of parts)) c.as_slice.ensures ∙ sym (ap of c.in-All.is ∙ truth_of-All _ at _)

pub evaluate-returns-in-Any : goal.evaluate-returns-in-Any
evaluate-returns-in-Any g t c =
    let at = value_in c.args.rows.now.tables.now c.args.rows.now.uses c.args.rows.now.rows in
    let of = truth_of g.F.Predicates.gives at in
    c.greatest.ensures ∙ ap (λ (parts : List Cond). greatest (map of parts)) c.as_slice-in-Any.ensures ∙ sym (ap of c.in-Any.is ∙ truth_of-Any _ at _)

pub evaluate-returns-in-Is : goal.evaluate-returns-in-Is
evaluate-returns-in-Is g t c =
    let at = value_in c.args.rows.now.tables.now c.args.rows.now.uses c.args.rows.now.rows in
    let of = truth_of g.F.Predicates.gives at in
    let part = c.evaluate-in-Is.ensures ∙ ap of c.get-in-Is.ensures in
    c.asked.ensures ∙ ap (λ (x : Truth). two_valued (is_truth x c.in-Is.named)) part ∙ sym (ap of c.in-Is.is ∙ truth_of-Is _ at _ _)
