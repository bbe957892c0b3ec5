use Rattle.std.proofs.Common.{◌≡◌, map, drop}
use Rattle.sq_value.specs.Truth.{conjoined, disjoined}
use Rattle.sq_expr.specs.Meaning.{truth_of, value_in, least, greatest}
use Rattle.sq_expr.proofs.evaluation.+evaluation.Given as goal

abbrev pub invariant-greatest-loop-part : goal.invariant-greatest-loop-part
invariant-greatest-loop-part g l =
    let truths = map (truth_of g.F.Predicates.gives (value_in l.rows.tables.now l.rows.uses l.rows.rows)) in
    disjoined l.greatest (greatest (truths (drop l.part-index l.parts))) ≡ greatest (truths l.parts)

abbrev pub invariant-least-loop-part : goal.invariant-least-loop-part
invariant-least-loop-part g l =
    let truths = map (truth_of g.F.Predicates.gives (value_in l.rows.tables.now l.rows.uses l.rows.rows)) in
    conjoined l.least (least (truths (drop l.part-index l.parts))) ≡ least (truths l.parts)
