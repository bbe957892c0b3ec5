use Rattle.run_answers.proofs.AnswerLemmas.{answer_sorted, apart_found}
use Rattle.run_answers.proofs.writing.rows_in_order.Goals as goal

pub par_in_order-requires-clause-apart : goal.par_in_order-requires-clause-apart
par_in_order-requires-clause-apart g c κs within =
    apart_found g.P.Predicates.gives c.args.block.now c.args.tables.now c.args.combos.items c.requires.found

pub returns : goal.returns
returns g c =
    answer_sorted _ c.par_in_order.result g.P.Predicates.gives c.args.block.now c.args.tables.now c.args.combos.items c.requires.found
    c.par_in_order.ensures.permutation c.par_in_order.ensures.rises
