use Rattle.sq_expr.specs.Reading.{IsSeen}
use Rattle.sq_expr.proofs.ReadLemmas.{first_fits, second_fits, kinds_fit}
use Rattle.sq_expr.proofs.evaluation.call.Goals as goal

pub argument-requires : goal.argument-requires
argument-requires g c =
    let rows = c.args.rows.now in
    first_fits (IsSeen rows.tables.now rows.uses rows.rows) c.args.x.now c.args.y.now (g.F.Predicates.kinds_of c.args.functions.now c.args.number)
    c.requires

pub argument-requires-2 : goal.argument-requires-2
argument-requires-2 g c =
    let rows = c.args.rows.now in
    second_fits (IsSeen rows.tables.now rows.uses rows.rows) c.args.x.now c.args.y.now (g.F.Predicates.kinds_of c.args.functions.now c.args.number)
    c.requires

pub call-requires-clause-fits : goal.call-requires-clause-fits
call-requires-clause-fits g c =
    let rows = c.args.rows.now in
    kinds_fit (IsSeen rows.tables.now rows.uses rows.rows) c.args.x.now c.args.y.now (g.F.Predicates.kinds_of c.args.functions.now c.args.number)
    _ _ c.requires c.argument.ensures.kind c.argument-2.ensures.kind
