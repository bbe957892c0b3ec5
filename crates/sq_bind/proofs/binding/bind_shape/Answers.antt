use Rattle.sq_bind.specs.Condition.{calling}
use Rattle.sq_bind.specs.Given.{over}
use Rattle.sq_bind.proofs.AnswerLemmas as by
use Rattle.sq_bind.proofs.SettledLemmas.{shape_settled}
use Rattle.sq_bind.proofs.binding.bind_shape.Goals as goal

pub returns-clause-bound : goal.returns-clause-bound
returns-clause-bound g c =
    let calls = calling (g.F.Predicates.number_of c.args.functions.now) (g.F.Predicates.kinds_of c.args.functions.now) in
    by.shape_bound (over c.args.catalogue.now c.args.accesses.now calls) c.args.statement.now c.answer.result c.answer.ensures.answer

pub returns-clause-every_bound : goal.returns-clause-every_bound
returns-clause-every_bound g c =
    let calls = calling (g.F.Predicates.number_of c.args.functions.now) (g.F.Predicates.kinds_of c.args.functions.now) in
    by.every_shape (over c.args.catalogue.now c.args.accesses.now calls) c.args.statement.now c.answer.result c.answer.ensures.answer

pub returns-clause-reachable : goal.returns-clause-reachable
returns-clause-reachable g c =
    let calls = calling (g.F.Predicates.number_of c.args.functions.now) (g.F.Predicates.kinds_of c.args.functions.now) in
    by.shape_reachable (over c.args.catalogue.now c.args.accesses.now calls) c.args.statement.now c.answer.result c.answer.ensures.answer

pub returns-clause-unordered : goal.returns-clause-unordered
returns-clause-unordered g c =
    let calls = calling (g.F.Predicates.number_of c.args.functions.now) (g.F.Predicates.kinds_of c.args.functions.now) in
    by.shape_unordered (over c.args.catalogue.now c.args.accesses.now calls) c.args.statement.now c.answer.result c.answer.ensures.answer

pub returns-clause-settled : goal.returns-clause-settled
returns-clause-settled g c =
    let calls = calling (g.F.Predicates.number_of c.args.functions.now) (g.F.Predicates.kinds_of c.args.functions.now) in
    shape_settled (over c.args.catalogue.now c.args.accesses.now calls) c.args.statement.now c.answer.result c.answer.ensures.answer

pub returns-clause-fault : goal.returns-clause-fault
returns-clause-fault g c =
    let calls = calling (g.F.Predicates.number_of c.args.functions.now) (g.F.Predicates.kinds_of c.args.functions.now) in
    by.told_fault (over c.args.catalogue.now c.args.accesses.now calls) c.args.statement.now c.answer.result c.answer.ensures.answer

pub returns-clause-every_fault : goal.returns-clause-every_fault
returns-clause-every_fault g c =
    let calls = calling (g.F.Predicates.number_of c.args.functions.now) (g.F.Predicates.kinds_of c.args.functions.now) in
    by.every_shape_fault (over c.args.catalogue.now c.args.accesses.now calls) c.args.statement.now c.answer.result c.answer.ensures.answer
