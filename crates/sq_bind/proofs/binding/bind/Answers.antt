use Rattle.sq_bind.specs.Condition.{calling}
use Rattle.sq_bind.specs.Given.{over}
use Rattle.sq_bind.proofs.AnswerLemmas as by
use Rattle.sq_bind.proofs.binding.bind.Goals as goal

pub returns-clause-bound : goal.returns-clause-bound
returns-clause-bound g c =
    let calls = calling (g.F.Predicates.number_of c.args.functions.now) (g.F.Predicates.kinds_of c.args.functions.now) in
    let scope = over c.args.catalogue.now c.args.accesses.now calls in
    let s = c.args.statement.now in
    let told = by.plain_told scope s c.answer-made.result c.plain_answer.result c.answer-made.ensures.answer c.plain_answer.ensures in
    by.plain_bound scope s c.plain_answer.result told

pub returns-clause-every_bound : goal.returns-clause-every_bound
returns-clause-every_bound g c =
    let calls = calling (g.F.Predicates.number_of c.args.functions.now) (g.F.Predicates.kinds_of c.args.functions.now) in
    let scope = over c.args.catalogue.now c.args.accesses.now calls in
    let s = c.args.statement.now in
    let told = by.plain_told scope s c.answer-made.result c.plain_answer.result c.answer-made.ensures.answer c.plain_answer.ensures in
    by.every_bound scope s c.plain_answer.result told

pub returns-clause-reachable : goal.returns-clause-reachable
returns-clause-reachable g c =
    let calls = calling (g.F.Predicates.number_of c.args.functions.now) (g.F.Predicates.kinds_of c.args.functions.now) in
    let scope = over c.args.catalogue.now c.args.accesses.now calls in
    let s = c.args.statement.now in
    let told = by.plain_told scope s c.answer-made.result c.plain_answer.result c.answer-made.ensures.answer c.plain_answer.ensures in
    by.plain_reachable scope s c.plain_answer.result told

pub returns-clause-fault : goal.returns-clause-fault
returns-clause-fault g c =
    let calls = calling (g.F.Predicates.number_of c.args.functions.now) (g.F.Predicates.kinds_of c.args.functions.now) in
    let scope = over c.args.catalogue.now c.args.accesses.now calls in
    let s = c.args.statement.now in
    let told = by.plain_told scope s c.answer-made.result c.plain_answer.result c.answer-made.ensures.answer c.plain_answer.ensures in
    by.plain_fault scope s c.plain_answer.result told

pub returns-clause-every_fault : goal.returns-clause-every_fault
returns-clause-every_fault g c =
    let calls = calling (g.F.Predicates.number_of c.args.functions.now) (g.F.Predicates.kinds_of c.args.functions.now) in
    let scope = over c.args.catalogue.now c.args.accesses.now calls in
    let s = c.args.statement.now in
    let told = by.plain_told scope s c.answer-made.result c.plain_answer.result c.answer-made.ensures.answer c.plain_answer.ensures in
    by.every_fault scope s c.plain_answer.result told

pub returns-clause-fits : goal.returns-clause-fits
returns-clause-fits g c =
    let calls = calling (g.F.Predicates.number_of c.args.functions.now) (g.F.Predicates.kinds_of c.args.functions.now) in
    let scope = over c.args.catalogue.now c.args.accesses.now calls in
    let s = c.args.statement.now in
    by.plain_fits scope s c.answer-made.result c.plain_answer.result c.answer-made.ensures.plain_fits c.plain_answer.ensures
