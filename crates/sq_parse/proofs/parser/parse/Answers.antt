use Rattle.sq_parse.proofs.ParseLemmas.{answers_spelled, answers_every}
use Rattle.sq_parse.proofs.FirstFault.{answers_fault, answers_every_fault}
use Rattle.sq_parse.proofs.parser.parse.Goals as goal

pub returns-in-Ok-clause-spelled : goal.returns-in-Ok-clause-spelled
returns-in-Ok-clause-spelled c = answers_spelled c.args.text.now _ (rw c.in-Ok.ensures.cases.0 at c.parse_text.ensures)

pub returns-in-Ok-clause-every : goal.returns-in-Ok-clause-every
returns-in-Ok-clause-every c = λ s u h. answers_every c.args.text.now s _ (rw c.in-Ok.ensures.cases.0 at c.parse_text.ensures) h

pub returns-in-Ok-clause-fault : goal.returns-in-Ok-clause-fault
returns-in-Ok-clause-fault c = answers_fault c.args.text.now c.in-Ok.ensures.cases.1 _ (rw c.in-Ok.ensures.cases.0 at c.parse_text.ensures)

pub returns-in-Ok-clause-every_fault : goal.returns-in-Ok-clause-every_fault
returns-in-Ok-clause-every_fault c = λ f h. answers_every_fault c.args.text.now c.in-Ok.ensures.cases.1 f h _ (rw c.in-Ok.ensures.cases.0 at c.parse_text.ensures)
