use Rattle.sq_bind.proofs.AnswerLemmas.{one_fault, no_fault, no_fault_shape, some_answer, some_shape}
use Rattle.sq_bind.proofs.binding.one_answer.Goals as goal

pub returns-clause-fault : goal.returns-clause-fault
returns-clause-fault c = λ scope s f g a b. one_fault scope s f g a b

pub returns-clause-apart : goal.returns-clause-apart
returns-clause-apart c = λ scope s block f a b. no_fault scope s block f a b

pub returns-clause-shape_apart : goal.returns-clause-shape_apart
returns-clause-shape_apart c = λ scope s shaped f a b. no_fault_shape scope s shaped f a b

pub returns-clause-some : goal.returns-clause-some
returns-clause-some c = λ scope s some. some_answer scope s some

pub returns-clause-some_shape : goal.returns-clause-some_shape
returns-clause-some_shape c = λ scope s some. some_shape scope s some
