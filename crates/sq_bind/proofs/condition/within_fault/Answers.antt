use Rattle.sq_bind.proofs.ConditionLemmas.{fault_of_two}
use Rattle.sq_bind.proofs.condition.within_fault.Goals as goal

pub returns : goal.returns
returns c = fault_of_two _ _ _ _ _ _ _ _ c.one.ensures c.many.ensures c.and.ensures c.fault_at.ensures
