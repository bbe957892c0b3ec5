use Rattle.std.proofs.lemmas.Cmp.{upto}
use Rattle.sq_value.proofs.OrderLemmas.{sorted_by_total, value_tie}
use Rattle.sq_value.proofs.order.sort_laws.Goals as goal

pub returns-clause-total : goal.returns-clause-total
returns-clause-total c = sorted_by_total

pub returns-clause-reversed : goal.returns-clause-reversed
returns-clause-reversed c = λ way x y. (sorted_by_total way).antisymm y x

pub returns-clause-chained : goal.returns-clause-chained
returns-clause-chained c = λ way x y z. (sorted_by_total way).trans x y z

pub returns-clause-not_greater : goal.returns-clause-not_greater
returns-clause-not_greater c = λ way x y z. upto (sorted_by_total way) x y z

pub returns-clause-tie : goal.returns-clause-tie
returns-clause-tie c = value_tie
