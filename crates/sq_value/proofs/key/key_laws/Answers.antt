use Rattle.std.proofs.Common.{rules}
use Rattle.sq_value.specs.Key.{rank_of_key}
use Rattle.sq_value.proofs.OrderLemmas.{value_equal}
use Rattle.sq_value.proofs.key.key_laws.Goals as goal

pub returns-clause-same : goal.returns-clause-same
returns-clause-same c = search rules

pub returns-clause-equal : goal.returns-clause-equal
returns-clause-equal c = λ v w x y h k.
    let one = returns-clause-same c x y in
    let all = value_equal v w (rank_of_key x) (rank_of_key y) h k in
    (λ e. all.0 (one.0 e), λ e. one.1 (all.1 e))
