use Rattle.std.proofs.Common.{subst}
use Rattle.sq_value.specs.declared.value.Cmp.{Cmp}
use Rattle.sq_expr.specs.IntegerTest.{IsBeside, IsIntegerTest}
use Rattle.sq_expr.proofs.IntegerTestLemmas.{column_first, integer_first}
use Rattle.sq_expr.proofs.MembershipLemmas.{some_so}
use Rattle.sq_expr.proofs.integer_test.integer_test_of.Goals as goal

pub returns-in-Some-beside : goal.returns-in-Some-beside
returns-in-Some-beside c =
    column_first c.args.cond.now c.in-Some.left.now c.in-Some.cmp c.in-Some.right.now c.in-Some-beside.test c.in-Some.ensures c.in-Some-beside.ensures

pub returns-in-None : goal.returns-in-None
returns-in-None c =
    let left = c.in-Some.left.now in
    let right = c.in-Some.right.now in
    some_so (IsBeside right c.exchanged.result left) (IsIntegerTest c.args.cond.now) c.beside-in-None.result
    (λ t h. integer_first c.args.cond.now left c.in-Some.cmp right t c.in-Some.ensures (subst (λ (how : Cmp). IsBeside right how left t) c.exchanged.ensures h))
    c.beside-in-None.ensures
