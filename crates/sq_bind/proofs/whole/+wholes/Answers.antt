use Rattle.std.proofs.Common.{◌≡◌, IfOk, List, [], ◌∷◌, map, sym, ap, subst, ◌∙◌}
use Rattle.sq_parse.specs.declared.tree.Tree.{Tree}
use Rattle.sq_parse.specs.declared.tree.Operand.{Operand}
use Rattle.sq_expr.specs.declared.cond.Cond.{Cond}
use Rattle.sq_expr.specs.declared.cond.Cond.TheVariants as cond
use Rattle.sq_bind.specs.Condition.{Split, calling, whole_in, negated_if, at_least, at_most, any_equal, equal_to, call_of}
use Rattle.sq_bind.specs.Seen.{seen}
use Rattle.sq_bind.proofs.SplitLemmas as by
use Rattle.sq_bind.proofs.whole.+wholes.Goals as goal

pub whole_of-returns-in-Compare : goal.whole_of-returns-in-Compare
whole_of-returns-in-Compare g t c =
    let calls = calling (g.F.Predicates.number_of c.args.functions.now) (g.F.Predicates.kinds_of c.args.functions.now) in
    let aliases = map seen c.args.aliases.now in
    let whole = λ (s : Split). s.whole in
    let is = ap (whole_in calls aliases) c.in-Compare.is in
    subst (λ (w : Cond). IfOk c.compare_of.result (λ x. x ≡ w)) (sym (is ∙ ap whole (by.split_of-Compare calls aliases _ _ _ _))) c.compare_of.ensures

pub whole_of-returns-in-Between : goal.whole_of-returns-in-Between
whole_of-returns-in-Between g t c =
    let calls = calling (g.F.Predicates.number_of c.args.functions.now) (g.F.Predicates.kinds_of c.args.functions.now) in
    let aliases = map seen c.args.aliases.now in
    let whole = λ (s : Split). s.whole in
    let is = ap (whole_in calls aliases) c.in-Between.is in
    let bounds = λ (high : Operand). negated_if c.in-Between.negated (cond.All (at_least aliases c.in-Between.subject c.in-Between.low ∷ at_most aliases c.in-Between.subject high ∷ [])) in
    subst (λ (w : Cond). IfOk c.between_whole.result (λ x. x ≡ w)) (ap bounds c.get.ensures ∙ sym (is ∙ ap whole (by.split_of-Between calls aliases _ _ _ _ _))) c.between_whole.ensures

pub whole_of-returns-in-Within : goal.whole_of-returns-in-Within
whole_of-returns-in-Within g t c =
    let calls = calling (g.F.Predicates.number_of c.args.functions.now) (g.F.Predicates.kinds_of c.args.functions.now) in
    let aliases = map seen c.args.aliases.now in
    let whole = λ (s : Split). s.whole in
    let is = ap (whole_in calls aliases) c.in-Within.is in
    subst (λ (w : Cond). IfOk c.within_whole.result (λ x. x ≡ w)) (ap (λ (items : List Operand). negated_if c.in-Within.negated (any_equal (map (equal_to aliases c.in-Within.subject) items))) c.as_slice.ensures
    ∙ sym (is ∙ ap whole (by.split_of-Within calls aliases _ _ _ _))) c.within_whole.ensures

pub whole_of-returns-in-IsNull : goal.whole_of-returns-in-IsNull
whole_of-returns-in-IsNull g t c =
    let calls = calling (g.F.Predicates.number_of c.args.functions.now) (g.F.Predicates.kinds_of c.args.functions.now) in
    let aliases = map seen c.args.aliases.now in
    let whole = λ (s : Split). s.whole in
    let is = ap (whole_in calls aliases) c.in-IsNull.is in
    subst (λ (w : Cond). IfOk c.null_whole.result (λ x. x ≡ w)) (sym (is ∙ ap whole (by.split_of-IsNull calls aliases _ _ _))) c.null_whole.ensures

pub whole_of-returns-in-Call : goal.whole_of-returns-in-Call
whole_of-returns-in-Call g t c =
    let calls = calling (g.F.Predicates.number_of c.args.functions.now) (g.F.Predicates.kinds_of c.args.functions.now) in
    let aliases = map seen c.args.aliases.now in
    let whole = λ (s : Split). s.whole in
    let is = ap (whole_in calls aliases) c.in-Call.is in
    subst (λ (w : Cond). IfOk c.call_of.result (λ x. x ≡ w)) (ap (λ (args : List Operand). call_of aliases (calls.number c.in-Call.function.text) args) c.as_slice-in-Call.ensures
    ∙ sym (is ∙ ap whole (by.split_of-Call calls aliases _ _))) c.call_of.ensures

pub whole_of-returns-in-Not : goal.whole_of-returns-in-Not
whole_of-returns-in-Not g t c =
    let calls = calling (g.F.Predicates.number_of c.args.functions.now) (g.F.Predicates.kinds_of c.args.functions.now) in
    let aliases = map seen c.args.aliases.now in
    let whole = λ (s : Split). s.whole in
    let is = ap (whole_in calls aliases) c.in-Not.is in
    subst (λ (w : Cond). IfOk c.not_whole.result (λ x. x ≡ w)) (ap (λ (part : Tree). cond.Not (whole_in calls aliases part)) c.get-in-Not.ensures ∙ sym (is ∙ ap whole (by.split_of-Not calls aliases _))) c.not_whole.ensures

pub whole_of-returns-in-All : goal.whole_of-returns-in-All
whole_of-returns-in-All g t c =
    let calls = calling (g.F.Predicates.number_of c.args.functions.now) (g.F.Predicates.kinds_of c.args.functions.now) in
    let aliases = map seen c.args.aliases.now in
    let whole = λ (s : Split). s.whole in
    let is = ap (whole_in calls aliases) c.in-All.is in
    subst (λ (w : Cond). IfOk c.all_whole.result (λ x. x ≡ w)) (ap (λ (parts : List Tree). cond.All (map (whole_in calls aliases) parts)) c.as_slice-in-All.ensures
    ∙ sym (is ∙ ap whole (by.split_of-All calls aliases _) ∙ ap cond.All (by.wholes calls aliases _))) c.all_whole.ensures

pub whole_of-returns-in-Any : goal.whole_of-returns-in-Any
whole_of-returns-in-Any g t c =
    let calls = calling (g.F.Predicates.number_of c.args.functions.now) (g.F.Predicates.kinds_of c.args.functions.now) in
    let aliases = map seen c.args.aliases.now in
    let whole = λ (s : Split). s.whole in
    let is = ap (whole_in calls aliases) c.in-Any.is in
    subst (λ (w : Cond). IfOk c.any_whole.result (λ x. x ≡ w)) (ap (λ (parts : List Tree). cond.Any (map (whole_in calls aliases) parts)) c.as_slice-in-Any.ensures
    ∙ sym (is ∙ ap whole (by.split_of-Any calls aliases _) ∙ ap cond.Any (by.wholes calls aliases _))) c.any_whole.ensures

pub whole_of-returns-in-Is : goal.whole_of-returns-in-Is
whole_of-returns-in-Is g t c =
    let calls = calling (g.F.Predicates.number_of c.args.functions.now) (g.F.Predicates.kinds_of c.args.functions.now) in
    let aliases = map seen c.args.aliases.now in
    let whole = λ (s : Split). s.whole in
    let is = ap (whole_in calls aliases) c.in-Is.is in
    subst (λ (w : Cond). IfOk c.is_whole.result (λ x. x ≡ w)) (ap (λ (part : Tree). negated_if c.in-Is.negated (cond.Is (whole_in calls aliases part) c.in-Is.truth)) c.get-in-Is.ensures
    ∙ sym (is ∙ ap whole (by.split_of-Is calls aliases _ _ _))) c.is_whole.ensures
