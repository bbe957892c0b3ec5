use Rattle.std.proofs.Common.{◌≡◌, OnOk, List, ◌++◌, map, sym, ap, subst, ◌∙◌}
use Rattle.std.specs.List.{flat_map}
use Rattle.sq_parse.specs.declared.tree.Operand.{Operand}
use Rattle.sq_parse.specs.declared.tree.Tree.{Tree}
use Rattle.sq_parse.specs.declared.tree.Tree.TheVariants as parsed
use Rattle.sq_bind.specs.Condition.{Split, calling, split_of, conjuncts_in}
use Rattle.sq_bind.specs.Seen.{seen}
use Rattle.sq_bind.specs.declared.conjunct.Placed.{Placed}
use Rattle.sq_bind.proofs.SplitLemmas as by
use Rattle.sq_bind.proofs.conjunct.+push.Goals as goal

pub push_conjuncts-push_between-requires : goal.push_conjuncts-push_between-requires
push_conjuncts-push_between-requires g t c =
    c.in-Between.is
    ∙ ap (λ (high : Operand). parsed.Between c.in-Between.at c.in-Between.negated c.in-Between.subject c.in-Between.low high) (sym c.get.ensures)

pub push_conjuncts-returns-in-Compare : goal.push_conjuncts-returns-in-Compare
push_conjuncts-returns-in-Compare g t c =
    let calls = calling (g.F.Predicates.number_of c.args.functions.now) (g.F.Predicates.kinds_of c.args.functions.now) in
    let aliases = map seen c.args.aliases.now in
    let one = by.whole_only (split_of calls aliases c.args.tree.now) _ _ (ap (split_of calls aliases) c.in-Compare.is ∙ by.split_of-Compare calls aliases _ _ _ _) in
    subst (λ (xs : List Placed). OnOk c.push_whole.result (c.push_whole.new.placed.items ≡ c.args.placed.now.items ++ xs)) (sym one)
    c.push_whole.ensures

pub push_conjuncts-returns-in-Within : goal.push_conjuncts-returns-in-Within
push_conjuncts-returns-in-Within g t c =
    let calls = calling (g.F.Predicates.number_of c.args.functions.now) (g.F.Predicates.kinds_of c.args.functions.now) in
    let aliases = map seen c.args.aliases.now in
    let one = by.whole_only (split_of calls aliases c.args.tree.now) _ _ (ap (split_of calls aliases) c.in-Within.is ∙ by.split_of-Within calls aliases _ _ _ _) in
    subst (λ (xs : List Placed). OnOk c.push_whole-in-Within.result (c.push_whole-in-Within.new.placed.items ≡ c.args.placed.now.items ++ xs)) (sym one)
    c.push_whole-in-Within.ensures

pub push_conjuncts-returns-in-IsNull : goal.push_conjuncts-returns-in-IsNull
push_conjuncts-returns-in-IsNull g t c =
    let calls = calling (g.F.Predicates.number_of c.args.functions.now) (g.F.Predicates.kinds_of c.args.functions.now) in
    let aliases = map seen c.args.aliases.now in
    let one = by.whole_only (split_of calls aliases c.args.tree.now) _ _ (ap (split_of calls aliases) c.in-IsNull.is ∙ by.split_of-IsNull calls aliases _ _ _) in
    subst (λ (xs : List Placed). OnOk c.push_whole-in-IsNull.result (c.push_whole-in-IsNull.new.placed.items ≡ c.args.placed.now.items ++ xs)) (sym one)
    c.push_whole-in-IsNull.ensures

pub push_conjuncts-returns-in-Call : goal.push_conjuncts-returns-in-Call
push_conjuncts-returns-in-Call g t c =
    let calls = calling (g.F.Predicates.number_of c.args.functions.now) (g.F.Predicates.kinds_of c.args.functions.now) in
    let aliases = map seen c.args.aliases.now in
    let one = by.whole_only (split_of calls aliases c.args.tree.now) _ _ (ap (split_of calls aliases) c.in-Call.is ∙ by.split_of-Call calls aliases _ _) in
    subst (λ (xs : List Placed). OnOk c.push_whole-in-Call.result (c.push_whole-in-Call.new.placed.items ≡ c.args.placed.now.items ++ xs)) (sym one)
    c.push_whole-in-Call.ensures

pub push_conjuncts-returns-in-Not : goal.push_conjuncts-returns-in-Not
push_conjuncts-returns-in-Not g t c =
    let calls = calling (g.F.Predicates.number_of c.args.functions.now) (g.F.Predicates.kinds_of c.args.functions.now) in
    let aliases = map seen c.args.aliases.now in
    let one = by.whole_only (split_of calls aliases c.args.tree.now) _ _ (ap (split_of calls aliases) c.in-Not.is ∙ by.split_of-Not calls aliases _) in
    subst (λ (xs : List Placed). OnOk c.push_whole-in-Not.result (c.push_whole-in-Not.new.placed.items ≡ c.args.placed.now.items ++ xs)) (sym one)
    c.push_whole-in-Not.ensures

pub push_conjuncts-returns-in-Any : goal.push_conjuncts-returns-in-Any
push_conjuncts-returns-in-Any g t c =
    let calls = calling (g.F.Predicates.number_of c.args.functions.now) (g.F.Predicates.kinds_of c.args.functions.now) in
    let aliases = map seen c.args.aliases.now in
    let one = by.whole_only (split_of calls aliases c.args.tree.now) _ _ (ap (split_of calls aliases) c.in-Any.is ∙ by.split_of-Any calls aliases _) in
    subst (λ (xs : List Placed). OnOk c.push_whole-in-Any.result (c.push_whole-in-Any.new.placed.items ≡ c.args.placed.now.items ++ xs)) (sym one)
    c.push_whole-in-Any.ensures

pub push_conjuncts-returns-in-Is : goal.push_conjuncts-returns-in-Is
push_conjuncts-returns-in-Is g t c =
    let calls = calling (g.F.Predicates.number_of c.args.functions.now) (g.F.Predicates.kinds_of c.args.functions.now) in
    let aliases = map seen c.args.aliases.now in
    let one = by.whole_only (split_of calls aliases c.args.tree.now) _ _ (ap (split_of calls aliases) c.in-Is.is ∙ by.split_of-Is calls aliases _ _ _) in
    subst (λ (xs : List Placed). OnOk c.push_whole-in-Is.result (c.push_whole-in-Is.new.placed.items ≡ c.args.placed.now.items ++ xs)) (sym one)
    c.push_whole-in-Is.ensures

pub push_conjuncts-returns-in-All : goal.push_conjuncts-returns-in-All
push_conjuncts-returns-in-All g t c =
    let calls = calling (g.F.Predicates.number_of c.args.functions.now) (g.F.Predicates.kinds_of c.args.functions.now) in
    let aliases = map seen c.args.aliases.now in
    let all = ap (λ (parts : List Tree). flat_map (conjuncts_in calls aliases) parts) c.as_slice.ensures
    ∙ sym (ap (conjuncts_in calls aliases) c.in-All.is ∙ ap (λ (s : Split). s.conjuncts) (by.split_of-All calls aliases _) ∙ by.all_conjuncts calls aliases _) in
    subst (λ (xs : List Placed). OnOk c.push_parts.result (c.push_parts.new.placed.items ≡ c.args.placed.now.items ++ xs)) all c.push_parts.ensures
