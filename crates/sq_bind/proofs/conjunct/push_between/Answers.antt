use Rattle.std.proofs.Common.{◌≡◌, OnOk, Bool, List, ◌++◌, map, sym, ap, subst, ◌∙◌}
use Rattle.sq_bind.specs.Condition.{Split, calling, split_of, between, at_least, at_most}
use Rattle.sq_bind.specs.Seen.{seen}
use Rattle.sq_bind.specs.declared.conjunct.Placed.{Placed}
use Rattle.sq_bind.proofs.SplitLemmas as by
use Rattle.sq_bind.proofs.conjunct.push_between.Goals as goal

pub returns-then-is_negated : goal.returns-then-is_negated
returns-then-is_negated g c =
    let calls = calling (g.F.Predicates.number_of c.args.functions.now) (g.F.Predicates.kinds_of c.args.functions.now) in
    let aliases = map seen c.args.aliases.now in
    let b = c.args.between in
    let is = ap (split_of calls aliases) c.requires ∙ by.split_of-Between calls aliases _ _ _ _ _
    ∙ ap (λ (n : Bool). between b.0 n (at_least aliases b.2.now b.3.now) (at_most aliases b.2.now b.4.now)) c.if-is_negated.true in
    let one = by.whole_only (split_of calls aliases c.args.tree.now) _ _ is in
    subst (λ (xs : List Placed). OnOk c.push_whole.result (c.push_whole.new.placed.items ≡ c.args.placed.now.items ++ xs)) (sym one) c.push_whole.ensures

pub returns-else-is_negated : goal.returns-else-is_negated
returns-else-is_negated g c =
    let calls = calling (g.F.Predicates.number_of c.args.functions.now) (g.F.Predicates.kinds_of c.args.functions.now) in
    let aliases = map seen c.args.aliases.now in
    let b = c.args.between in
    let is = ap (split_of calls aliases) c.requires ∙ by.split_of-Between calls aliases _ _ _ _ _
    ∙ ap (λ (n : Bool). between b.0 n (at_least aliases b.2.now b.3.now) (at_most aliases b.2.now b.4.now)) c.if-is_negated.false in
    subst (λ (xs : List Placed). OnOk c.push_bounds.result (c.push_bounds.new.placed.items ≡ c.args.placed.now.items ++ xs))
    (sym (ap (λ (s : Split). s.conjuncts) is)) c.push_bounds.ensures
