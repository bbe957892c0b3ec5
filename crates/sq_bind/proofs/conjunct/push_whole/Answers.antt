use Rattle.std.proofs.Common.{ℕ, [], ◌∷◌, ◌++◌, map, ap, ◌∙◌}
use Rattle.sq_expr.specs.declared.cond.Cond.{Cond}
use Rattle.sq_bind.specs.Condition.{calling, split_of}
use Rattle.sq_bind.specs.Seen.{seen}
use Rattle.sq_bind.proofs.SplitLemmas.{placed_at}
use Rattle.sq_bind.proofs.conjunct.push_whole.Goals as goal

pub returns : goal.returns
returns g c =
    let calls = calling (g.F.Predicates.number_of c.args.functions.now) (g.F.Predicates.kinds_of c.args.functions.now) in
    let aliases = map seen c.args.aliases.now in
    let old = c.args.placed.now.items in
    c.in_ok-push.ensures.items
    ∙ ap (λ (at : ℕ). old ++ (placed_at at c.in_ok-cond.cond ∷ [])) (c.place_of-at.ensures calls aliases)
    ∙ ap (λ (whole : Cond). old ++ (placed_at (split_of calls aliases c.args.tree.now).at whole ∷ [])) c.in_ok-cond.ensures
