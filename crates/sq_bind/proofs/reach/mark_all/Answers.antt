use Rattle.std.proofs.Common.{◌+◌, drop, ap, ◌∙◌}
use Rattle.sq_expr.specs.declared.block.Conjunct.{Conjunct}
use Rattle.sq_bind.specs.Reached.{with_cond, spread}
use Rattle.sq_bind.proofs.ReachLemmas.{next_conjunct, last_conjunct}
use Rattle.sq_bind.proofs.reach.mark_all.Goals as goal

pub loop-conjunct-preserved : goal.loop-conjunct-preserved
loop-conjunct-preserved c =
    let i = c.loop-conjunct.conjunct-index in
    let cs = c.args.conjuncts.now in
    ap (spread c.args.uses.now (drop (i + 1) cs))
    (c.mark_cond.ensures ∙ ap (λ (d : Conjunct). with_cond c.args.uses.now d.cond c.loop-conjunct.marks) c.conjunct-item.is)
    ∙ next_conjunct c.args.uses.now cs i c.conjunct-item.result c.loop-conjunct.marks c.loop-conjunct-test.true
    ∙ c.loop-conjunct.invariant

pub returns : goal.returns
returns c =
    last_conjunct c.args.uses.now c.args.conjuncts.now c.loop-conjunct.conjunct-index c.loop-conjunct.marks c.loop-conjunct-test.false
    ∙ c.loop-conjunct.invariant
