use Rattle.std.proofs.Common.{◌≡◌, ap, subst, ℕ, Some, length, arith}
use Rattle.std.specs.Prelude.{slice_get}
use Rattle.sq_expr.specs.declared.block.Conjunct.{Conjunct}
use Rattle.remote_lookup.specs.Asks.{AreAsksBelow}
use Rattle.remote_lookup.proofs.AskLemmas.{asks_more, got_at}
use Rattle.remote_lookup.proofs.asks.asks_of.Goals as goal

pub loop-conjunct-preserved : goal.loop-conjunct-preserved
loop-conjunct-preserved c =
    let block = c.args.block.now in
    let i = c.loop-conjunct.conjunct-index in
    let item : Conjunct = c.conjunct-item.result in
    let at : slice_get block.conjuncts i ≡ Some item = got_at block.conjuncts c.as_slice-conjunct-items.result.now i item c.as_slice-conjunct-items.ensures (omega (arith, c.loop-conjunct-test.true, c.loop-conjunct.auto.conjunct-index-end)) c.conjunct-item.is in
    asks_more block c.args.remotes.now i item c.loop-conjunct.asks.items c.push_asks.new.asks.items at c.loop-conjunct.invariant c.in_ok-push_asks.ensures

pub returns : goal.returns
returns c =
    let same = ap (length {A = Conjunct}) c.as_slice-conjunct-items.ensures in
    let all : c.loop-conjunct.conjunct-index ≡ length c.args.block.now.conjuncts = omega (arith, same, c.loop-conjunct-test.false, c.loop-conjunct.auto.conjunct-index-end) in
    subst (λ (n : ℕ). AreAsksBelow c.args.block.now c.args.remotes.now n c.loop-conjunct.asks.items) all c.loop-conjunct.invariant
