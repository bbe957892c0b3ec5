use Rattle.std.proofs.Common.{ℕ, ◌<◌, length, arith}
use Rattle.remote_lookup.specs.Asking.{IsAskedAt}
use Rattle.remote_lookup.specs.declared.asks.Ask.{Ask}
use Rattle.remote_lookup.proofs.GrowthLemmas.{over_got}
use Rattle.remote_lookup.proofs.asking.ask_tables.Goals as goal

pub loop-ask-preserved : goal.loop-ask-preserved
loop-ask-preserved g c =
    let q = c.args.query.now in
    let i : ℕ = c.loop-ask.ask-index in
    let low : i < length c.as_slice-ask-items.result.now = omega (arith, c.loop-ask-test.true, c.loop-ask.auto.ask-index-end) in
    over_got (λ (ask : Ask). IsAskedAt g.P.Predicates.gives q.block.now q.tables.now q.remotes.now ask.remote ask.by) q.asks.items c.as_slice-ask-items.result.now i _
    c.args.asked.now c.loop-ask.asked c.ask_first.new.asked c.as_slice-ask-items.ensures.value low (c.loop-ask.invariant) (c.in_ok-ask_first.ensures)
