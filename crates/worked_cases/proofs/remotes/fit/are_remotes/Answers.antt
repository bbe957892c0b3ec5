use Rattle.std.proofs.Common.{arith, take_all, subst, All}
use Rattle.std.proofs.lemmas.List.Elements.{All-more}
use Rattle.remote_lookup.specs.Loaded.{IsRemote}
use Rattle.worked_cases.proofs.remotes.fit.are_remotes.Goals as goal

pub loop-remote-preserved : goal.loop-remote-preserved
loop-remote-preserved c =
    All-more (IsRemote c.args.tables.now) c.args.remotes.now c.loop-remote.remote-index c.remote-item.result
    (omega (arith, c.loop-remote-test.true)) c.loop-remote.invariant
    (subst (IsRemote c.args.tables.now) c.remote-item.is (c.is_remote.ensures c.if-not-is_remote.false))

pub returns : goal.returns
returns c = λ _. subst (All (IsRemote c.args.tables.now))
    (take_all c.loop-remote.remote-index c.args.remotes.now (omega (arith, c.loop-remote-test.false))) c.loop-remote.invariant
