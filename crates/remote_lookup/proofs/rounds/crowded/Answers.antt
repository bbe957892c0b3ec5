use Rattle.std.proofs.Common.{◌<◌, ◌≤◌, ℕ, length, get_or, arith}
use Rattle.std.proofs.lemmas.Option.{slice_get-get_or}
use Rattle.remote_lookup.specs.declared.rounds.Tally.{Tally}
use Rattle.remote_lookup.proofs.FreshLemmas.{says_found, says_later, says_none}
use Rattle.remote_lookup.proofs.rounds.crowded.Goals as goal

pub returns-then-keys_of-left : goal.returns-then-keys_of-left
returns-then-keys_of-left c =
    let tallies = c.args.tallies.now in
    let r : ℕ = c.loop-remote.remote in
    let low : r < length tallies = omega (arith, c.loop-remote-test.true, c.loop-remote.auto.remote-end) in
    let t : Tally = get_or tallies r (record { keys = 0; rows = 0 }) in
    let few : t.keys ≤ 10000 = c.requires.few_keys r (record { keys = 0; rows = 0 }) low in
    says_found tallies c.args.fresh.now r t (slice_get-get_or tallies r (record { keys = 0; rows = 0 }) low) low c.loop-remote.invariant
    (omega (arith, c.if-keys_of-left.true, c.keys_of.ensures, few))

pub loop-remote-preserved : goal.loop-remote-preserved
loop-remote-preserved c =
    let tallies = c.args.tallies.now in
    let r : ℕ = c.loop-remote.remote in
    let low : r < length tallies = omega (arith, c.loop-remote-test.true, c.loop-remote.auto.remote-end) in
    let t : Tally = get_or tallies r (record { keys = 0; rows = 0 }) in
    let few : t.keys ≤ 10000 = c.requires.few_keys r (record { keys = 0; rows = 0 }) low in
    says_later tallies c.args.fresh.now r t (slice_get-get_or tallies r (record { keys = 0; rows = 0 }) low) low c.loop-remote.invariant
    (omega (arith, c.if-keys_of-left.false, c.keys_of.ensures, few))

pub returns : goal.returns
returns c =
    says_none c.args.tallies.now c.args.fresh.now c.loop-remote.remote (omega (arith, c.loop-remote-test.false, c.loop-remote.auto.remote-end)) c.loop-remote.invariant
