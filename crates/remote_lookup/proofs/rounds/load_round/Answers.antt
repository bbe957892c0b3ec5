use Rattle.std.proofs.Common.{◌≡◌, ◌<◌, ◌+◌, ◌∙◌, refl, subst, ℕ, true, false, List, [], ◌∷◌, take, drop, get_or, length, Option, Some, arith}
use Rattle.std.specs.Prelude.{pos, slice_get}
use Rattle.std.proofs.lemmas.Option.{slice_get-get_or}
use Rattle.outside.specs.Files.{File}
use Rattle.eddy_meaning.proofs.MatchLemmas.{All-at}
use Rattle.remote_lookup.specs.Reading.{MayStop}
use Rattle.remote_lookup.specs.Rounds.{lists_key}
use Rattle.remote_lookup.specs.Working.{AreFound, FirstFaultIs, HaveLoaded, known}
use Rattle.remote_lookup.specs.declared.remote.RemoteKey.{RemoteKey}
use Rattle.remote_lookup.proofs.PlaceLemmas.{through}
use Rattle.remote_lookup.proofs.RunLemmas.{front_more, front_split, next_few, next_new, none_loaded, stops_round}
use Rattle.remote_lookup.proofs.rounds.load_round.Goals as goal

pub loop-at-init : goal.loop-at-init
loop-at-init g c =
    let q = c.args.query.now in
    record {
      holds = refl;
      faults = refl;
      loaded = none_loaded g.P.Predicates.gives q.block.now q.tables.now q.remotes.now (g.F.Folder.holds c.args.folder.now) c.args.work.now c.requires.work;
    }

pub load_key-requires-clause-there : goal.load_key-requires-clause-there
load_key-requires-clause-there g c =
    let i : ℕ = c.loop-at.at-index in
    let low : i < length c.args.fresh.now = omega (arith, c.loop-at-test.true, c.loop-at.auto.at-index-end) in
    let k : RemoteKey = get_or c.args.fresh.now i (record { remote = 0; key = pos 0 }) in
    let is : slice_get c.args.fresh.now i ≡ Some k = slice_get-get_or c.args.fresh.now i (record { remote = 0; key = pos 0 }) low in
    c.requires.work.there k.remote k.key (All-at (λ (j : RemoteKey). lists_key c.args.work.now.asked.all j.remote j.key ≡ true) c.args.fresh.now i k c.requires.asked is)

pub load_key-requires-clause-new : goal.load_key-requires-clause-new
load_key-requires-clause-new g c =
    let q = c.args.query.now in
    let i : ℕ = c.loop-at.at-index in
    let low : i < length c.args.fresh.now = omega (arith, c.loop-at-test.true, c.loop-at.auto.at-index-end) in
    let k : RemoteKey = get_or c.args.fresh.now i (record { remote = 0; key = pos 0 }) in
    let is : slice_get c.args.fresh.now i ≡ Some k = slice_get-get_or c.args.fresh.now i (record { remote = 0; key = pos 0 }) low in
    next_new g.P.Predicates.gives q.block.now q.tables.now q.remotes.now (g.F.Folder.holds c.args.folder.now) c.args.fresh.now i k c.args.work.now c.loop-at.work c.loop-at.invariant.loaded
    c.requires.ordered is (All-at (λ (j : RemoteKey). lists_key (known c.args.work.now.loaded) j.remote j.key ≡ false) c.args.fresh.now i k c.requires.new is)

pub load_key-requires-clause-few : goal.load_key-requires-clause-few
load_key-requires-clause-few g c =
    let q = c.args.query.now in
    let i : ℕ = c.loop-at.at-index in
    let low : i < length c.args.fresh.now = omega (arith, c.loop-at-test.true, c.loop-at.auto.at-index-end) in
    let k : RemoteKey = get_or c.args.fresh.now i (record { remote = 0; key = pos 0 }) in
    let is : slice_get c.args.fresh.now i ≡ Some k = slice_get-get_or c.args.fresh.now i (record { remote = 0; key = pos 0 }) low in
    let there = c.requires.work.there k.remote k.key (All-at (λ (j : RemoteKey). lists_key c.args.work.now.asked.all j.remote j.key ≡ true) c.args.fresh.now i k c.requires.asked is) in
    next_few g.P.Predicates.gives q.block.now q.tables.now q.remotes.now (g.F.Folder.holds c.args.folder.now) c.args.fresh.now i k c.args.work.now c.loop-at.work c.loop-at.invariant.loaded
    c.requires.work there is c.requires.few

pub returns-in_err-load_key-clause-stopped : goal.returns-in_err-load_key-clause-stopped
returns-in_err-load_key-clause-stopped g c =
    let q = c.args.query.now in
    let i : ℕ = c.loop-at.at-index in
    let low : i < length c.args.fresh.now = omega (arith, c.loop-at-test.true, c.loop-at.auto.at-index-end) in
    let k : RemoteKey = get_or c.args.fresh.now i (record { remote = 0; key = pos 0 }) in
    let is : slice_get c.args.fresh.now i ≡ Some k = slice_get-get_or c.args.fresh.now i (record { remote = 0; key = pos 0 }) low in
    let held = g.F.Folder.holds c.args.folder.now in
    let now = g.F.Folder.faults c.load_key.new.folder in
    let f = c.in_err-load_key.field-0.0 in
    let b = c.loop-at.work in
    let moved = subst (λ (h : Option (List File)). AreFound q.tables.now q.remotes.now h b.loaded
    → MayStop (g.F.Folder.faults c.loop-at.folder) now (FirstFaultIs q.tables.now q.remotes.now h b.loaded) k f)
    c.loop-at.invariant.holds c.in_err-load_key.ensures.stopped in
    through c.from_residual.result f _ c.from_residual.ensures.1
    (λ found. stops_round g.P.Predicates.gives q.block.now q.tables.now q.remotes.now held (take i c.args.fresh.now) c.args.fresh.now (drop (i + 1) c.args.fresh.now) k c.args.work.now b
    (g.F.Folder.faults c.args.folder.now) now f c.loop-at.invariant.loaded
    (front_split g.P.Predicates.gives q.block.now q.tables.now q.remotes.now held c.args.fresh.now i k is)
    (subst (λ (n : ℕ). MayStop n now (FirstFaultIs q.tables.now q.remotes.now held b.loaded) k f) c.loop-at.invariant.faults
    (moved (c.loop-at.invariant.loaded.found found))))

pub loop-at-preserved : goal.loop-at-preserved
loop-at-preserved g c =
    let q = c.args.query.now in
    let i : ℕ = c.loop-at.at-index in
    let low : i < length c.args.fresh.now = omega (arith, c.loop-at-test.true, c.loop-at.auto.at-index-end) in
    let k : RemoteKey = get_or c.args.fresh.now i (record { remote = 0; key = pos 0 }) in
    let is : slice_get c.args.fresh.now i ≡ Some k = slice_get-get_or c.args.fresh.now i (record { remote = 0; key = pos 0 }) low in
    let held = g.F.Folder.holds c.args.folder.now in
    record {
      holds = c.in_ok-load_key.ensures.keeps ∙ c.loop-at.invariant.holds;
      faults = c.in_ok-load_key.ensures.kept ∙ c.loop-at.invariant.faults;
      loaded = front_more g.P.Predicates.gives q.block.now q.tables.now q.remotes.now held c.args.fresh.now i k c.args.work.now c.loop-at.work c.load_key.new.work is c.loop-at.invariant.loaded
          (subst (λ (h : Option (List File)). HaveLoaded g.P.Predicates.gives q.block.now q.tables.now q.remotes.now h (k ∷ []) c.loop-at.work c.load_key.new.work) c.loop-at.invariant.holds
          c.in_ok-load_key.ensures.loaded);
    }
