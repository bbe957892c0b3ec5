use Rattle.std.proofs.Common.{◌≡◌, ◌<◌, ◌≤◌, ◌+◌, ◌-◌, ◌∙◌, ap, sym, subst, refl, List, length, Option, arith}
use Rattle.std.specs.Prelude.{All}
use Rattle.std.proofs.lemmas.Bool.{false≢true}
use Rattle.outside.specs.Files.{File}
use Rattle.remote_lookup.specs.Loaded.{MayRefuse}
use Rattle.remote_lookup.specs.Reading.{MayStopIn}
use Rattle.remote_lookup.specs.Working.{AreFound, FirstFaultIs, HaveLoaded, crowded_with}
use Rattle.remote_lookup.specs.declared.asked.Asked.{Asked}
use Rattle.remote_lookup.specs.declared.remote.RemoteFault.TheVariants as fault
use Rattle.remote_lookup.specs.declared.remote.RemoteKey.{RemoteKey}
use Rattle.remote_lookup.specs.declared.rounds.Tally.{Tally}
use Rattle.remote_lookup.specs.declared.rounds.Work.{Work}
use Rattle.remote_lookup.proofs.FreshLemmas.{crowds, found_low}
use Rattle.remote_lookup.proofs.GivenLemmas.{given_any}
use Rattle.remote_lookup.proofs.PlaceLemmas.{through}
use Rattle.remote_lookup.proofs.RoundsLemmas.{AreTaken, HaveTaken, comes_to, due_begun, due_next, few_keys, found_begun, found_next, grown_by, may_be_crowded, may_stop, so_far_begun, so_far_next, some_taken}
use Rattle.remote_lookup.proofs.RunLemmas.{refused_keys}
use Rattle.remote_lookup.proofs.rounds.load_rounds.Goals as goal

pub loop-alloc-init : goal.loop-alloc-init
loop-alloc-init g c =
    let q = c.args.query.now in
    let w : Work = c.args.work.now in
    record {
      holds = refl;
      faults = refl;
      due = due_begun g.P.Predicates.gives q.block.now q.tables.now q.remotes.now w c.requires.work c.requires.begun c.requires.fresh;
      found = found_begun g.P.Predicates.gives q.block.now q.tables.now q.remotes.now (g.F.Folder.holds c.args.folder.now) w c.requires.begun;
      so_far = λ means. so_far_begun g.P.Predicates.gives q.block.now q.tables.now q.remotes.now w c.requires.begun means;
    }

pub returns-in_err-fresh-clause-may : goal.returns-in_err-fresh-clause-may
returns-in_err-fresh-clause-may g c =
    let q = c.args.query.now in
    through c.from_residual.result fault.Memory _ c.from_residual.ensures.1
    (λ means. given_any q.tables.now q.remotes.now (g.F.Folder.holds c.args.folder.now)
    (λ found. MayRefuse g.P.Predicates.gives q.block.now q.tables.now q.remotes.now found fault.Memory) (λ found. tt))

pub crowded-requires-clause-few_keys : goal.crowded-requires-clause-few_keys
crowded-requires-clause-few_keys g c =
    let q = c.args.query.now in
    subst (All (λ (t : Tally). t.keys ≤ 10000)) (sym c.as_slice.ensures.value)
    (few_keys g.P.Predicates.gives q.block.now q.tables.now q.remotes.now c.loop-alloc.work c.loop-alloc.invariant.due.work)

pub returns-in-Some-clause-may : goal.returns-in-Some-clause-may
returns-in-Some-clause-may g c =
    let q = c.args.query.now in
    let w : Work = c.loop-alloc.work in
    let held = g.F.Folder.holds c.args.folder.now in
    let keys : List RemoteKey = c.in_ok-fresh.fresh.items in
    let taken : AreTaken g.P.Predicates.gives q.block.now q.tables.now q.remotes.now w keys = record {
      is = c.in_ok-fresh.ensures.keys;
      ordered = c.in_ok-fresh.ensures.ordered;
      some = λ e. false≢true (sym c.loop-alloc-test.true ∙ c.is_empty.ensures.1 (sym c.in_ok-fresh.ensures.keys ∙ e));
    } in
    let crowd : crowded_with w.tallies.items keys ≡ c.crowded.result =
    ap (λ (l : List Tally). crowded_with l keys) (sym c.as_slice.ensures.value)
    ∙ ap (crowded_with c.as_slice.result.now) (sym c.as_slice-in-loop-alloc.ensures.value) ∙ sym c.crowded.ensures in
    λ means. may_be_crowded g.P.Predicates.gives q.block.now q.tables.now q.remotes.now held w keys c.in-Some.remote c.loop-alloc.invariant.due taken (crowd ∙ c.in-Some.is)
    c.loop-alloc.invariant.found (c.loop-alloc.invariant.so_far means)

pub returns-in-Some-clause-refused : goal.returns-in-Some-clause-refused
returns-in-Some-clause-refused g c =
    let q = c.args.query.now in
    let w : Work = c.loop-alloc.work in
    let held = g.F.Folder.holds c.args.folder.now in
    let keys : List RemoteKey = c.in_ok-fresh.fresh.items in
    let taken : AreTaken g.P.Predicates.gives q.block.now q.tables.now q.remotes.now w keys = record {
      is = c.in_ok-fresh.ensures.keys;
      ordered = c.in_ok-fresh.ensures.ordered;
      some = λ e. false≢true (sym c.loop-alloc-test.true ∙ c.is_empty.ensures.1 (sym c.in_ok-fresh.ensures.keys ∙ e));
    } in
    let crowd : crowded_with w.tallies.items keys ≡ c.crowded.result =
    ap (λ (l : List Tally). crowded_with l keys) (sym c.as_slice.ensures.value)
    ∙ ap (crowded_with c.as_slice.result.now) (sym c.as_slice-in-loop-alloc.ensures.value) ∙ sym c.crowded.ensures in
    let low : c.in-Some.remote < 0 + length w.tallies.items = found_low (crowds w.tallies.items keys) (length w.tallies.items) 0 c.in-Some.remote (crowd ∙ c.in-Some.is) in
    refused_keys (length q.remotes.now) (g.F.Folder.faults c.args.folder.now) (g.F.Folder.faults c.loop-alloc.folder) c.in-Some.remote _ refl
    (omega (arith, low, c.loop-alloc.invariant.due.work.count)) c.loop-alloc.invariant.faults

pub returns-in_err-load_round-clause-may : goal.returns-in_err-load_round-clause-may
returns-in_err-load_round-clause-may g c =
    let q = c.args.query.now in
    let w : Work = c.loop-alloc.work in
    let held = g.F.Folder.holds c.args.folder.now in
    let keys : List RemoteKey = c.in_ok-fresh.fresh.items in
    let taken : AreTaken g.P.Predicates.gives q.block.now q.tables.now q.remotes.now w keys = record {
      is = c.in_ok-fresh.ensures.keys;
      ordered = c.in_ok-fresh.ensures.ordered;
      some = λ e. false≢true (sym c.loop-alloc-test.true ∙ c.is_empty.ensures.1 (sym c.in_ok-fresh.ensures.keys ∙ e));
    } in
    let crowd : crowded_with w.tallies.items keys ≡ c.crowded.result =
    ap (λ (l : List Tally). crowded_with l keys) (sym c.as_slice.ensures.value)
    ∙ ap (crowded_with c.as_slice.result.now) (sym c.as_slice-in-loop-alloc.ensures.value) ∙ sym c.crowded.ensures in
    let v : Work = record w { asked = c.take_fresh.new.self } in
    let have : HaveTaken g.P.Predicates.gives q.block.now q.tables.now q.remotes.now w v = record {
      all = ap (λ (a : Asked). a.all) c.in_ok-fresh.ensures.taken;
      none = ap (λ (a : Asked). a.fresh) c.in_ok-fresh.ensures.taken;
      loaded = refl;
      tallies = refl;
      spare = refl;
    } in
    let f = c.in_err-load_round.field-0.0 in
    let now = g.F.Folder.faults c.load_round.new.folder in
    let stops = subst (λ (l : List RemoteKey). AreFound q.tables.now q.remotes.now (g.F.Folder.holds c.loop-alloc.folder) v.loaded
    → MayStopIn (g.F.Folder.faults c.loop-alloc.folder) now (FirstFaultIs q.tables.now q.remotes.now (g.F.Folder.holds c.loop-alloc.folder) v.loaded) l f)
    c.as_slice-in-loop-alloc-2.ensures.value c.in_err-load_round.ensures.stopped in
    let moved = subst (λ (h : Option (List File)). AreFound q.tables.now q.remotes.now h v.loaded
    → MayStopIn (g.F.Folder.faults c.loop-alloc.folder) now (FirstFaultIs q.tables.now q.remotes.now h v.loaded) keys f)
    c.loop-alloc.invariant.holds stops in
    through c.from_residual-in_err-load_round.result f _ c.from_residual-in_err-load_round.ensures.1
    (λ means. may_stop g.P.Predicates.gives q.block.now q.tables.now q.remotes.now held (g.F.Folder.faults c.loop-alloc.folder) now w v keys f c.loop-alloc.invariant.due taken have
    (crowd ∙ c.in_default.is) moved c.loop-alloc.invariant.found (c.loop-alloc.invariant.so_far means))

pub loop-alloc-smaller : goal.loop-alloc-smaller
loop-alloc-smaller g c =
    let q = c.args.query.now in
    let w : Work = c.loop-alloc.work in
    let held = g.F.Folder.holds c.args.folder.now in
    let keys : List RemoteKey = c.in_ok-fresh.fresh.items in
    let taken : AreTaken g.P.Predicates.gives q.block.now q.tables.now q.remotes.now w keys = record {
      is = c.in_ok-fresh.ensures.keys;
      ordered = c.in_ok-fresh.ensures.ordered;
      some = λ e. false≢true (sym c.loop-alloc-test.true ∙ c.is_empty.ensures.1 (sym c.in_ok-fresh.ensures.keys ∙ e));
    } in
    let crowd : crowded_with w.tallies.items keys ≡ c.crowded.result =
    ap (λ (l : List Tally). crowded_with l keys) (sym c.as_slice.ensures.value)
    ∙ ap (crowded_with c.as_slice.result.now) (sym c.as_slice-in-loop-alloc.ensures.value) ∙ sym c.crowded.ensures in
    let v : Work = record w { asked = c.take_fresh.new.self } in
    let have : HaveTaken g.P.Predicates.gives q.block.now q.tables.now q.remotes.now w v = record {
      all = ap (λ (a : Asked). a.all) c.in_ok-fresh.ensures.taken;
      none = ap (λ (a : Asked). a.fresh) c.in_ok-fresh.ensures.taken;
      loaded = refl;
      tallies = refl;
      spare = refl;
    } in
    let x : Work = c.load_round.new.work in
    let one : HaveLoaded g.P.Predicates.gives q.block.now q.tables.now q.remotes.now held keys v x =
    subst (λ (h : Option (List File)). HaveLoaded g.P.Predicates.gives q.block.now q.tables.now q.remotes.now h keys v x) c.loop-alloc.invariant.holds
    (subst (λ (l : List RemoteKey). HaveLoaded g.P.Predicates.gives q.block.now q.tables.now q.remotes.now (g.F.Folder.holds c.loop-alloc.folder) l v x) c.as_slice-in-loop-alloc-2.ensures.value
    c.in_ok-load_round.ensures.loaded) in
    let more = grown_by g.P.Predicates.gives q.block.now q.tables.now q.remotes.now held v x keys one in
    let some = some_taken g.P.Predicates.gives q.block.now q.tables.now q.remotes.now w keys taken in
    let less : 18446744073709551616 - length x.loaded < 18446744073709551616 - length w.loaded = omega (arith, more, some, c.len-count.ensures, c.len-count.type_inv) in
    less

pub loop-alloc-preserved : goal.loop-alloc-preserved
loop-alloc-preserved g c =
    let q = c.args.query.now in
    let w : Work = c.loop-alloc.work in
    let held = g.F.Folder.holds c.args.folder.now in
    let keys : List RemoteKey = c.in_ok-fresh.fresh.items in
    let taken : AreTaken g.P.Predicates.gives q.block.now q.tables.now q.remotes.now w keys = record {
      is = c.in_ok-fresh.ensures.keys;
      ordered = c.in_ok-fresh.ensures.ordered;
      some = λ e. false≢true (sym c.loop-alloc-test.true ∙ c.is_empty.ensures.1 (sym c.in_ok-fresh.ensures.keys ∙ e));
    } in
    let crowd : crowded_with w.tallies.items keys ≡ c.crowded.result =
    ap (λ (l : List Tally). crowded_with l keys) (sym c.as_slice.ensures.value)
    ∙ ap (crowded_with c.as_slice.result.now) (sym c.as_slice-in-loop-alloc.ensures.value) ∙ sym c.crowded.ensures in
    let v : Work = record w { asked = c.take_fresh.new.self } in
    let have : HaveTaken g.P.Predicates.gives q.block.now q.tables.now q.remotes.now w v = record {
      all = ap (λ (a : Asked). a.all) c.in_ok-fresh.ensures.taken;
      none = ap (λ (a : Asked). a.fresh) c.in_ok-fresh.ensures.taken;
      loaded = refl;
      tallies = refl;
      spare = refl;
    } in
    let x : Work = c.load_round.new.work in
    let one : HaveLoaded g.P.Predicates.gives q.block.now q.tables.now q.remotes.now held keys v x =
    subst (λ (h : Option (List File)). HaveLoaded g.P.Predicates.gives q.block.now q.tables.now q.remotes.now h keys v x) c.loop-alloc.invariant.holds
    (subst (λ (l : List RemoteKey). HaveLoaded g.P.Predicates.gives q.block.now q.tables.now q.remotes.now (g.F.Folder.holds c.loop-alloc.folder) l v x) c.as_slice-in-loop-alloc-2.ensures.value
    c.in_ok-load_round.ensures.loaded) in
    record {
      holds = c.in_ok-load_round.ensures.keeps ∙ c.loop-alloc.invariant.holds;
      faults = c.in_ok-load_round.ensures.kept ∙ c.loop-alloc.invariant.faults;
      due = due_next g.P.Predicates.gives q.block.now q.tables.now q.remotes.now held w v x keys c.loop-alloc.invariant.due taken have one;
      found = found_next g.P.Predicates.gives q.block.now q.tables.now q.remotes.now held w v x keys have one c.loop-alloc.invariant.found;
      so_far = λ means. so_far_next g.P.Predicates.gives q.block.now q.tables.now q.remotes.now held w v x keys c.loop-alloc.invariant.due taken have one (crowd ∙ c.in_default.is)
          (c.loop-alloc.invariant.so_far means);
    }

pub returns-clause-comes : goal.returns-clause-comes
returns-clause-comes g c =
    let q = c.args.query.now in
    λ means. comes_to g.P.Predicates.gives q.block.now q.tables.now q.remotes.now c.loop-alloc.work c.loop-alloc.invariant.due
    (c.is_empty.ensures.0 c.loop-alloc-test.false) (c.loop-alloc.invariant.so_far means)
