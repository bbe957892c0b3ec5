use Rattle.std.proofs.Common.{◌+◌, List, [], ◌∷◌, ◌++◌, length, drop, refl, sym, ap, subst, arith}
use Rattle.std.proofs.lemmas.List.{take_all, length-append}
use Rattle.command_line.specs.declared.command.RemoteWord.{RemoteWord}
use Rattle.run_plan.specs.Given.{AreHeadingsGiven, heading_file}
use Rattle.run_plan.specs.Headings.{Opened, opened_as}
use Rattle.run_plan.specs.Open.{AreOpen}
use Rattle.run_plan.proofs.DoingLemmas.{through, went_into, stopped_into}
use Rattle.run_plan.proofs.GivenLemmas.{found_before, found_none, found_count, found_more, found_through, unread}
use Rattle.run_plan.proofs.HeadingLemmas.{IsOpenedTo, next_heading, opened_more, opened_none, opened_refused, opened_whole}
use Rattle.run_plan.proofs.OpenLemmas.{open_none, open_more}
use Rattle.run_plan.proofs.opening.open_remotes.Goals as goal

pub loop-index-init : goal.loop-index-init
loop-index-init g c =
    let catalogue = c.args.catalogue.now in
    record {
      count = omega arith;
      opened = subst (AreOpen catalogue.tables) (sym c.new-remotes.ensures) (open_none catalogue.tables);
      went = record {
        keeps = refl;
        kept = refl;
        given = [];
        agrees = found_none heading_file _;
        tells = opened_none (opened_as catalogue []) (opened_as catalogue c.new-remotes.result) (ap (opened_as catalogue) c.new-remotes.ensures);
      };
    }

pub returns-in_err-open_remote-clause-stopped : goal.returns-in_err-open_remote-clause-stopped
returns-in_err-open_remote-clause-stopped g c =
    let w = c.loop-index.invariant.went in
    let r = c.in_err-open_remote.ensures.stopped in
    let s = c.in_err-open_remote.field-0.0 in
    let held = g.F.Folder.holds c.args.folder.now in
    let words = c.args.words.now in
    let i = c.loop-index.index in
    let word = c.index-words-index.result in
    let start = opened_as c.args.catalogue.now [] in
    let old = opened_as c.loop-index.catalogue c.loop-index.remotes in
    let rest = unread heading_file held (drop (i + 1) words) in
    let long = found_count heading_file held words i w.given (omega (arith, c.loop-index-test.true)) w.agrees in
    through c.from_residual.result s _ c.from_residual.ensures.1
    (stopped_into _ _ _ _ _ _ _ _ _ s w.keeps w.kept r (w.given ++ r.given ∷ rest)
    (found_through heading_file held words i word word w.given r.given c.loop-index-test.true c.index-words-index.is w.agrees
    (found_before (heading_file word) held _ r.given w.keeps r.agrees))
    (λ e. opened_refused w.given rest r.given start old words i word s c.loop-index-test.true long c.index-words-index.is w.tells e)
    (λ f k. next_heading w.given rest r.given start old words i c.loop-index-test.true long w.tells f k)
    (record { tables = omega arith; accesses = omega arith; remotes = omega (arith, c.loop-index-test.true) }))

pub loop-index-preserved : goal.loop-index-preserved
loop-index-preserved g c =
    let a = c.in_ok-open_remote.ensures.added in
    let w = c.loop-index.invariant.went in
    let held = g.F.Folder.holds c.args.folder.now in
    let words = c.args.words.now in
    let i = c.loop-index.index in
    let word = c.index-words-index.result in
    let start = opened_as c.args.catalogue.now [] in
    let old = opened_as c.loop-index.catalogue c.loop-index.remotes in
    let long = found_count heading_file held words i w.given (omega (arith, c.loop-index-test.true)) w.agrees in
    record {
      count = omega (
        arith,
        ap (λ (o : Opened). length o.catalogue.tables) a.added,
        length-append c.loop-index.catalogue.tables (a.heading.table ∷ []),
        c.loop-index.invariant.count,
      );
      opened = open_more old _ word a.heading c.loop-index.invariant.opened a.is a.added;
      went = went_into _ _ _ _ _ _ _ w.keeps w.kept a.went (w.given ++ a.went.given ∷ [])
          (found_more heading_file held words i word word w.given a.went.given c.loop-index-test.true c.index-words-index.is w.agrees
          (found_before (heading_file word) held _ a.went.given w.keeps a.went.agrees))
          (λ e. opened_more w.given a.went.given start old _ words i word a.heading c.loop-index-test.true long c.index-words-index.is w.tells e a.added);
    }

pub returns-clause-went : goal.returns-clause-went
returns-clause-went g c =
    let w = c.loop-index.invariant.went in
    let start = opened_as c.args.catalogue.now [] in
    let now = opened_as c.loop-index.catalogue c.loop-index.remotes in
    let all = take_all c.loop-index.index c.args.words.now (omega (arith, c.loop-index-test.false)) in
    went_into _ _ _ _ _ _ _ refl refl w w.given (subst (λ (ws : List RemoteWord). AreHeadingsGiven ws (g.F.Folder.holds c.args.folder.now) w.given) all w.agrees)
    (λ r. opened_whole w.given start now c.args.words.now (subst (λ (ws : List RemoteWord). IsOpenedTo w.given start now ws) all r))
