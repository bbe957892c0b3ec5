use Rattle.std.proofs.Common.{◌+◌, List, [], ◌∷◌, ◌++◌, length, take, drop, refl, ap, subst, arith}
use Rattle.std.proofs.lemmas.List.{take_all, length-append}
use Rattle.catalogue.specs.Named.{NamedTables}
use Rattle.command_line.specs.declared.command.TableWord.{TableWord}
use Rattle.run_plan.specs.Given.{AreFilesGiven, table_file}
use Rattle.run_plan.proofs.DoingLemmas.{through, went_into, stopped_into}
use Rattle.run_plan.proofs.FilesLemmas.{IsReadTo, read_none, read_more, read_refused, read_whole, next_reached}
use Rattle.run_plan.proofs.GivenLemmas.{found_before, found_none, found_count, found_more, found_through, unread}
use Rattle.run_plan.proofs.loading.load_tables.Goals as goal

pub loop-index-init : goal.loop-index-init
loop-index-init g c = record {
  count = ap (λ (n : NamedTables). length n.tables) c.new-catalogue.ensures;
  went = record {
    keeps = refl;
    kept = refl;
    given = [];
    agrees = found_none table_file _;
    tells = read_none c.new-catalogue.result c.new-catalogue.ensures;
  };
}

pub returns-in_err-push_table-clause-stopped : goal.returns-in_err-push_table-clause-stopped
returns-in_err-push_table-clause-stopped g c =
    let w = c.loop-index.invariant.went in
    let r = c.in_err-push_table.ensures.stopped in
    let held = g.F.Folder.holds c.args.folder.now in
    let words = c.args.words.now in
    let i = c.loop-index.index in
    let word = c.index-words-index.result in
    let long = found_count table_file held words i w.given (omega (arith, c.loop-index-test.true)) w.agrees in
    through c.from_residual.result c.in_err-push_table.field-0.0 _ c.from_residual.ensures.1
    (stopped_into _ _ _ _ _ _ _ _ _ c.in_err-push_table.field-0.0 w.keeps w.kept r (w.given ++ r.given ∷ unread table_file held (drop (i + 1) words))
    (found_through table_file held words i word word w.given r.given c.loop-index-test.true c.index-words-index.is w.agrees
    (found_before word.file held _ r.given w.keeps r.agrees))
    (λ e. read_refused w.given (unread table_file held (drop (i + 1) words)) r.given words i (take i words) c.loop-index.catalogue
    c.in_err-push_table.field-0.0 long w.tells e)
    (λ f k. next_reached w.given (unread table_file held (drop (i + 1) words)) r.given i (take i words) c.loop-index.catalogue long w.tells f k)
    (record { tables = omega (arith, c.loop-index-test.true); accesses = omega arith; remotes = omega arith }))

pub loop-index-preserved : goal.loop-index-preserved
loop-index-preserved g c =
    let a = c.in_ok-push_table.ensures.added in
    let w = c.loop-index.invariant.went in
    let held = g.F.Folder.holds c.args.folder.now in
    let words = c.args.words.now in
    let i = c.loop-index.index in
    let word = c.index-words-index.result in
    let long = found_count table_file held words i w.given (omega (arith, c.loop-index-test.true)) w.agrees in
    record {
      count = omega (arith, ap (λ (n : NamedTables). length n.tables) a.added, length-append c.loop-index.catalogue.tables (a.table ∷ []), c.loop-index.invariant.count);
      went = went_into _ _ _ _ _ _ _ w.keeps w.kept a.went (w.given ++ a.went.given ∷ [])
          (found_more table_file held words i word word w.given a.went.given c.loop-index-test.true c.index-words-index.is w.agrees
          (found_before word.file held _ a.went.given w.keeps a.went.agrees))
          (λ e. read_more w.given a.went.given words i word word c.loop-index.catalogue _ a.table c.loop-index-test.true long c.index-words-index.is a.added w.tells e);
    }

pub returns-clause-went : goal.returns-clause-went
returns-clause-went g c =
    let w = c.loop-index.invariant.went in
    let all = take_all c.loop-index.index c.args.words.now (omega (arith, c.loop-index-test.false)) in
    went_into _ _ _ _ _ _ _ refl refl w w.given (subst (λ (ws : List TableWord). AreFilesGiven ws (g.F.Folder.holds c.args.folder.now) w.given) all w.agrees)
    (λ r. read_whole w.given c.args.words.now c.loop-index.catalogue
    (subst (λ (ws : List TableWord). IsReadTo w.given ws c.loop-index.catalogue) all r))
