use Rattle.std.proofs.Common.{◌≡◌, ◌≤◌, ◌∙◌, ap, sym, subst, refl, [], length, map, arith}
use Rattle.std.specs.Prelude.{All}
use Rattle.sq_value.specs.Relation.{Relation}
use Rattle.remote_lookup.specs.Asked.{Grows}
use Rattle.remote_lookup.specs.Asking.{IsAskedFirst}
use Rattle.remote_lookup.specs.declared.asked.Asked.{Asked}
use Rattle.remote_lookup.specs.declared.rounds.Work.{Work}
use Rattle.remote_lookup.proofs.BegunLemmas.{begun_means, begun_work, few_remotes}
use Rattle.remote_lookup.proofs.EndLemmas.{answers_loaded, answers_memory, answers_refused, few_rows, gathered, may_gather}
use Rattle.remote_lookup.proofs.GatherLemmas.{columns_stacked, stacked}
use Rattle.remote_lookup.proofs.loading.load_needed.Goals as goal

pub asks_of-requires : goal.asks_of-requires
asks_of-requires g c =
    omega (arith, few_remotes c.args.block.now c.args.tables.now c.args.remotes.now c.requires.remotes, c.len-count.ensures, c.len-count.type_inv)

pub returns-in_err-asks-clause-answered : goal.returns-in_err-asks-clause-answered
returns-in_err-asks-clause-answered g c =
    answers_memory g.P.Predicates.gives c.args.block.now c.args.tables.now c.args.remotes.now (g.F.Folder.holds c.args.folder.now) c.from_residual.result c.from_residual.ensures.1

pub returns-in_err-work-clause-answered : goal.returns-in_err-work-clause-answered
returns-in_err-work-clause-answered g c =
    answers_memory g.P.Predicates.gives c.args.block.now c.args.tables.now c.args.remotes.now (g.F.Folder.holds c.args.folder.now) c.from_residual-in_err-work.result c.from_residual-in_err-work.ensures.1

pub returns-in_err-ask_tables-clause-answered : goal.returns-in_err-ask_tables-clause-answered
returns-in_err-ask_tables-clause-answered g c =
    answers_memory g.P.Predicates.gives c.args.block.now c.args.tables.now c.args.remotes.now (g.F.Folder.holds c.args.folder.now) c.from_residual-in_err-ask_tables.result c.from_residual-in_err-ask_tables.ensures.1

pub returns-in_err-empty_tables-clause-answered : goal.returns-in_err-empty_tables-clause-answered
returns-in_err-empty_tables-clause-answered g c =
    answers_memory g.P.Predicates.gives c.args.block.now c.args.tables.now c.args.remotes.now (g.F.Folder.holds c.args.folder.now) c.from_residual-in_err-empty_tables.result c.from_residual-in_err-empty_tables.ensures.1

pub returns-in_err-gathered-clause-answered : goal.returns-in_err-gathered-clause-answered
returns-in_err-gathered-clause-answered g c =
    answers_memory g.P.Predicates.gives c.args.block.now c.args.tables.now c.args.remotes.now (g.F.Folder.holds c.args.folder.now) c.from_residual-in_err-gathered.result c.from_residual-in_err-gathered.ensures.1

pub begun-requires-clause-few : goal.begun-requires-clause-few
begun-requires-clause-few g c =
    omega (arith, few_remotes c.args.block.now c.args.tables.now c.args.remotes.now c.requires.remotes, c.len-count.ensures, c.len-count.type_inv)

pub load_rounds-requires-clause-few : goal.load_rounds-requires-clause-few
load_rounds-requires-clause-few g c =
    omega (arith, few_remotes c.args.block.now c.args.tables.now c.args.remotes.now c.requires.remotes, c.len-count.ensures, c.len-count.type_inv)

pub load_rounds-requires-clause-work : goal.load_rounds-requires-clause-work
load_rounds-requires-clause-work g c =
    let grows : Grows (IsAskedFirst g.P.Predicates.gives c.args.block.now c.args.tables.now c.args.remotes.now c.in_ok-asks.asks.items) (record { all = []; fresh = [] }) c.ask_tables.new.asked =
    subst (λ (a : Asked). Grows (IsAskedFirst g.P.Predicates.gives c.args.block.now c.args.tables.now c.args.remotes.now c.in_ok-asks.asks.items) a c.ask_tables.new.asked)
    c.in_ok-work.ensures.asked c.in_ok-ask_tables.ensures in
    begun_work g.P.Predicates.gives c.args.block.now c.args.tables.now c.args.remotes.now c.in_ok-asks.asks.items c.in_ok-asks.ensures c.in_ok-work.work
    (record c.in_ok-work.work { asked = c.ask_tables.new.asked }) c.in_ok-work.ensures.work refl refl refl grows

pub returns-in_err-load_rounds-clause-answered : goal.returns-in_err-load_rounds-clause-answered
returns-in_err-load_rounds-clause-answered g c =
    let grows : Grows (IsAskedFirst g.P.Predicates.gives c.args.block.now c.args.tables.now c.args.remotes.now c.in_ok-asks.asks.items) (record { all = []; fresh = [] }) c.ask_tables.new.asked =
    subst (λ (a : Asked). Grows (IsAskedFirst g.P.Predicates.gives c.args.block.now c.args.tables.now c.args.remotes.now c.in_ok-asks.asks.items) a c.ask_tables.new.asked)
    c.in_ok-work.ensures.asked c.in_ok-ask_tables.ensures in
    let v : Work = record c.in_ok-work.work { asked = c.ask_tables.new.asked } in
    let means = begun_means g.P.Predicates.gives c.args.block.now c.args.tables.now c.args.remotes.now c.in_ok-asks.asks.items c.in_ok-asks.ensures v
    c.in_ok-work.ensures.loaded grows in
    answers_refused g.P.Predicates.gives c.args.block.now c.args.tables.now c.args.remotes.now (g.F.Folder.holds c.args.folder.now) c.from_residual-in_err-load_rounds.result
    c.in_err-load_rounds.field-0.0 c.from_residual-in_err-load_rounds.ensures.1 (c.in_err-load_rounds.ensures.may means)

pub gathered-requires : goal.gathered-requires
gathered-requires g c =
    may_gather c.args.tables.now c.args.remotes.now c.load_rounds.new.work c.in_ok-load_rounds.ensures.work c.in_ok-empty_tables.field-0.items c.in_ok-empty_tables.ensures

pub returns-clause-answered : goal.returns-clause-answered
returns-clause-answered g c =
    let grows : Grows (IsAskedFirst g.P.Predicates.gives c.args.block.now c.args.tables.now c.args.remotes.now c.in_ok-asks.asks.items) (record { all = []; fresh = [] }) c.ask_tables.new.asked =
    subst (λ (a : Asked). Grows (IsAskedFirst g.P.Predicates.gives c.args.block.now c.args.tables.now c.args.remotes.now c.in_ok-asks.asks.items) a c.ask_tables.new.asked)
    c.in_ok-work.ensures.asked c.in_ok-ask_tables.ensures in
    let v : Work = record c.in_ok-work.work { asked = c.ask_tables.new.asked } in
    let means = begun_means g.P.Predicates.gives c.args.block.now c.args.tables.now c.args.remotes.now c.in_ok-asks.asks.items c.in_ok-asks.ensures v
    c.in_ok-work.ensures.loaded grows in
    let x : Work = c.load_rounds.new.work in
    let work = c.in_ok-load_rounds.ensures.work in
    let made : c.in_ok-gathered.field-0.tables.items ≡ stacked c.args.tables.now x.loaded 0 c.args.remotes.now =
    c.in_ok-gathered.ensures.tables ∙ gathered c.args.tables.now c.args.remotes.now x work c.in_ok-empty_tables.field-0.items c.in_ok-empty_tables.ensures in
    answers_loaded g.P.Predicates.gives c.args.block.now c.args.tables.now c.args.remotes.now (g.F.Folder.holds c.args.folder.now) x c.in_ok-gathered.field-0 work
    c.in_ok-load_rounds.ensures.found (c.in_ok-load_rounds.ensures.comes means) c.in_ok-gathered.ensures.keys made

pub returns-clause-columns : goal.returns-clause-columns
returns-clause-columns g c =
    let x : Work = c.load_rounds.new.work in
    let work = c.in_ok-load_rounds.ensures.work in
    let made : c.in_ok-gathered.field-0.tables.items ≡ stacked c.args.tables.now x.loaded 0 c.args.remotes.now =
    c.in_ok-gathered.ensures.tables ∙ gathered c.args.tables.now c.args.remotes.now x work c.in_ok-empty_tables.field-0.items c.in_ok-empty_tables.ensures in
    ap (map (λ (t : Relation). t.columns)) made ∙ columns_stacked c.args.tables.now x.loaded 0 c.args.remotes.now

pub returns-clause-few : goal.returns-clause-few
returns-clause-few g c =
    let x : Work = c.load_rounds.new.work in
    let work = c.in_ok-load_rounds.ensures.work in
    let made : c.in_ok-gathered.field-0.tables.items ≡ stacked c.args.tables.now x.loaded 0 c.args.remotes.now =
    c.in_ok-gathered.ensures.tables ∙ gathered c.args.tables.now c.args.remotes.now x work c.in_ok-empty_tables.field-0.items c.in_ok-empty_tables.ensures in
    subst (All (λ (t : Relation). length t.rows ≤ 4000000)) (sym made) (few_rows c.args.tables.now c.args.remotes.now x work)
