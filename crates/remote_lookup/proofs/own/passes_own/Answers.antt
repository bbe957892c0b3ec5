use Rattle.std.proofs.Common.{ap, sym, subst, ◌∙◌, replicate, List}
use Rattle.std.specs.Prelude.{All}
use Rattle.std.specs.List.{list_all}
use Rattle.sq_expr.specs.Meaning.{value_in}
use Rattle.sq_expr.specs.declared.block.Conjunct.{Conjunct}
use Rattle.remote_lookup.specs.Own.{IsReadyOwn, holds_own}
use Rattle.remote_lookup.proofs.OwnLemmas.{passes-own}
use Rattle.remote_lookup.proofs.RowLemmas.{repeated, ready_own}
use Rattle.remote_lookup.proofs.own.passes_own.Goals as goal

pub all_hold_if_own-requires-clause-ready : goal.all_hold_if_own-requires-clause-ready
all_hold_if_own-requires-clause-ready g c =
    let there = c.requires.there in
    subst (All (IsReadyOwn (g.P.Predicates.kinds_of c.args.functions.now) c.args.tables.now (replicate 12 c.args.table) (replicate 12 c.args.row) _ c.args.alias)) (sym c.as_slice.ensures)
    (ready_own (g.P.Predicates.kinds_of c.args.functions.now) c.args.tables.now c.args.table c.args.alias c.args.row c.args.block.now there.0 c.requires.alias there.1 there.2 c.requires.fits)

pub returns : goal.returns
returns g c = λ t cells there is.
    let gives = g.P.Predicates.gives in
    let tables = c.args.tables.now in
    let alias = c.args.alias in
    let uses = replicate 12 c.args.table in
    let rows = replicate 12 c.args.row in
    c.all_hold_if_own.ensures
    ∙ ap (λ (cs : List Conjunct). list_all (holds_own gives (value_in tables uses rows) alias) cs) c.as_slice.ensures
    ∙ sym (passes-own gives tables uses rows alias c.args.table t c.args.row cells (repeated 12 alias c.args.table c.requires.alias) there (repeated 12 alias c.args.row c.requires.alias) is c.args.block.now)
