use Rattle.std.proofs.Common.{sym, ◌∙◌}
use Rattle.remote_lookup.proofs.AskLemmas.{on_ok}
use Rattle.remote_lookup.proofs.QueryLemmas.{named, can_ask_table, not_first, by_table}
use Rattle.remote_lookup.proofs.asking.ask_first.Goals as goal

pub use_of-table-requires : goal.use_of-table-requires
use_of-table-requires g c =
    let q = c.args.query.now in
    (named (g.P.Predicates.kinds_of q.functions.now) q.block.now q.tables.now q.remotes.now q.asks.items c.requires.query c.args.ask.now c.in-Column.column c.requires.there c.in-Column.is).low

pub ask_rows-requires : goal.ask_rows-requires
ask_rows-requires g c =
    let q = c.args.query.now in
    record {
      can = can_ask_table (g.P.Predicates.kinds_of q.functions.now) q.block.now q.tables.now q.remotes.now q.asks.items c.requires.query c.args.ask.now c.in-Column.column c.requires.there c.in-Column.is
          c.use_of-table.result c.use_of-table.ensures;
    }

pub returns-in-Some : goal.returns-in-Some
returns-in-Some g c =
    let q = c.args.query.now in
    not_first (g.P.Predicates.kinds_of q.functions.now) q.block.now q.tables.now q.remotes.now q.asks.items c.requires.query g.P.Predicates.gives c.args.ask.now c.in-Column.column
    c.use_of-table.result _ c.in-Column.is c.use_of-table.ensures (sym c.remote_of.ensures ∙ c.in-Some.is) c.args.asked.now

pub returns-in-None : goal.returns-in-None
returns-in-None g c =
    let q = c.args.query.now in
    let kinds = g.P.Predicates.kinds_of q.functions.now in
    let can = can_ask_table kinds q.block.now q.tables.now q.remotes.now q.asks.items c.requires.query c.args.ask.now c.in-Column.column c.requires.there c.in-Column.is c.use_of-table.result c.use_of-table.ensures in
    on_ok c.ask_rows.result
    (λ grows. by_table kinds q.block.now q.tables.now q.remotes.now q.asks.items c.requires.query g.P.Predicates.gives c.args.ask.now c.in-Column.column
    c.use_of-table.result can.0 c.in-Column.is c.use_of-table.ensures (sym c.remote_of.ensures ∙ c.in-None.is) can.1.is c.args.asked.now c.ask_rows.new.asked (grows can.0 can.1.is))
    c.ask_rows.ensures
