use Rattle.std.proofs.Common.{◌≡◌, sym, ◌∙◌, ap, Some, Option, ℕ, rules}
use Rattle.remote_lookup.proofs.QueryLemmas.{named, can_ask_spare}
use Rattle.remote_lookup.proofs.asking.ask_in.Goals as goal

pub use_of-requires : goal.use_of-requires
use_of-requires g c =
    let q = c.args.query.now in
    (named (g.P.Predicates.kinds_of q.functions.now) q.block.now q.tables.now q.remotes.now q.asks.items c.requires.query c.args.ask.now c.in-Column.column c.requires.there c.in-Column.is).low

pub ask_rows-requires : goal.ask_rows-requires
ask_rows-requires g c =
    let q = c.args.query.now in
    let same : c.in-Some.remote ≡ c.args.from = search rules in
    record {
      can = can_ask_spare (g.P.Predicates.kinds_of q.functions.now) q.block.now q.tables.now q.remotes.now q.asks.items c.requires.query c.args.spare.now c.args.from c.args.ask.now c.in-Column.column
          c.requires.spare c.requires.from c.requires.there c.in-Column.is c.use_of.result c.use_of.ensures
          (sym c.remote_of.ensures ∙ c.in-Some.is ∙ ap (λ (n : ℕ). let o : Option ℕ = Some n in o) same);
    }
