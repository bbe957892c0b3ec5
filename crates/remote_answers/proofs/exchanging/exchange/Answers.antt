use Rattle.std.proofs.Common.{◌∙◌, ap, length, refl}
use Rattle.std.proofs.lemmas.Option.{slice_get_read}
use Rattle.catalogue.specs.Named.{NamedTables}
use Rattle.remote_answers.proofs.PlaceLemmas.{halfway_more, may_set}
use Rattle.remote_answers.proofs.exchanging.exchange.Goals as goal

pub set-requires-clause-columns : goal.set-requires-clause-columns
set-requires-clause-columns c =
    let remotes = c.args.remotes.now in
    let i = c.loop-remote.remote-index in
    let r = c.remote-item.result in
    may_set c.args.catalogue.now.tables c.loop-remote.catalogue.tables remotes c.args.tables.now.items c.loop-remote.tables.items i r c.loop-remote.invariant.halfway
    (slice_get_read remotes (length remotes) i r refl c.loop-remote-test.true c.remote-item.is) c.remove-table.result c.remove-table.ensures.value

pub loop-remote-preserved : goal.loop-remote-preserved
loop-remote-preserved c =
    let remotes = c.args.remotes.now in
    let i = c.loop-remote.remote-index in
    let r = c.remote-item.result in
    record {
      names = ap (λ (cat : NamedTables). cat.names) c.set.ensures.replaced ∙ c.loop-remote.invariant.names;
      halfway = halfway_more c.args.catalogue.now.tables c.loop-remote.catalogue.tables remotes c.args.tables.now.items c.loop-remote.tables.items i r
          c.loop-remote.invariant.halfway (slice_get_read remotes (length remotes) i r refl c.loop-remote-test.true c.remote-item.is) c.remove-table.result c.set.result
          c.remove-table.new.self.items c.set.new.self.tables c.push_reserved.new.self.items c.remove-table.ensures.value c.remove-table.ensures.by_index.2
          c.set.ensures.given (ap (λ (cat : NamedTables). cat.tables) c.set.ensures.replaced) c.push_reserved.ensures.items;
    }
