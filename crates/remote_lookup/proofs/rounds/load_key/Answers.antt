use Rattle.std.proofs.Common.{◌≡◌, ◌<◌, ◌≤◌, ◌+◌, ◌∙◌, ap, sym, refl, ℕ, [], get_or, length, Option, Some, arith}
use Rattle.std.specs.Prelude.{slice_get}
use Rattle.std.specs.Option.{option_map_or}
use Rattle.std.specs.BTreeMap.{insert_entry}
use Rattle.std.proofs.lemmas.Option.{slice_get-get_or, slice_get_read}
use Rattle.sq_value.specs.Relation.{Relation}
use Rattle.remote_lookup.specs.KeyFiles.{table_columns}
use Rattle.remote_lookup.specs.Rounds.{key_order}
use Rattle.remote_lookup.specs.declared.remote.Remote.{Remote}
use Rattle.remote_lookup.specs.declared.rounds.Tally.{Tally}
use Rattle.remote_lookup.proofs.KeyLemmas.{one_loaded, stops_file, stops_rows}
use Rattle.remote_lookup.proofs.PlaceLemmas.{if_there, there_if, through}
use Rattle.remote_lookup.proofs.rounds.load_key.Goals as goal

pub returns-in_err-table-clause-stopped : goal.returns-in_err-table-clause-stopped
returns-in_err-table-clause-stopped g c =
    let q = c.args.query.now in
    let r : Remote = get_or q.remotes.now c.args.at.remote c.index-query-at.result in
    let is : slice_get q.remotes.now c.args.at.remote ≡ Some r = slice_get-get_or q.remotes.now c.args.at.remote c.index-query-at.result c.requires.there in
    let same : c.columns-columns.result.now ≡ table_columns q.tables.now r.table =
    c.columns-columns.ensures.columns ∙ sym (ap (λ (o : Option Relation). option_map_or (λ (t : Relation). t.columns) o []) c.get.ensures) in
    through c.from_residual.result c.in_err-table.field-0.0 _ c.from_residual.ensures.1
    (λ found. stops_file g.P.Predicates.gives q.block.now q.tables.now q.remotes.now q.asks.items c.requires.query.are (g.F.Folder.holds c.args.folder.now) c.args.work.now c.args.at r
    c.columns-columns.result.now is same c.requires.work c.requires.new found (g.F.Folder.faults c.args.folder.now) (g.F.Folder.faults c.load_file.new.folder) c.in_err-table.field-0.0 c.in_err-table.ensures.refused)

pub count-requires-clause-few_keys : goal.count-requires-clause-few_keys
count-requires-clause-few_keys g c =
    let tallies = c.args.work.now.tallies.items in
    let low : c.args.at.remote < length tallies = omega (arith, c.requires.there, c.requires.work.count) in
    let t : Tally = c.index_mut.result.now in
    let was : slice_get tallies c.args.at.remote ≡ Some t = slice_get_read tallies (length tallies) c.args.at.remote t refl low c.index_mut.ensures.value in
    if_there (λ (s : Tally). s.keys < 10000) (slice_get tallies c.args.at.remote) t was c.requires.few

pub count-requires-clause-few_rows : goal.count-requires-clause-few_rows
count-requires-clause-few_rows g c =
    let tallies = c.args.work.now.tallies.items in
    let low : c.args.at.remote < length tallies = omega (arith, c.requires.there, c.requires.work.count) in
    let t : Tally = c.index_mut.result.now in
    let was : slice_get tallies c.args.at.remote ≡ Some t = slice_get_read tallies (length tallies) c.args.at.remote t refl low c.index_mut.ensures.value in
    (c.requires.work.tallies c.args.at.remote t was).few_rows

pub returns-in_err-count-clause-stopped : goal.returns-in_err-count-clause-stopped
returns-in_err-count-clause-stopped g c =
    let q = c.args.query.now in
    let r : Remote = get_or q.remotes.now c.args.at.remote c.index-query-at.result in
    let is : slice_get q.remotes.now c.args.at.remote ≡ Some r = slice_get-get_or q.remotes.now c.args.at.remote c.index-query-at.result c.requires.there in
    let same : c.columns-columns.result.now ≡ table_columns q.tables.now r.table =
    c.columns-columns.ensures.columns ∙ sym (ap (λ (o : Option Relation). option_map_or (λ (t : Relation). t.columns) o []) c.get.ensures) in
    let tallies = c.args.work.now.tallies.items in
    let low : c.args.at.remote < length tallies = omega (arith, c.requires.there, c.requires.work.count) in
    let t : Tally = c.index_mut.result.now in
    let was : slice_get tallies c.args.at.remote ≡ Some t = slice_get_read tallies (length tallies) c.args.at.remote t refl low c.index_mut.ensures.value in
    let f = c.in_err-count.field-0.0 in
    let over : 4000000 < t.rows + length c.in_ok-table.table.rows = omega (arith, c.in_err-count.ensures.over.1, c.rows.ensures.count) in
    through c.from_residual-in_err-count.result f _ c.from_residual-in_err-count.ensures.1
    (λ found. stops_rows g.P.Predicates.gives q.block.now q.tables.now q.remotes.now q.asks.items c.requires.query.are (g.F.Folder.holds c.args.folder.now) c.args.work.now c.args.at r
    c.columns-columns.result.now is same c.requires.work c.requires.new found (g.F.Folder.faults c.args.folder.now) (g.F.Folder.faults c.load_file.new.folder) f c.in_ok-table.table.rows t was
    c.in_ok-table.ensures.rows c.in_ok-table.ensures.kept c.in_err-count.ensures.over.0 over)

pub ask_file-requires-clause-columns : goal.ask_file-requires-clause-columns
ask_file-requires-clause-columns g c =
    let q = c.args.query.now in
    let r : Remote = get_or q.remotes.now c.args.at.remote c.index-query-at.result in
    let is : slice_get q.remotes.now c.args.at.remote ≡ Some r = slice_get-get_or q.remotes.now c.args.at.remote c.index-query-at.result c.requires.there in
    let same : c.columns-columns.result.now ≡ table_columns q.tables.now r.table =
    c.columns-columns.ensures.columns ∙ sym (ap (λ (o : Option Relation). option_map_or (λ (t : Relation). t.columns) o []) c.get.ensures) in
    there_if (λ (s : Remote). c.in_ok-table.table.columns ≡ table_columns q.tables.now s.table) (slice_get q.remotes.now c.args.at.remote) r is (c.in_ok-table.ensures.columns ∙ same)

pub returns-clause-loaded : goal.returns-clause-loaded
returns-clause-loaded g c =
    let q = c.args.query.now in
    let r : Remote = get_or q.remotes.now c.args.at.remote c.index-query-at.result in
    let is : slice_get q.remotes.now c.args.at.remote ≡ Some r = slice_get-get_or q.remotes.now c.args.at.remote c.index-query-at.result c.requires.there in
    let same : c.columns-columns.result.now ≡ table_columns q.tables.now r.table =
    c.columns-columns.ensures.columns ∙ sym (ap (λ (o : Option Relation). option_map_or (λ (t : Relation). t.columns) o []) c.get.ensures) in
    let tallies = c.args.work.now.tallies.items in
    let low : c.args.at.remote < length tallies = omega (arith, c.requires.there, c.requires.work.count) in
    let t : Tally = c.index_mut.result.now in
    let was : slice_get tallies c.args.at.remote ≡ Some t = slice_get_read tallies (length tallies) c.args.at.remote t refl low c.index_mut.ensures.value in
    let few : t.keys < 10000 = if_there (λ (s : Tally). s.keys < 10000) (slice_get tallies c.args.at.remote) t was c.requires.few in
    let room : t.rows + length c.in_ok-table.table.rows ≤ 4000000 = omega (arith, c.in_ok-count.ensures.few, c.rows.ensures.count) in
    one_loaded g.P.Predicates.gives q.block.now q.tables.now q.remotes.now q.asks.items c.requires.query.are (g.F.Folder.holds c.args.folder.now) c.args.work.now c.args.at r
    c.columns-columns.result.now is same _ c.in_ok-table.table t c.count.new.tally c.requires.work
    (record {
      has_columns = c.in_ok-table.ensures.columns ∙ same;
      new = c.requires.new;
      loaded = c.in_ok-insert.ensures.new ∙ ap (insert_entry key_order c.args.work.now.loaded c.args.at) c.in_ok-table-2.ensures.table;
      ordered = c.insert.ensures.ordered;
      tallies = refl;
      was = was;
      counted = c.in_ok-count.ensures.counted ∙ ap (λ (n : ℕ). let s : Tally = record { keys = t.keys + 1; rows = t.rows + n } in s) c.rows.ensures.count;
      few = few;
      room = room;
      spare = c.in_ok-table-2.ensures.spare;
      grows = c.in_ok-table-2.ensures.asked;
    })
    c.in_ok-table.ensures.rows
