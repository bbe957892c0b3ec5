use Rattle.std.proofs.Common.{◌≡◌, List, Ok, length, fold, sym, ap, ◌∙◌, subst, rules}
use Rattle.std.specs.Prelude.{replicate}
use Rattle.csv.specs.Records.{fields_of}
use Rattle.sq_value.specs.Relation.{Relation}
use Rattle.table_csv.specs.declared.types.Seen.{Seen}
use Rattle.table_csv.specs.declared.types.Seen.TheVariants as seen
use Rattle.table_csv.specs.Headed.{AreHeads, HasColumns}
use Rattle.table_csv.specs.Reading.{records_left}
use Rattle.table_csv.specs.TableFile.{table_of_records}
use Rattle.table_csv.specs.Work.{ScalesFit, all_learned}
use Rattle.table_csv.proofs.FileLemmas.{IsHeading-columns, ScalesFit-columns, learned-length, rows_ok}
use Rattle.table_csv.proofs.FrontLemmas.{columns_of_heads, heads-next, learned-long, written_back}
use Rattle.table_csv.proofs.once.read_once.Goals as goal

pub complete-requires : goal.complete-requires
complete-requires c = learned-long (length c.args.heads.now) c.args.guess.now c.requires.guess

pub empty_table-requires : goal.empty_table-requires
empty_table-requires c =
    let heads = c.args.heads.now in
    let fs = fields_of c.next_row.new.row in
    let are = subst (λ rs. AreHeads rs heads) (sym (c.in_ok-reader.ensures.records c.requires.unmarked)) c.requires.heads in
    let next = heads-next (records_left c.in_ok-reader.reader) (records_left c.next_row.new.reader) c.in_ok-next_row.field-0 fs heads c.in_ok-next_row.ensures.gives are in
    let cs = c.in_ok-columns.columns.items in
    IsHeading-columns fs c.requires.guess.0 cs
    (columns_of_heads fs c.requires.guess.0 heads c.args.guess.now cs next.0 c.in_ok-columns.ensures.ok c.requires.guess.1) next.1

pub read_rows-requires-clause-scales : goal.read_rows-requires-clause-scales
read_rows-requires-clause-scales c =
    let heads = c.args.heads.now in
    let fs = fields_of c.next_row.new.row in
    let are = subst (λ rs. AreHeads rs heads) (sym (c.in_ok-reader.ensures.records c.requires.unmarked)) c.requires.heads in
    let next = heads-next (records_left c.in_ok-reader.reader) (records_left c.next_row.new.reader) c.in_ok-next_row.field-0 fs heads c.in_ok-next_row.ensures.gives are in
    let cs = c.in_ok-columns.columns.items in
    subst ScalesFit (sym (ap (λ (t : Relation). t.columns) c.in_ok-table.ensures.ok))
    (ScalesFit-columns fs c.requires.guess.0 cs
    (columns_of_heads fs c.requires.guess.0 heads c.args.guess.now cs next.0 c.in_ok-columns.ensures.ok c.requires.guess.1))

pub is_right-requires-clause-guess : goal.is_right-requires-clause-guess
is_right-requires-clause-guess c = learned-long (length c.args.heads.now) c.args.guess.now c.requires.guess

pub returns-then-is_right-clause-some : goal.returns-then-is_right-clause-some
returns-then-is_right-clause-some c =
    let heads = c.args.heads.now in
    let fs = fields_of c.next_row.new.row in
    let more = records_left c.next_row.new.reader in
    let all = c.in_ok-reader.ensures.records c.requires.unmarked in
    let are = subst (λ rs. AreHeads rs heads) (sym all) c.requires.heads in
    let next = heads-next (records_left c.in_ok-reader.reader) more c.in_ok-next_row.field-0 fs heads c.in_ok-next_row.ensures.gives are in
    let cs = c.in_ok-columns.columns.items in
    let old = c.in_ok-seen.seen.items in
    let new = c.read_rows.new.seen in
    let nulls : old ≡ replicate (length heads) seen.Nulls = search rules in
    let learnt : new ≡ fold all_learned old more = c.in-Ok.ensures.learned ∙ ap (λ (s : List Seen). fold all_learned s more) c.as_mut_slice.ensures.value in
    let back = written_back c.in_ok-seen.seen.len new old (sym c.as_mut_slice.ensures.len ∙ ap length c.as_mut_slice.ensures.value)
    (ap length learnt ∙ learned-length old more) in
    let known : c.as_slice.result.now ≡ fold all_learned (replicate (length heads) seen.Nulls) more =
    c.as_slice.ensures.value ∙ back ∙ learnt ∙ ap (λ (s : List Seen). fold all_learned s more) nulls in
    let columns : HasColumns fs more cs =
    columns_of_heads fs more heads c.as_slice.result.now cs next.0 (c.in_ok-columns.ensures.ok ∙ c.is_right.ensures c.if-is_right.true) known in
    ap table_of_records (sym all)
    ∙ rows_ok (Ok c.in-Ok.table) cs c.in_ok-table.table (records_left c.in_ok-reader.reader) more fs c.in_ok-table.ensures.ok next.2 columns
    c.in-Ok.ensures.ok c.in-Ok.ensures.taken
