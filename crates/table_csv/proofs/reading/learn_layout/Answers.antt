use Rattle.std.proofs.Common.{length, sym, ap, ◌∙◌, subst}
use Rattle.std.specs.Prelude.{replicate}
use Rattle.std.proofs.lemmas.List.{length-replicate}
use Rattle.csv.specs.Records.{fields_of}
use Rattle.table_csv.specs.declared.types.Seen.TheVariants as seen
use Rattle.table_csv.specs.Headed.{AreHeads, IsHeaded}
use Rattle.table_csv.specs.Reading.{records_left}
use Rattle.table_csv.proofs.FileLemmas.{learned-length}
use Rattle.table_csv.proofs.FrontLemmas.{columns_of_heads, headed-heads, heads-next}
use Rattle.table_csv.proofs.reading.learn_layout.Goals as goal

pub complete-requires : goal.complete-requires
complete-requires c =
    sym (ap length (c.as_slice.ensures.value ∙ c.in_ok-learned.ensures.ok)
    ∙ learned-length (replicate (length c.args.heads.now) seen.Nulls) (records_left c.next_row.new.reader)
    ∙ length-replicate (length c.args.heads.now) seen.Nulls)

pub returns-clause-ok : goal.returns-clause-ok
returns-clause-ok c =
    let heads = c.args.heads.now in
    let rows = records_left c.in_ok-reader.reader in
    let more = records_left c.next_row.new.reader in
    let fs = fields_of c.next_row.new.row in
    let found = c.in_ok-next_row.field-0 in
    let cs = c.in_ok-columns.columns.items in
    let all = c.in_ok-reader.ensures.records c.requires.unmarked in
    let are = subst (λ rs. AreHeads rs heads) (sym all) c.requires.heads in
    let next = heads-next rows more found fs heads c.in_ok-next_row.ensures.gives are in
    let known = c.as_slice.ensures.value ∙ c.in_ok-learned.ensures.ok in
    subst (λ rs. IsHeaded rs cs) all
    (headed-heads rows more found fs heads cs c.in_ok-next_row.ensures.gives are (columns_of_heads fs more heads _ cs next.0 c.in_ok-columns.ensures.ok known))
