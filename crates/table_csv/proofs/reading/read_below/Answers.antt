use Rattle.std.proofs.Common.{sym, ap, subst}
use Rattle.csv.specs.Records.{fields_of}
use Rattle.sq_value.specs.Relation.{Relation}
use Rattle.table_csv.specs.Reading.{records_left}
use Rattle.table_csv.specs.Work.{ScalesFit}
use Rattle.table_csv.proofs.FileLemmas.{IsHeading-columns, ScalesFit-columns, headed-next, rows_faulty, rows_ok}
use Rattle.table_csv.proofs.reading.read_below.Goals as goal

pub empty_table-requires : goal.empty_table-requires
empty_table-requires c =
    let next = headed-next (records_left c.args.reader.now) (records_left c.next_row.new.reader) c.in_ok-next_row.field-0 (fields_of c.next_row.new.row)
    c.args.columns.items c.in_ok-next_row.ensures.gives c.requires.headed in
    IsHeading-columns (fields_of c.next_row.new.row) (records_left c.next_row.new.reader) c.args.columns.items next.0 next.1

pub read_rows-requires-clause-scales : goal.read_rows-requires-clause-scales
read_rows-requires-clause-scales c =
    let next = headed-next (records_left c.args.reader.now) (records_left c.next_row.new.reader) c.in_ok-next_row.field-0 (fields_of c.next_row.new.row)
    c.args.columns.items c.in_ok-next_row.ensures.gives c.requires.headed in
    subst ScalesFit (sym (ap (λ (t : Relation). t.columns) c.in_ok-table.ensures.ok))
    (ScalesFit-columns (fields_of c.next_row.new.row) (records_left c.next_row.new.reader) c.args.columns.items next.0)

pub returns-clause-ok : goal.returns-clause-ok
returns-clause-ok c =
    let next = headed-next (records_left c.args.reader.now) (records_left c.next_row.new.reader) c.in_ok-next_row.field-0 (fields_of c.next_row.new.row)
    c.args.columns.items c.in_ok-next_row.ensures.gives c.requires.headed in
    rows_ok c.read_rows.result c.args.columns.items c.in_ok-table.table (records_left c.args.reader.now) (records_left c.next_row.new.reader)
    (fields_of c.next_row.new.row) c.in_ok-table.ensures.ok next.2 next.0 c.read_rows.ensures.ok c.read_rows.ensures.taken

pub returns-clause-fault : goal.returns-clause-fault
returns-clause-fault c =
    let next = headed-next (records_left c.args.reader.now) (records_left c.next_row.new.reader) c.in_ok-next_row.field-0 (fields_of c.next_row.new.row)
    c.args.columns.items c.in_ok-next_row.ensures.gives c.requires.headed in
    rows_faulty c.read_rows.result c.args.columns.items c.in_ok-table.table (records_left c.args.reader.now) (records_left c.next_row.new.reader)
    (fields_of c.next_row.new.row) c.in_ok-table.ensures.ok next.2 next.0 c.read_rows.ensures.fault
