use Rattle.std.proofs.Common.{sym, ◌∙◌, arith}
use Rattle.csv.specs.Records.{fields_of}
use Rattle.table_csv.specs.Reading.{records_left}
use Rattle.table_csv.proofs.FileLemmas.{empty_heading, no_heading, table_is, too_many}
use Rattle.table_csv.proofs.FrontLemmas.{heads_answer, heads_fault}
use Rattle.table_csv.proofs.front.read_heads.Goals as goal
use Rattle.table_csv.proofs.front.read_heads.Goals.{then-not-branch-via-then-not-branch, then-not-branch-via-else-not-branch+then-is_empty}

pub returns-then-not-branch-clause-fault : goal.returns-then-not-branch-clause-fault
returns-then-not-branch-clause-fault c = λ ne.
    elim c.then-not-branch.branch [
      | then-not-branch-via-then-not-branch w ↦
          no_heading (records_left c.args.reader.now) (records_left c.next_row.new.reader) c.in_ok-next_row.field-0 (fields_of c.next_row.new.row)
          c.in_ok-next_row.ensures.gives w.if-not-branch.true
      | then-not-branch-via-else-not-branch+then-is_empty w ↦
          empty_heading (records_left c.args.reader.now) (records_left c.next_row.new.reader) c.in_ok-next_row.field-0 (fields_of c.next_row.new.row)
          c.in_ok-next_row.ensures.gives w.if-not-branch.false (sym w.is_empty.ensures ∙ w.if-is_empty.true)
    ]

pub returns-then-len-gt-MOST_COLUMNS-clause-fault : goal.returns-then-len-gt-MOST_COLUMNS-clause-fault
returns-then-len-gt-MOST_COLUMNS-clause-fault c = λ ne.
    table_is (records_left c.args.reader.now) (records_left c.next_row.new.reader) c.in_ok-next_row.field-0 (fields_of c.next_row.new.row)
    c.in_ok-next_row.ensures.gives c.if-not-branch.false (sym c.is_empty.ensures ∙ c.if-is_empty.false)
    ∙ too_many (fields_of c.next_row.new.row) (records_left c.next_row.new.reader) (omega (arith, c.if-len-gt-MOST_COLUMNS.true, c.len.ensures))

pub returns-clause-ok : goal.returns-clause-ok
returns-clause-ok c =
    heads_answer c.read_heading.result _ (records_left c.args.reader.now) (records_left c.next_row.new.reader) c.in_ok-next_row.field-0
    (fields_of c.next_row.new.row) c.in_ok-next_row.ensures.gives c.if-not-branch.false (sym c.is_empty.ensures ∙ c.if-is_empty.false)
    (omega (arith, c.if-len-gt-MOST_COLUMNS.false, c.len.ensures)) c.read_heading.ensures.ok c.read_heading.ensures.taken

pub returns-clause-fault : goal.returns-clause-fault
returns-clause-fault c =
    heads_fault c.read_heading.result (records_left c.args.reader.now) (records_left c.next_row.new.reader) (fields_of c.next_row.new.row)
    (table_is (records_left c.args.reader.now) (records_left c.next_row.new.reader) c.in_ok-next_row.field-0 (fields_of c.next_row.new.row)
    c.in_ok-next_row.ensures.gives c.if-not-branch.false (sym c.is_empty.ensures ∙ c.if-is_empty.false))
    (omega (arith, c.if-len-gt-MOST_COLUMNS.false, c.len.ensures)) c.read_heading.ensures.fault
