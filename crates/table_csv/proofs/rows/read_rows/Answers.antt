use Rattle.std.proofs.Common.{◌≡◌, ◌≢◌, ◌+◌, List, [], ◌∷◌, ◌++◌, length, fold, map, Some, None, sym, ap, ◌∙◌, subst, arith}
use Rattle.std.proofs.lemmas.List.{length_push}
use Rattle.csv.specs.Records.{fields_of}
use Rattle.sq_value.specs.Relation.{IsRow, Relation}
use Rattle.sq_value.specs.declared.table.Column.{Column}
use Rattle.sq_value.specs.declared.value.Value.{Value}
use Rattle.table_csv.specs.declared.fault.TableFault.TheVariants as fault
use Rattle.table_csv.specs.Fields.{earlier_of, record_fault, records_fault, values_of}
use Rattle.table_csv.specs.Reading.{records_left}
use Rattle.table_csv.specs.Work.{ScalesFit, all_learned}
use Rattle.table_csv.specs.declared.types.Seen.{Seen}
use Rattle.table_csv.proofs.FieldLemmas.{exit_with}
use Rattle.table_csv.proofs.RowLemmas.{IsRow-values, record-fits, records-end, records-more, rows-more}
use Rattle.table_csv.proofs.FrontLemmas.{known-end, known-next}
use Rattle.table_csv.proofs.rows.read_rows.Goals as goal

pub returns-in_err-read_record-clause-fault : goal.returns-in_err-read_record-clause-fault
returns-in_err-read_record-clause-fault c =
    let cs = c.args.table.columns in
    let fs = fields_of c.next_row.new.row in
    let rec = c.loop-values.rec in
    let more = records_left c.next_row.new.reader in
    let same : c.columns-in-loop-values.result.now ≡ cs = c.columns-in-loop-values.ensures.columns ∙ c.loop-values.invariant.columns in
    exit_with c.from_residual-in_err-read_record.result c.in_err-read_record.field-0.0
    (λ f. f ≢ fault.Memory → records_fault 1 cs (records_left c.args.reader.now) ≡ Some f) c.from_residual-in_err-read_record.ensures.1
    (λ ne. sym c.loop-values.invariant.fault
    ∙ records-more rec cs (records_left c.loop-values.reader) more c.in_ok-next_row.field-0 fs c.in_ok-next_row.ensures.gives c.if-branch.true
    ∙ ap (λ o. earlier_of o (records_fault (rec + 1) cs more))
    (ap (λ (ds : List Column). record_fault rec ds fs) (sym same) ∙ c.in_err-read_record.ensures.fault ne))

pub append_row-requires-clause-fits : goal.append_row-requires-clause-fits
append_row-requires-clause-fits c =
    let fs = fields_of c.next_row.new.row in
    let cs = c.columns-in-loop-values.result.now in
    let same : cs ≡ c.args.table.columns = c.columns-in-loop-values.ensures.columns ∙ c.loop-values.invariant.columns in
    let row : IsRow cs c.read_record.new.values.items = subst (IsRow cs) (sym c.in_ok-read_record.ensures.ok)
    (IsRow-values cs fs (subst ScalesFit (sym same) c.requires.scales) (record-fits c.loop-values.rec cs fs c.in_ok-read_record.ensures.taken).1) in
    subst (λ (ds : List Column). IsRow ds c.read_record.new.values.items) c.columns-in-loop-values.ensures.columns row

pub loop-values-preserved : goal.loop-values-preserved
loop-values-preserved c =
    let cs = c.args.table.columns in
    let fs = fields_of c.next_row.new.row in
    let rec = c.loop-values.rec in
    let rows = records_left c.loop-values.reader in
    let more = records_left c.next_row.new.reader in
    let found = c.in_ok-next_row.field-0 in
    let old = c.loop-values.table.rows in
    let row = c.read_record.new.values.items in
    let same : c.columns-in-loop-values.result.now ≡ cs = c.columns-in-loop-values.ensures.columns ∙ c.loop-values.invariant.columns in
    let fits = record-fits rec c.columns-in-loop-values.result.now fs c.in_ok-read_record.ensures.taken in
    let pushed : c.append_row.new.self ≡ record c.loop-values.table { rows = old ++ row ∷ [] } = c.in_ok-append_row.ensures.ok in
    let taken : record_fault rec cs fs ≡ None = ap (λ (ds : List Column). record_fault rec ds fs) (sym same) ∙ c.in_ok-read_record.ensures.taken in
    record {
      plain = c.in_ok-next_row.ensures.plain;
      columns = ap (λ (t : Relation). t.columns) pushed ∙ c.loop-values.invariant.columns;
      count = ap (λ (t : Relation). length t.rows + 1) pushed ∙ ap (λ n. n + 1) (length_push old row ∙ c.loop-values.invariant.count);
      few = omega (arith, fits.0);
      made = ap (λ (t : Relation). t.rows ++ map (values_of cs) more) pushed
          ∙ ap (λ (v : List Value). (old ++ v ∷ []) ++ map (values_of cs) more) (c.in_ok-read_record.ensures.ok ∙ ap (λ (ds : List Column). values_of ds fs) same)
          ∙ rows-more cs old rows more found fs c.in_ok-next_row.ensures.gives c.if-branch.true ∙ c.loop-values.invariant.made;
      none = c.in_ok-append_row.ensures.moved;
      fault = sym (ap (λ o. earlier_of o (records_fault (rec + 1) cs more)) taken)
          ∙ sym (records-more rec cs rows more found fs c.in_ok-next_row.ensures.gives c.if-branch.true) ∙ c.loop-values.invariant.fault;
      learned = ap (λ (s : List Seen). fold all_learned s more) c.learn_record.ensures
          ∙ known-next c.loop-values.seen rows more found fs c.in_ok-next_row.ensures.gives c.if-branch.true ∙ c.loop-values.invariant.learned;
    }

pub returns-clause-taken : goal.returns-clause-taken
returns-clause-taken c =
    sym c.loop-values.invariant.fault
    ∙ records-end c.loop-values.rec c.args.table.columns (records_left c.loop-values.reader) (records_left c.next_row.new.reader) c.in_ok-next_row.field-0
    (fields_of c.next_row.new.row) c.in_ok-next_row.ensures.gives c.if-branch.false

pub returns-clause-learned : goal.returns-clause-learned
returns-clause-learned c =
    known-end c.loop-values.seen (records_left c.loop-values.reader) (records_left c.next_row.new.reader) c.in_ok-next_row.field-0 (fields_of c.next_row.new.row)
    c.in_ok-next_row.ensures.gives c.if-branch.false ∙ c.loop-values.invariant.learned
