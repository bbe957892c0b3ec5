use Rattle.std.proofs.Common.{◌≡◌, ◌≢◌, ◌+◌, List, [], ◌∷◌, ◌++◌, drop, Some, sym, ap, ◌∙◌, append_assoc}
use Rattle.csv.specs.Records.{fields_of}
use Rattle.sq_value.specs.declared.value.Value.{Value}
use Rattle.table_csv.specs.declared.fault.TableFault.TheVariants as fault
use Rattle.table_csv.specs.Fields.{fields_fault, earlier_of, values_of}
use Rattle.table_csv.proofs.FieldLemmas.{exit_with, fault-end, fault-more, values-end, values-more}
use Rattle.table_csv.proofs.fields.fill_values.Goals as goal

pub returns-in_err-read_field-clause-fault : goal.returns-in_err-read_field-clause-fault
returns-in_err-read_field-clause-fault c =
    let i = c.loop-i.i in
    let cs = c.args.columns.now in
    let fs = fields_of c.args.row.now in
    exit_with c.from_residual.result c.in_err-read_field.field-0.0 (λ f. f ≢ fault.Memory → fields_fault c.args.rec 1 cs fs ≡ Some f)
    c.from_residual.ensures.1
    (λ ne. sym c.loop-i.invariant.fault
    ∙ fault-more c.args.rec (i + 1) cs fs i c.index-columns-i.result c.field_of-field.result.now c.loop-i-test.true c.field_of-field.ensures
    ∙ ap (λ o. earlier_of o (fields_fault c.args.rec (i + 1 + 1) (drop (i + 1) cs) (drop (i + 1) fs))) (c.in_err-read_field.ensures.fault ne))

pub loop-i-preserved : goal.loop-i-preserved
loop-i-preserved c =
    let i = c.loop-i.i in
    let cs = c.args.columns.now in
    let fs = fields_of c.args.row.now in
    let old = c.loop-i.values.items in
    let rest = values_of (drop (i + 1) cs) (drop (i + 1) fs) in
    record {
      made = ap (λ (v : List Value). v ++ rest) (c.in_ok-push.ensures.items ∙ ap (λ (x : Value). old ++ x ∷ []) c.in_ok-read_field.ensures.ok)
          ∙ append_assoc old _ rest
          ∙ ap (λ (xs : List Value). old ++ xs) (sym (values-more cs fs i c.index-columns-i.result c.field_of-field.result.now c.loop-i-test.true c.field_of-field.ensures))
          ∙ c.loop-i.invariant.made;
      fault = sym (ap (λ o. earlier_of o (fields_fault c.args.rec (i + 1 + 1) (drop (i + 1) cs) (drop (i + 1) fs))) c.in_ok-read_field.ensures.taken)
          ∙ sym (fault-more c.args.rec (i + 1) cs fs i c.index-columns-i.result c.field_of-field.result.now c.loop-i-test.true c.field_of-field.ensures)
          ∙ c.loop-i.invariant.fault;
    }

pub returns-clause-ok : goal.returns-clause-ok
returns-clause-ok c = sym (values-end c.args.columns.now (fields_of c.args.row.now) c.loop-i.values.items c.loop-i.i c.loop-i-test.false) ∙ c.loop-i.invariant.made

pub returns-clause-taken : goal.returns-clause-taken
returns-clause-taken c =
    sym c.loop-i.invariant.fault ∙ fault-end c.args.rec (c.loop-i.i + 1) c.args.columns.now (fields_of c.args.row.now) c.loop-i.i c.loop-i-test.false
