use Rattle.std.proofs.Common.{◌≡◌, ◌≢◌, ◌+◌, List, [], ◌∷◌, ◌++◌, drop, Some, sym, ap, ◌∙◌, append_assoc, arith}
use Rattle.csv.specs.Records.{fields_of}
use Rattle.table_csv.specs.declared.fault.TableFault.TheVariants as fault
use Rattle.table_csv.specs.declared.heading.Named.{Named}
use Rattle.table_csv.specs.Fields.{earlier_of}
use Rattle.table_csv.specs.Heading.{heading_fault, name_fault}
use Rattle.table_csv.specs.Marks.{column_name}
use Rattle.table_csv.specs.Work.{head_of, heads_from, names_of}
use Rattle.table_csv.proofs.FieldLemmas.{exit_with}
use Rattle.table_csv.proofs.HeadLemmas.{heads-more, heads-end, heading-fault-more, heading-fault-end, names-push}
use Rattle.table_csv.proofs.heading.read_heading.Goals as goal

pub returns-in_err-head-clause-fault : goal.returns-in_err-head-clause-fault
returns-in_err-head-clause-fault c =
    let i = c.loop-i.i in
    let fs = fields_of c.args.row.now in
    let f = c.field_of-field.result.now in
    let names = names_of c.loop-i.named.items in
    exit_with c.from_residual-in_err-head.result c.in_err-head.field-0.0 (λ f. f ≢ fault.Memory → heading_fault [] 1 fs ≡ Some f)
    c.from_residual-in_err-head.ensures.1
    (λ ne. sym c.loop-i.invariant.fault ∙ heading-fault-more names (i + 1) fs i f c.field_of-field.ensures
    ∙ ap (λ o. earlier_of o (heading_fault (names ++ column_name (i + 1) f ∷ []) (i + 1 + 1) (drop (i + 1) fs)))
    (ap (λ (heads : List Named). name_fault (names_of heads) (i + 1) f) (sym c.as_slice.ensures.value) ∙ c.in_err-head.ensures.fault ne))

pub loop-i-preserved : goal.loop-i-preserved
loop-i-preserved c =
    let i = c.loop-i.i in
    let fs = fields_of c.args.row.now in
    let f = c.field_of-field.result.now in
    let old = c.loop-i.named.items in
    let names = names_of old in
    let pushed : c.push.new.self.items ≡ old ++ head_of (i + 1) f ∷ [] = c.in_ok-push.ensures.items ∙ ap (λ (x : Named). old ++ x ∷ []) c.in_ok-head.ensures.ok in
    let rest = heads_from (i + 1 + 1) (drop (i + 1) fs) in
    record {
      made = ap (λ (v : List Named). v ++ rest) pushed ∙ append_assoc old (head_of (i + 1) f ∷ []) rest
          ∙ ap (λ (xs : List Named). old ++ xs) (sym (heads-more (i + 1) fs i f c.field_of-field.ensures)) ∙ c.loop-i.invariant.made;
      fault = ap (λ ns. heading_fault ns (i + 1 + 1) (drop (i + 1) fs)) (ap names_of pushed ∙ names-push old (i + 1) f)
          ∙ sym (ap (λ o. earlier_of o (heading_fault (names ++ column_name (i + 1) f ∷ []) (i + 1 + 1) (drop (i + 1) fs)))
          (ap (λ (heads : List Named). name_fault (names_of heads) (i + 1) f) (sym c.as_slice.ensures.value) ∙ c.in_ok-head.ensures.taken))
          ∙ sym (heading-fault-more names (i + 1) fs i f c.field_of-field.ensures) ∙ c.loop-i.invariant.fault;
    }

pub returns-clause-ok : goal.returns-clause-ok
returns-clause-ok c =
    sym (heads-end (c.loop-i.i + 1) (fields_of c.args.row.now) c.loop-i.named.items c.loop-i.i (omega (arith, c.loop-i-test.false, c.len-i-end.ensures)))
    ∙ c.loop-i.invariant.made

pub returns-clause-taken : goal.returns-clause-taken
returns-clause-taken c =
    sym c.loop-i.invariant.fault
    ∙ heading-fault-end (names_of c.loop-i.named.items) (c.loop-i.i + 1) (fields_of c.args.row.now) c.loop-i.i (omega (arith, c.loop-i-test.false, c.len-i-end.ensures))
