use Rattle.std.proofs.Common.{length, sym, ap, ◌∙◌}
use Rattle.std.specs.Prelude.{◌==◌}
use Rattle.table_csv.proofs.FieldLemmas.{fault-not_utf8, fault-null, number-fault-is, same_fault, same_none}
use Rattle.table_csv.proofs.fields.field_value.Goals as goal

pub returns-in_default-clause-fault : goal.returns-in_default-clause-fault
returns-in_default-clause-fault c = λ _. fault-not_utf8 c.args.rec c.args.field c.args.kind c.args.text.now c.in_default.ensures.cases.0

pub returns-then-is_empty-clause-taken : goal.returns-then-is_empty-clause-taken
returns-then-is_empty-clause-taken c =
    fault-null c.args.rec c.args.field c.args.kind c.args.text.now c.in-Ok.ensures.cases.1
    (ap (λ t. length t == 0) (sym c.in-Ok.ensures.cases.0) ∙ sym c.is_empty.ensures ∙ c.if-is_empty.true)

pub returns-in-Integer-clause-taken : goal.returns-in-Integer-clause-taken
returns-in-Integer-clause-taken c =
    same_none c.integer_value.result _ _
    (number-fault-is c.args.rec c.args.field c.args.kind _ c.args.text.now c.in-Ok.text.now c.in-Integer.is c.in-Ok.ensures.cases.0 c.in-Ok.ensures.cases.1
    (sym c.is_empty.ensures ∙ c.if-is_empty.false)) c.integer_value.ensures.taken

pub returns-in-Integer-clause-fault : goal.returns-in-Integer-clause-fault
returns-in-Integer-clause-fault c =
    same_fault c.integer_value.result _ _
    (number-fault-is c.args.rec c.args.field c.args.kind _ c.args.text.now c.in-Ok.text.now c.in-Integer.is c.in-Ok.ensures.cases.0 c.in-Ok.ensures.cases.1
    (sym c.is_empty.ensures ∙ c.if-is_empty.false)) c.integer_value.ensures.fault

pub returns-in_ok-of-in-Text-clause-taken : goal.returns-in_ok-of-in-Text-clause-taken
returns-in_ok-of-in-Text-clause-taken c =
    sym (number-fault-is c.args.rec c.args.field c.args.kind _ c.args.text.now c.in-Ok.text.now c.in-Text.is c.in-Ok.ensures.cases.0 c.in-Ok.ensures.cases.1
    (sym c.is_empty.ensures ∙ c.if-is_empty.false))

pub returns-in-Decimal-clause-taken : goal.returns-in-Decimal-clause-taken
returns-in-Decimal-clause-taken c =
    same_none c.decimal_value.result _ _
    (number-fault-is c.args.rec c.args.field c.args.kind _ c.args.text.now c.in-Ok.text.now c.in-Decimal.is c.in-Ok.ensures.cases.0 c.in-Ok.ensures.cases.1
    (sym c.is_empty.ensures ∙ c.if-is_empty.false)) c.decimal_value.ensures.taken

pub returns-in-Decimal-clause-fault : goal.returns-in-Decimal-clause-fault
returns-in-Decimal-clause-fault c =
    same_fault c.decimal_value.result _ _
    (number-fault-is c.args.rec c.args.field c.args.kind _ c.args.text.now c.in-Ok.text.now c.in-Decimal.is c.in-Ok.ensures.cases.0 c.in-Ok.ensures.cases.1
    (sym c.is_empty.ensures ∙ c.if-is_empty.false)) c.decimal_value.ensures.fault
