use Rattle.std.proofs.Common.{◌≡◌, ap, ◌∙◌}
use Rattle.table_csv.specs.Marks.{column_name, name_or_number, written_name}
use Rattle.table_csv.proofs.HeadLemmas.{name-not_utf8, name-repeated, name-taken}
use Rattle.table_csv.specs.Work.{names_of}
use Rattle.table_csv.proofs.heading.read_name.Goals as goal

pub returns-in_default-clause-fault : goal.returns-in_default-clause-fault
returns-in_default-clause-fault c = λ _. name-not_utf8 (names_of c.args.named.now) c.args.number c.args.field.now c.in_default.ensures.cases.0

pub returns-then-is_repeated-clause-fault : goal.returns-then-is_repeated-clause-fault
returns-then-is_repeated-clause-fault c =
    let named : c.as_str.result.now ≡ column_name c.args.number c.args.field.now =
    c.as_str.ensures ∙ c.in_ok-name.ensures.ok
    ∙ ap (name_or_number c.args.number) (c.split_mark-kind.ensures.name ∙ ap written_name c.in-Ok.ensures.cases.0) in
    λ _. name-repeated c.args.named.now c.args.number c.args.field.now c.as_str.result.now c.is_repeated.result c.in-Ok.ensures.cases.1 named
    c.is_repeated.ensures c.if-is_repeated.true

pub returns-clause-taken : goal.returns-clause-taken
returns-clause-taken c =
    let named : c.as_str.result.now ≡ column_name c.args.number c.args.field.now =
    c.as_str.ensures ∙ c.in_ok-name.ensures.ok
    ∙ ap (name_or_number c.args.number) (c.split_mark-kind.ensures.name ∙ ap written_name c.in-Ok.ensures.cases.0) in
    name-taken c.args.named.now c.args.number c.args.field.now c.as_str.result.now c.is_repeated.result c.in-Ok.ensures.cases.1 named
    c.is_repeated.ensures c.if-is_repeated.false
