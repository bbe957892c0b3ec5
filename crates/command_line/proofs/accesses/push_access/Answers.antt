use Rattle.std.proofs.Common.{◌∙◌, sym, ap}
use Rattle.std.specs.List.{list_any}
use Rattle.command_line.specs.Accesses.{is_of_table, tables_differ}
use Rattle.command_line.specs.Answers.{with_items}
use Rattle.command_line.proofs.AnswerLaws.{handed_on}
use Rattle.command_line.proofs.AccessLaws.{with_items-none, with_items-some, with_items-repeated, differ_more}
use Rattle.command_line.proofs.accesses.push_access.Goals as goal

pub returns-in_err-access-clause-refused : goal.returns-in_err-access-clause-refused
returns-in_err-access-clause-refused c =
    handed_on c.from_residual.result c.in_err-access.field-0.0 _ c.from_residual.ensures.1
    (λ out items. with_items-none c.args.tables.now c.args.scan c.args.accesses.now.items c.args.item.now items (c.in_err-access.ensures out))

pub returns-then-has_access-clause-refused : goal.returns-then-has_access-clause-refused
returns-then-has_access-clause-refused c =
    λ out items. with_items-repeated c.args.tables.now c.args.scan c.args.accesses.now.items c.args.item.now items c.in_ok-access.access c.in_ok-access.ensures
    (ap (list_any (is_of_table c.in_ok-access.access.table)) (sym c.deref.ensures.value) ∙ (sym c.has_access.ensures ∙ c.if-has_access.true))

pub returns-clause-pushed : goal.returns-clause-pushed
returns-clause-pushed c =
    λ items. with_items-some c.args.tables.now c.args.scan c.args.accesses.now.items c.args.item.now items c.in_ok-access.access c.in_ok-access.ensures
    ∙ ap (λ seen. with_items c.args.tables.now c.args.scan seen items) (sym c.in_ok-push.ensures.items)

pub returns-clause-differ : goal.returns-clause-differ
returns-clause-differ c =
    ap tables_differ c.in_ok-push.ensures.items
    ∙ differ_more c.args.accesses.now.items c.in_ok-access.access c.requires.differ
    (ap (list_any (is_of_table c.in_ok-access.access.table)) (sym c.deref.ensures.value) ∙ (sym c.has_access.ensures ∙ c.if-has_access.false))
