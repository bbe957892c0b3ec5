use Rattle.std.proofs.Common.{arith}
use Rattle.command_line.specs.Accesses.{is_comma}
use Rattle.command_line.proofs.TableLaws.{one_item, item_cut}
use Rattle.command_line.proofs.accesses.cut.Goals as goal

pub returns-in-Some-clause-items : goal.returns-in-Some-clause-items
returns-in-Some-clause-items c =
    let parts = c.in-Some.ensures.byte (omega arith) (λ w o h. h) in
    item_cut is_comma c.args.text.now c.in-Some.item.now c.in-Some.rest.now 0 parts.0 parts.1 parts.2

pub returns-in-None-clause-items : goal.returns-in-None-clause-items
returns-in-None-clause-items c = one_item is_comma c.args.text.now (c.in-None.ensures.byte (omega arith) (λ w o h. h))
