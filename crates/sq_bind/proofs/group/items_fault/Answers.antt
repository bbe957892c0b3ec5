use Rattle.std.proofs.Common.{◌+◌, Option, map, drop, ap, ◌∙◌}
use Rattle.std.specs.List.{flat_map}
use Rattle.sq_parse.specs.declared.tree.Item.{Item}
use Rattle.sq_bind.specs.Fault.{sooner, first_of}
use Rattle.sq_bind.specs.Statement.{unsettled_faults, item_place, item_cells}
use Rattle.sq_bind.specs.Seen.{seen}
use Rattle.sq_bind.specs.declared.fault.BindFault.{BindFault}
use Rattle.sq_bind.proofs.FaultLemmas.{next_fault}
use Rattle.sq_bind.proofs.group.items_fault.Goals as goal

pub loop-item-preserved : goal.loop-item-preserved
loop-item-preserved c =
    let aliases = map seen c.args.aliases.now in
    let faults = λ (i : Item). unsettled_faults c.args.keys.now (item_place i) (item_cells aliases i) in
    let items = c.args.items.now in
    let i = c.loop-item.item-index in
    let here = c.in_ok-item_fault.ensures ∙ ap (λ (x : Item). first_of (faults x)) c.item-item.is in
    ap (λ (f : Option BindFault). sooner f (first_of (flat_map faults (drop (i + 1) items))))
    (c.sooner-fault.ensures ∙ ap (sooner c.loop-item.fault) here)
    ∙ next_fault faults items i _ c.loop-item.fault _ c.loop-item-test.true c.loop-item.invariant
