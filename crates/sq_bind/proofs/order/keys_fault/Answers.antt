use Rattle.std.proofs.Common.{◌+◌, Option, map, drop, ap, ◌∙◌}
use Rattle.std.specs.List.{flat_map}
use Rattle.sq_parse.specs.declared.tree.OrderItem.{OrderItem}
use Rattle.sq_bind.specs.Fault.{sooner, first_of}
use Rattle.sq_bind.specs.Statement.{key_faults}
use Rattle.sq_bind.specs.Seen.{seen, sorting}
use Rattle.sq_bind.specs.declared.fault.BindFault.{BindFault}
use Rattle.sq_bind.proofs.FaultLemmas.{next_fault}
use Rattle.sq_bind.proofs.order.keys_fault.Goals as goal

pub loop-key-preserved : goal.loop-key-preserved
loop-key-preserved c =
    let keys = key_faults (map seen c.args.aliases.now) (sorting c.args.by) in
    let order = c.args.order.now in
    let i = c.loop-key.key-index in
    let here = c.in_ok-key_fault.ensures ∙ ap (λ (k : OrderItem). first_of (keys k)) c.key-item.is in
    ap (λ (f : Option BindFault). sooner f (first_of (flat_map keys (drop (i + 1) order))))
    (c.sooner-fault.ensures ∙ ap (sooner c.loop-key.fault) here)
    ∙ next_fault keys order i _ c.loop-key.fault _ c.loop-key-test.true c.loop-key.invariant
