use Rattle.std.proofs.Common.{◌+◌, Option, map, drop, ap, ◌∙◌}
use Rattle.std.specs.List.{flat_map}
use Rattle.sq_parse.specs.declared.tree.ColRef.{ColRef}
use Rattle.sq_bind.specs.Fault.{sooner, first_of}
use Rattle.sq_bind.specs.Statement.{group_faults}
use Rattle.sq_bind.specs.Seen.{seen}
use Rattle.sq_bind.specs.declared.fault.BindFault.{BindFault}
use Rattle.sq_bind.proofs.FaultLemmas.{next_fault}
use Rattle.sq_bind.proofs.group.groups_fault.Goals as goal

pub loop-column-preserved : goal.loop-column-preserved
loop-column-preserved c =
    let faults = group_faults (map seen c.args.aliases.now) in
    let groups = c.args.groups.now in
    let i = c.loop-column.column-index in
    let here = c.column_fault.ensures ∙ ap (λ (x : ColRef). first_of (faults x)) c.column-item.is in
    ap (λ (f : Option BindFault). sooner f (first_of (flat_map faults (drop (i + 1) groups))))
    (c.sooner-fault.ensures ∙ ap (sooner c.loop-column.fault) here)
    ∙ next_fault faults groups i _ c.loop-column.fault _ c.loop-column-test.true c.loop-column.invariant
