use Rattle.std.proofs.Common.{List, map, ap, ◌∙◌}
use Rattle.std.specs.List.{flat_map}
use Rattle.sq_parse.specs.declared.tree.ColRef.{ColRef}
use Rattle.sq_parse.specs.declared.tree.OrderItem.{OrderItem}
use Rattle.sq_bind.specs.Condition.{calling, conjunct_faults}
use Rattle.sq_bind.specs.Fault.{first_of}
use Rattle.sq_bind.specs.Statement.{Sorting, selected_faults, parts_of, part_faults, placed_in, group_faults, grouped_faults, key_faults, sorting_of, faults_among}
use Rattle.sq_bind.specs.Seen.{seen, sorting}
use Rattle.sq_bind.proofs.FaultLemmas.{two_firsts}
use Rattle.sq_bind.proofs.block.rest_fault.Goals as goal

pub grouped_fault-requires : goal.grouped_fault-requires
grouped_fault-requires g c = ap (λ (by : Sorting). by.keys) c.requires.by

pub returns : goal.returns
unfolding faults_among
returns g c =
    let calls = calling (g.F.Predicates.number_of c.args.functions.now) (g.F.Predicates.kinds_of c.args.functions.now) in
    let aliases = map seen c.args.aliases.now in
    let s = c.args.statement.now in
    let placed = placed_in calls aliases s in
    let shown = selected_faults aliases s.items in
    let conditions = flat_map (part_faults calls) (parts_of aliases s) in
    let groups = flat_map (group_faults aliases) s.groups in
    let keys = flat_map (key_faults aliases (sorting_of aliases s)) s.order in
    let order = c.in_ok-order.ensures
    ∙ ap (λ (ks : List OrderItem). first_of (flat_map (key_faults aliases (sorting c.args.by)) ks)) c.as_slice-2.ensures
    ∙ ap (λ (by : Sorting). first_of (flat_map (key_faults aliases by) s.order)) c.requires.by in
    let by = c.groups_fault-groups.ensures ∙ ap (λ (cs : List ColRef). first_of (flat_map (group_faults aliases) cs)) c.as_slice.ensures in
    let extra = c.extra_fault.ensures placed c.requires.places in
    let late = c.sooner.ensures ∙ two_firsts (grouped_faults aliases s) keys c.in_ok-grouped.grouped c.in_ok-order.order c.in_ok-grouped.ensures order in
    let shape = c.sooner-shape.ensures ∙ two_firsts groups _ c.groups_fault-groups.result c.sooner.result by late in
    let last = c.sooner-2.ensures ∙ two_firsts (conjunct_faults placed) _ c.extra_fault.result c.sooner-shape.result extra shape in
    let more = c.sooner-rest.ensures
    ∙ two_firsts conditions _ c.parts_fault-conditions.result c.sooner-2.result c.parts_fault-conditions.ensures last in
    c.sooner-3.ensures ∙ two_firsts shown _ c.selected_fault-selected.result c.sooner-rest.result c.selected_fault-selected.ensures more
