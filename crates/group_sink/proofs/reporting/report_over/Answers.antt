use Rattle.std.proofs.Common.{◌≡◌, ℕ, ◌<◌, List, length, map, ap, sym, ◌∙◌, subst}
use Rattle.std.specs.Prelude.{All, if◌then◌else◌}
use Rattle.std.specs.List.{range_with_len}
use Rattle.std.proofs.lemmas.List.{length-map}
use Rattle.std.proofs.lemmas.List.FromFn.{length-range_with_len}
use Rattle.sq_expr.specs.declared.cond.ColumnOf.{ColumnOf}
use Rattle.sq_expr.specs.declared.shape.Cell.{Cell}
use Rattle.sq_expr.specs.declared.shape.ShapeOrder.{ShapeOrder}
use Rattle.result_sink.specs.Ready.{rows_of_combo}
use Rattle.group_sink.specs.Cells.{cell_over, is_same_line}
use Rattle.group_sink.specs.Columns.{cells_at, placed_on, by_sort_keys}
use Rattle.group_sink.specs.Groups.{firsts}
use Rattle.group_sink.specs.Lines.{scale_of, stably_in}
use Rattle.group_sink.specs.Numbers.{member_numbers, group_count}
use Rattle.group_sink.specs.Parts.{value_over}
use Rattle.group_sink.specs.Picked.{picked}
use Rattle.group_sink.specs.declared.column.Column.{Column}
use Rattle.group_sink.proofs.ReportLemmas.{groups-given, lines-are}
use Rattle.group_sink.proofs.Results.{on_ok}
use Rattle.group_sink.proofs.reporting.report_over.Goals as goal

pub columns_of-requires-clause-both : goal.columns_of-requires-clause-both
columns_of-requires-clause-both c =
    let block = c.args.block.now in
    let members = c.args.members.now in
    let groups = groups-given block c.args.tables.now c.args.shape.now members _ _ _ _ c.as_slice-keys.ensures c.as_slice.ensures.value c.in_ok-numbers.ensures c.count_of-count.ensures in
    ap (length {A = ℕ}) c.as_slice-2.ensures.value ∙ groups.long ∙ length-map members (rows_of_combo block)

pub columns_of-requires-clause-within : goal.columns_of-requires-clause-within
columns_of-requires-clause-within c =
    let groups = groups-given c.args.block.now c.args.tables.now c.args.shape.now c.args.members.now _ _ _ _ c.as_slice-keys.ensures c.as_slice.ensures.value c.in_ok-numbers.ensures c.count_of-count.ensures in
    subst (λ (ns : List ℕ). All (λ (k : ℕ). k < c.count_of-count.result) ns) (sym c.as_slice-2.ensures.value) groups.within

pub sort_keys-requires-clause-both : goal.sort_keys-requires-clause-both
sort_keys-requires-clause-both c =
    let block = c.args.block.now in
    let members = c.args.members.now in
    let groups = groups-given block c.args.tables.now c.args.shape.now members _ _ _ _ c.as_slice-keys.ensures c.as_slice.ensures.value c.in_ok-numbers.ensures c.count_of-count.ensures in
    ap (length {A = ℕ}) c.as_slice-3.ensures.value ∙ groups.long ∙ length-map members (rows_of_combo block)

pub sort_keys-requires-clause-within : goal.sort_keys-requires-clause-within
sort_keys-requires-clause-within c =
    let groups = groups-given c.args.block.now c.args.tables.now c.args.shape.now c.args.members.now _ _ _ _ c.as_slice-keys.ensures c.as_slice.ensures.value c.in_ok-numbers.ensures c.count_of-count.ensures in
    let size : length c.as_slice-4.result.now ≡ c.count_of-count.result =
    ap (length {A = ℕ}) (c.as_slice-4.ensures.value ∙ c.in_ok-groups.ensures) ∙ length-range_with_len 0 c.count_of-count.result in
    subst (λ (n : ℕ). All (λ (k : ℕ). k < n) c.as_slice-3.result.now) (sym size)
    (subst (λ (ns : List ℕ). All (λ (k : ℕ). k < c.count_of-count.result) ns) (sym c.as_slice-3.ensures.value) groups.within)

pub sort_keys-requires-clause-all : goal.sort_keys-requires-clause-all
sort_keys-requires-clause-all c =
    let is = c.as_slice-4.ensures.value ∙ c.in_ok-groups.ensures in
    is ∙ ap (range_with_len 0) (sym (ap (length {A = ℕ}) is ∙ length-range_with_len 0 c.count_of-count.result))

pub sort_groups-sorted-requires : goal.sort_groups-sorted-requires
sort_groups-sorted-requires c =
    c.in_ok-groups.ensures ∙ ap (range_with_len 0) (sym (ap (length {A = ℕ}) c.in_ok-groups.ensures ∙ length-range_with_len 0 c.count_of-count.result))

pub returns : goal.returns
returns c =
    let block = c.args.block.now in
    let tables = c.args.tables.now in
    let shape = c.args.shape.now in
    let members = c.args.members.now in
    let numbers = c.in_ok-numbers.numbers.items in
    let count = c.count_of-count.result in
    let columns = c.in_ok-columns.columns.items in
    let keys = c.in_ok-order.order.items in
    let sorted = c.sort_groups-sorted.result.items in
    let kept = c.in_ok-kept.kept.items in
    let cell_at = λ (ns : List ℕ). λ (j : ℕ). λ (cell : Cell). cell_over (scale_of block tables cell.column) cell.agg (picked j ns (map (value_over block tables cell.column) members)) in
    let numbered : numbers ≡ member_numbers shape.grouped (value_over block tables) shape.keys members =
    c.in_ok-numbers.ensures ∙ ap (λ (ks : List ColumnOf). member_numbers shape.grouped (value_over block tables) ks members) c.as_slice-keys.ensures in
    let counted : count ≡ group_count shape.grouped shape.keys numbers =
    c.count_of-count.ensures ∙ ap (λ (ks : List ColumnOf). group_count shape.grouped ks c.as_slice.result.now) c.as_slice-keys.ensures
    ∙ ap (group_count shape.grouped shape.keys) c.as_slice.ensures.value in
    let size : length c.as_slice-4.result.now ≡ count = ap (length {A = ℕ}) (c.as_slice-4.ensures.value ∙ c.in_ok-groups.ensures) ∙ length-range_with_len 0 count in
    let made = lines-are block tables shape members numbers count columns keys sorted kept numbered counted
    (λ j below. c.in_ok-columns.ensures.each j below ∙ ap (λ (ns : List ℕ). map (cell_at ns j) c.as_slice-cells.result.now) c.as_slice-2.ensures.value ∙ ap (map (cell_at numbers j)) c.as_slice-cells.ensures)
    (λ j below. c.in_ok-order.ensures j (subst (λ (n : ℕ). j < n) (sym size) below)
    ∙ ap (λ (ns : List ℕ). map (λ (o : ShapeOrder). placed_on block tables members ns c.as_slice-5.result.now o j) c.as_slice-6.result.now) c.as_slice-3.ensures.value
    ∙ ap (λ (cs : List Column). map (λ (o : ShapeOrder). placed_on block tables members numbers cs o j) c.as_slice-6.result.now) c.as_slice-5.ensures.value
    ∙ ap (map (λ (o : ShapeOrder). placed_on block tables members numbers columns o j)) c.as_slice-6.ensures)
    (c.sort_groups-sorted.ensures ∙ ap (λ ks. stably_in (by_sort_keys ks) c.in_ok-groups.groups.items) c.as_slice-7.ensures.value ∙ ap (stably_in (by_sort_keys keys)) c.in_ok-groups.ensures)
    (c.in_ok-kept.ensures ∙ ap (λ (cs : List Column). if shape.distinct then firsts (λ x y. is_same_line (cells_at cs x) (cells_at cs y)) sorted else sorted) c.as_slice-8.ensures.value) in
    on_ok c.lines_at.result
    (λ lines h. h ∙ ap (λ (cs : List Column). map (cells_at cs) c.as_slice-10.result.now) c.as_slice-9.ensures.value
    ∙ ap (map (cells_at columns)) (c.as_slice-10.ensures.value ∙ c.limited-kept.ensures) ∙ made)
    c.lines_at.ensures
