-- Serves proofs: what a cell shows of each group, and what groups are sorted by.
use Rattle.std.specs.Prelude.{ℕ, ℤ, pos, ◌==◌, List, [], ◌∷◌, map, Option, None, slice_index_or, unsigned_abs, if◌then◌else◌}
use Rattle.std.specs.Ordering.{nat_cmp, ordering_then}
use Rattle.std.specs.declared.cmp.Ordering.{Ordering}
use Rattle.std.specs.declared.cmp.Ordering.TheVariants.{Equal}
use Rattle.sq_value.specs.Order.{ranks_sorted_by}
use Rattle.sq_value.specs.Rank.{Rank}
use Rattle.sq_value.specs.Relation.{Relation}
use Rattle.sq_value.specs.declared.value.SortWay.{SortWay}
use Rattle.sq_expr.specs.declared.block.Block.{Block}
use Rattle.sq_expr.specs.declared.shape.ShapeOrder.{ShapeOrder}
use Rattle.sq_expr.specs.declared.shape.SortOn.{SortOn}
use Rattle.sq_expr.specs.declared.shape.SortOn.TheVariants as sort
use Rattle.bag_meaning.specs.declared.combo.Combo.{Combo}
use Rattle.group_sink.specs.Cells.{out_of_value, rank_of_out, leading}
use Rattle.group_sink.specs.Parts.{rank_kept, value_over}
use Rattle.group_sink.specs.Picked.{picked}
use Rattle.group_sink.specs.Picks.{seen}
use Rattle.group_sink.specs.declared.line.Out.{Out}
use Rattle.group_sink.specs.declared.line.Out.TheVariants as out
use Rattle.group_sink.specs.declared.column.Column.{Column}
use Rattle.group_sink.specs.declared.column.Column.TheVariants as column
use Rattle.group_sink.specs.declared.sorting.SortKey.{SortKey}

-- a sum of so many numbers; of none it is null
abbrev pub shown_sum : ℤ → ℤ → ℕ → Out
shown_sum count units scale = if unsigned_abs count == 0 then out.Null else out.Number units scale

-- what a cell shows of a group
abbrev pub shown_in : Column → ℕ → Out
shown_in (column.Values values) group = out_of_value (seen (slice_index_or values group None))
shown_in (column.Counts counts) group = out.Number (slice_index_or counts group (pos 0)) 0
shown_in (column.Sums sums counts scale) group =
    shown_sum (slice_index_or counts group (pos 0)) (slice_index_or sums group (pos 0)) scale

-- the cells of a group
abbrev pub cells_at : List Column → ℕ → List Out
cells_at columns group = map (λ c. shown_in c group) columns

-- what a cell of a group is compared by
abbrev pub rank_in : Column → ℕ → Option Rank
rank_in c group = rank_of_out (shown_in c group)

-- how a group is placed by a key of ORDER BY
pub record Placed : Type 0 where
  pub way : SortWay
  pub rank : Option Rank

abbrev pub placed_by : SortKey → ℕ → Placed
placed_by key group = record { way = key.way; rank = rank_kept (slice_index_or key.keys group None) }

-- what a key of ORDER BY sorts a group by: a cell, or a column's value at the first member
abbrev pub sort_rank : Block → List Relation → List Combo → List ℕ → List Column → SortOn → ℕ → Option Rank
sort_rank block tables members numbers columns (sort.Cell place) group =
    rank_of_out (slice_index_or (cells_at columns group) place out.Null)
sort_rank block tables members numbers columns (sort.Column c) group =
    rank_of_out (out_of_value (leading (picked group numbers (map (value_over block tables c) members))))

abbrev pub placed_on : Block → List Relation → List Combo → List ℕ → List Column → ShapeOrder → ℕ → Placed
placed_on block tables members numbers columns key group =
    record { way = key.way; rank = sort_rank block tables members numbers columns key.on group }

-- the order of two groups by keys
abbrev pub by_sort_keys : List SortKey → ℕ → ℕ → Ordering
by_sort_keys [] x y = Equal
by_sort_keys (key ∷ keys) x y =
    ordering_then
    (ranks_sorted_by key.way (rank_kept (slice_index_or key.keys x None)) (rank_kept (slice_index_or key.keys y None)))
    (by_sort_keys keys x y)

-- and where they tie by their numbers
abbrev pub by_group : List SortKey → ℕ → ℕ → Ordering
by_group keys x y = ordering_then (by_sort_keys keys x y) (nat_cmp x y)
