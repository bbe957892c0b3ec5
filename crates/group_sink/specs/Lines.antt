-- The lines of a shaped statement, and their text.
use Rattle.std.specs.Prelude.{ℕ, Bool, true, false, List, [], ◌∷◌, ◌++◌, map, take, Option, Some, None, slice_index_or, if◌then◌else◌}
use Rattle.std.specs.Option.{option_map_or}
use Rattle.std.specs.List.{flat_map}
use Rattle.std.specs.Ordering.{nat_cmp, ordering_then, is_gt}
use Rattle.std.specs.Cmp.Lexicographic.{slice_cmp}
use Rattle.std.specs.declared.cmp.Ordering.{Ordering}
use Rattle.std.specs.declared.cmp.Ordering.TheVariants.{Equal}
use Rattle.csv.specs.Writing.{row_text, default_writer}
use Rattle.sq_value.specs.Decimal.{decimal_text}
use Rattle.sq_value.specs.Order.{ranks_sorted_by}
use Rattle.sq_value.specs.Relation.{Relation}
use Rattle.sq_value.specs.declared.value.Value.{Value}
use Rattle.sq_expr.specs.Fits.{kind_in}
use Rattle.sq_expr.specs.Meaning.{value_in}
use Rattle.sq_expr.specs.declared.cond.ColumnOf.{ColumnOf}
use Rattle.sq_expr.specs.declared.block.Block.{Block}
use Rattle.sq_expr.specs.declared.shape.Cell.{Cell}
use Rattle.sq_expr.specs.declared.shape.Shape.{Shape}
use Rattle.sq_expr.specs.declared.shape.ShapeOrder.{ShapeOrder}
use Rattle.sq_expr.specs.declared.shape.SortOn.{SortOn}
use Rattle.sq_expr.specs.declared.shape.SortOn.TheVariants as sort
use Rattle.bag_meaning.specs.Bag.{uses_of}
use Rattle.bag_meaning.specs.Answer.{in_order}
use Rattle.group_sink.specs.Cells.{cell_over, is_same_line, rank_of_out, scale_in}
use Rattle.group_sink.specs.Groups.{firsts, groups_of}
use Rattle.group_sink.specs.declared.line.Out.{Out}
use Rattle.group_sink.specs.declared.line.Out.TheVariants as out

-- combinations in the order of the product
abbrev pub in_product_order : List (List ℕ) → List (List ℕ)
in_product_order rows = in_order (slice_cmp nat_cmp) rows

-- the value of a column over a member
abbrev pub value_of : Block → List Relation → ColumnOf → List ℕ → Value
value_of block tables c member = value_in tables (uses_of block) member c

-- the scale of a column's numbers
abbrev pub scale_of : Block → List Relation → ColumnOf → ℕ
scale_of block tables c = option_map_or scale_in (kind_in tables (uses_of block) c) 0

-- what is in a cell of a group's line: over the values of a column in the group's members
abbrev pub cell_of_group : Block → List Relation → List (List ℕ) → Cell → Out
cell_of_group block tables group cell =
    cell_over (scale_of block tables cell.column) cell.agg (map (value_of block tables cell.column) group)

-- a group and its line
pub record GroupLine : Type 0 where
  pub group : List (List ℕ)
  pub cells : List Out

abbrev pub line_of : Block → List Relation → List Cell → List (List ℕ) → GroupLine
line_of block tables cells group = record { group = group; cells = map (cell_of_group block tables group) cells }

-- what a line is sorted by: a cell, or a column as a cell shows it, at the group's first member
abbrev pub sorted_on : Block → List Relation → SortOn → GroupLine → Out
sorted_on block tables (sort.Cell place) line = slice_index_or line.cells place out.Null
sorted_on block tables (sort.Column c) line =
    cell_over (scale_of block tables c) None (map (value_of block tables c) line.group)

-- the order of two lines by the keys of ORDER BY, compared in order
abbrev pub by_line_keys : Block → List Relation → List ShapeOrder → GroupLine → GroupLine → Ordering
by_line_keys block tables [] x y = Equal
by_line_keys block tables (key ∷ keys) x y =
    ordering_then
    (ranks_sorted_by key.way (rank_of_out (sorted_on block tables key.on x))
    (rank_of_out (sorted_on block tables key.on y)))
    (by_line_keys block tables keys x y)

-- an element put among others, before the first that it doesn't come after
abbrev pub put_before : {X : Type 0} → (X → X → Ordering) → X → List X → List X
put_before order x [] = x ∷ []
put_before order x (y ∷ ys) = if is_gt (order x y) then y ∷ put_before order x ys else x ∷ y ∷ ys

-- elements in an order, where those that tie stay as they were
abbrev pub stably_in : {X : Type 0} → (X → X → Ordering) → List X → List X
stably_in order [] = []
stably_in order (x ∷ xs) = put_before order x (stably_in order xs)

-- the lines of groups in the order of ORDER BY. Groups are listed by their first members, so of lines that tie the one
-- whose first member comes first in the product is first
abbrev pub ordered_lines : Block → List Relation → Shape → List (List (List ℕ)) → List (List Out)
ordered_lines block tables shape groups =
    map (λ (line : GroupLine). line.cells)
    (stably_in (by_line_keys block tables shape.order) (map (line_of block tables shape.cells) groups))

-- with DISTINCT each line that is equal to an earlier one in all cells goes
abbrev pub told_apart : Bool → List (List Out) → List (List Out)
told_apart true lines = firsts is_same_line lines
told_apart false lines = lines

-- with LIMIT the first so many stay
abbrev pub limited : {X : Type 0} → Option ℕ → List X → List X
limited None lines = lines
limited (Some n) lines = take n lines

-- the lines of a shaped statement over the members of its bag, in the order of the product: one for each group, in
-- order, then told apart, then limited
unfoldable pub lines_of : Block → List Relation → Shape → List (List ℕ) → List (List Out)
lines_of block tables shape members =
    limited shape.limit
    (told_apart shape.distinct
    (ordered_lines block tables shape (groups_of shape.grouped (value_of block tables) shape.keys members)))

-- the text of a cell
abbrev pub out_text : Out → List ℕ
out_text out.Null = []
out_text (out.Number units scale) = decimal_text record { units = units; scale = scale }
out_text (out.Text t) = t

-- the text of lines: the heading of the cells' names and a record for each line, as CSV
unfoldable pub lines_text : Shape → List (List Out) → List ℕ
lines_text shape lines =
    row_text default_writer (map (λ (c : Cell). c.name) shape.cells)
    ++ flat_map (λ (line : List Out). row_text default_writer (map out_text line)) lines
