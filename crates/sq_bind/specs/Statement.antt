-- What a statement binds to: the block with what is made of its matches, or the first fault of the first round that has
-- one.
use Rattle.std.specs.Prelude.{ℕ, ◌+◌, Bool, true, ◌&&◌, ◌||◌, not, ◌==◌, ◌^◌, if◌then◌else◌, List, [], ◌∷◌, ◌++◌, map, filter, take, Option, Some, None, is_some, Result, Ok, Err, unwrap_or, slice_get, slice_index_or, sum, codes}
use Rattle.std.specs.List.{flat_map, list_any, list_all, position_or_len, range_with_len}
use Rattle.std.specs.Option.{option_map_or}
use Rattle.sq_value.specs.Name.{is_same_name}
use Rattle.sq_value.specs.Relation.{Relation}
use Rattle.sq_value.specs.declared.table.Column.{Column}
use Rattle.sq_parse.specs.Tree.{column_place}
use Rattle.sq_parse.specs.declared.tree.Name.{Name}
use Rattle.sq_parse.specs.declared.tree.ColRef.{ColRef}
use Rattle.sq_parse.specs.declared.tree.Items.{Items}
use Rattle.sq_parse.specs.declared.tree.Items.TheVariants as items
use Rattle.sq_parse.specs.declared.tree.Item.{Item}
use Rattle.sq_parse.specs.declared.tree.Item.TheVariants as item
use Rattle.sq_parse.specs.declared.tree.Source.{Source}
use Rattle.sq_parse.specs.declared.tree.Tree.{Tree}
use Rattle.sq_parse.specs.declared.tree.OrderItem.{OrderItem}
use Rattle.sq_parse.specs.declared.tree.Statement.{Statement}
use Rattle.sq_expr.specs.Fits.{aliases_of}
use Rattle.sq_expr.specs.declared.cond.ColumnOf.{ColumnOf}
use Rattle.sq_expr.specs.declared.block.Access.{Access}
use Rattle.sq_expr.specs.declared.block.AliasUse.{AliasUse}
use Rattle.sq_expr.specs.declared.block.OutCol.{OutCol}
use Rattle.sq_expr.specs.declared.block.OrderKey.{OrderKey}
use Rattle.sq_expr.specs.declared.block.Conjunct.{Conjunct}
use Rattle.sq_expr.specs.declared.block.Block.{Block}
use Rattle.sq_value.specs.declared.value.SortWay.{SortWay}
use Rattle.sq_parse.specs.Shaped.{is_grouped}
use Rattle.sq_expr.specs.declared.shape.AggKind.{AggKind}
use Rattle.sq_expr.specs.declared.shape.AggKind.TheVariants as agg
use Rattle.sq_expr.specs.declared.shape.Cell.{Cell}
use Rattle.sq_expr.specs.declared.shape.SortOn.{SortOn}
use Rattle.sq_expr.specs.declared.shape.SortOn.TheVariants as sort
use Rattle.sq_expr.specs.declared.shape.ShapeOrder.{ShapeOrder}
use Rattle.sq_expr.specs.declared.shape.Shape.{Shape}
use Rattle.sq_bind.specs.declared.shaped.Shaped.{Shaped}
use Rattle.sq_bind.specs.Visible.{Alias, called, meant}
use Rattle.sq_bind.specs.declared.visible.Resolved.{Resolved}
use Rattle.sq_bind.specs.Operand.{column_faults, number_faults}
use Rattle.sq_bind.specs.declared.conjunct.Placed.{Placed}
use Rattle.sq_bind.specs.Condition.{Calls, conjuncts_in, tree_faults, conjunct_faults}
use Rattle.sq_bind.specs.declared.fault.BindFault.{BindFault}
use Rattle.sq_bind.specs.declared.fault.BindFault.TheVariants.{UnknownTable, RepeatedAlias, UnknownAlias, AmbiguousColumn, TooManyAliases, NotGrouped, NotSelected}

-- what a statement is bound over: tables, the number of a table's name, how each is reached, and predicates
pub record Scope : Type 0 where
  pub tables : List Relation
  pub table : List ℕ → Option ℕ
  pub accesses : List Access
  pub calls : Calls

-- ---- the first round: FROM

-- a table that isn't there
abbrev pub table_faults : ℕ → Option ℕ → List BindFault
table_faults at None = UnknownTable at ∷ []
table_faults at (Some table) = []

-- the fault of an alias beside those before it
abbrev pub alias_faults : List Source → Name → List BindFault
alias_faults before alias =
    if list_any (λ (s : Source). is_same_name s.alias.text alias.text) before then RepeatedAlias alias.at ∷ [] else []

abbrev pub source_faults : Scope → List Source → Source → List BindFault
source_faults scope before s = table_faults s.table.at (scope.table s.table.text) ++ alias_faults before s.alias

-- the faults of sources behind others
abbrev pub sources_faults : Scope → List Source → List Source → List BindFault
sources_faults scope before [] = []
sources_faults scope before (s ∷ more) = source_faults scope before s ++ sources_faults scope (before ++ s ∷ []) more

-- a statement has at most 12 aliases
abbrev pub thirteenth_faults : Option Source → List BindFault
thirteenth_faults None = []
thirteenth_faults (Some s) = TooManyAliases s.table.at ∷ []

unfoldable pub from_faults : Scope → List Source → List BindFault
from_faults scope sources = sources_faults scope [] sources ++ thirteenth_faults (slice_get sources 12)

-- ---- the aliases

abbrev pub table_number : Scope → Source → ℕ
table_number scope s = unwrap_or (scope.table s.table.text) 0

abbrev pub columns_at : List Relation → ℕ → List Column
columns_at tables table = option_map_or (λ (t : Relation). t.columns) (slice_get tables table) []

-- the aliases of sources, which count from a number on
abbrev pub aliases_from : Scope → ℕ → List Source → List Alias
aliases_from scope first [] = []
aliases_from scope first (s ∷ more) =
    record { number = first; name = s.alias.text; columns = columns_at scope.tables (table_number scope s) }
    ∷ aliases_from scope (first + 1) more

abbrev pub aliases_in : Scope → Statement → List Alias
aliases_in scope s = aliases_from scope 0 s.sources

-- ---- the select list

-- a cell that shows a column of the first member
abbrev pub plain_cell : List ℕ → ColumnOf → Cell
plain_cell name c = record { agg = None; column = c; name = name }

-- some columns of an alias under their own names, where they count from a number on
unfoldable pub cells_from : ℕ → ℕ → List Column → List Cell
cells_from alias first [] = []
cells_from alias first (c ∷ cs) =
    plain_cell c.name record { alias = alias; column = first } ∷ cells_from alias (first + 1) cs

-- all columns of an alias, in order
abbrev pub columns_of : Alias → List Cell
columns_of a = cells_from a.number 0 a.columns

-- the name of a column, as its table spells it
abbrev pub name_in : List Column → ℕ → List ℕ
name_in columns column = option_map_or (λ (c : Column). c.name) (slice_get columns column) []

abbrev pub spelled : List Alias → ColumnOf → List ℕ
spelled aliases c = option_map_or (λ (a : Alias). name_in a.columns c.column) (slice_get aliases c.alias) []

-- all columns of the alias that was called, where there is one
abbrev pub called_columns : Option Alias → List Cell
called_columns None = []
called_columns (Some a) = columns_of a

abbrev pub called_faults : ℕ → Option Alias → List BindFault
called_faults at None = UnknownAlias at ∷ []
called_faults at (Some a) = []

-- a column has the name behind AS, or the one that its table gives it; a faulty one has none, and its fault stands
-- before those of ORDER BY
abbrev pub column_named : List Alias → Option Name → ColumnOf → Cell
column_named aliases None c = plain_cell (spelled aliases c) c
column_named aliases (Some name) c = plain_cell name.text c

abbrev pub named_column : List Alias → Option Name → Result Resolved BindFault → List Cell
named_column aliases name (Err f) = []
named_column aliases name (Ok m) = column_named aliases name m.column ∷ []

-- the name of a set function without AS
abbrev pub agg_name : AggKind → List ℕ
agg_name agg.CountAll = codes "count"
agg_name agg.Count = codes "count"
agg_name agg.Sum = codes "sum"
agg_name agg.Min = codes "min"
agg_name agg.Max = codes "max"

abbrev pub agg_named : AggKind → Option Name → List ℕ
agg_named kind None = agg_name kind
agg_named kind (Some name) = name.text

abbrev pub agg_cell : AggKind → Option Name → ColumnOf → Cell
agg_cell kind name c = record { agg = Some kind; column = c; name = agg_named kind name }

-- the first column of the first alias
abbrev pub first_column : ColumnOf
first_column = record { alias = 0; column = 0 }

abbrev pub agg_of : AggKind → Option Name → Result Resolved BindFault → List Cell
agg_of kind name (Err f) = []
agg_of kind name (Ok m) = agg_cell kind name m.column ∷ []

-- a set function of a column; without one it counts all members
abbrev pub agg_cells : List Alias → AggKind → Option Name → Option ColRef → List Cell
agg_cells aliases kind name None = agg_cell agg.CountAll name first_column ∷ []
agg_cells aliases kind name (Some c) = agg_of kind name (meant aliases c)

-- what a set function is of: a sum is of numbers
abbrev pub summed_faults : AggKind → ℕ → Result Resolved BindFault → List BindFault
summed_faults agg.CountAll at r = column_faults r
summed_faults agg.Count at r = column_faults r
summed_faults agg.Sum at r = number_faults at r
summed_faults agg.Min at r = column_faults r
summed_faults agg.Max at r = column_faults r

abbrev pub agg_faults : List Alias → AggKind → Option ColRef → List BindFault
agg_faults aliases kind None = []
agg_faults aliases kind (Some c) = summed_faults kind (column_place c) (meant aliases c)

-- what an item of the select list shows
unfoldable pub item_cells : List Alias → Item → List Cell
item_cells aliases (item.AllOf name) = called_columns (called name.text aliases)
item_cells aliases (item.Col column name) = named_column aliases name (meant aliases column)
item_cells aliases (item.Agg at kind column name) = agg_cells aliases kind name column

unfoldable pub item_faults : List Alias → Item → List BindFault
item_faults aliases (item.AllOf name) = called_faults name.at (called name.text aliases)
item_faults aliases (item.Col column name) = column_faults (meant aliases column)
item_faults aliases (item.Agg at kind column name) = agg_faults aliases kind column

-- the cells of a select list
unfoldable pub cells_of : List Alias → Items → List Cell
cells_of aliases items.Star = flat_map columns_of aliases
cells_of aliases (items.List list) = flat_map (item_cells aliases) list

unfoldable pub selected_faults : List Alias → Items → List BindFault
selected_faults aliases items.Star = []
selected_faults aliases (items.List list) = flat_map (item_faults aliases) list

-- ---- GROUP BY

abbrev pub is_one_column : ColumnOf → ColumnOf → Bool
is_one_column x y = (x.alias == y.alias) && (x.column == y.column)

-- a faulty column groups nothing
abbrev pub grouping_column : Result Resolved BindFault → List ColumnOf
grouping_column (Ok m) = m.column ∷ []
grouping_column (Err f) = []

abbrev pub grouping_by : List Alias → ColRef → List ColumnOf
grouping_by aliases c = grouping_column (meant aliases c)

-- the columns of GROUP BY
unfoldable pub grouping_of : List Alias → List ColRef → List ColumnOf
grouping_of aliases groups = flat_map (grouping_by aliases) groups

abbrev pub group_faults : List Alias → ColRef → List BindFault
group_faults aliases c = column_faults (meant aliases c)

-- whether a column is one of GROUP BY
abbrev pub is_grouping : List ColumnOf → ColumnOf → Bool
is_grouping keys c = list_any (is_one_column c) keys

-- whether a cell has one value in each group: it is a set function, or a column of GROUP BY
abbrev pub is_settled : List ColumnOf → Cell → Bool
is_settled keys cell = is_some cell.agg || is_grouping keys cell.column

abbrev pub unsettled_faults : List ColumnOf → ℕ → List Cell → List BindFault
unsettled_faults keys at cells = if list_all (is_settled keys) cells then [] else NotGrouped at ∷ []

-- the place of an item: its name's or its column's
abbrev pub item_place : Item → ℕ
item_place (item.AllOf name) = name.at
item_place (item.Col column name) = column_place column
item_place (item.Agg at kind column name) = at

-- the place of `*`: the first source's table name
abbrev pub star_place : List Source → ℕ
star_place [] = 0
star_place (s ∷ more) = s.table.at

-- the columns of a select list that have no one value in each group
abbrev pub ungrouped_faults : List Alias → List ColumnOf → ℕ → Items → List BindFault
ungrouped_faults aliases keys star items.Star = unsettled_faults keys star (cells_of aliases items.Star)
ungrouped_faults aliases keys star (items.List list) =
    flat_map (λ (i : Item). unsettled_faults keys (item_place i) (item_cells aliases i)) list

-- those of a grouped statement
unfoldable pub grouped_faults : List Alias → Statement → List BindFault
grouped_faults aliases s =
    if is_grouped s then ungrouped_faults aliases (grouping_of aliases s.groups) (star_place s.sources) s.items else []

-- ---- ORDER BY

-- the number of a set function, which tells it apart
abbrev pub agg_number : Option AggKind → ℕ
agg_number None = 0
agg_number (Some agg.CountAll) = 1
agg_number (Some agg.Count) = 2
agg_number (Some agg.Sum) = 3
agg_number (Some agg.Min) = 4
agg_number (Some agg.Max) = 5

-- whether two cells show one thing, by whatever names
abbrev pub is_same_cell : Cell → Cell → Bool
is_same_cell x y = (agg_number x.agg == agg_number y.agg) && is_one_column x.column y.column

abbrev pub column_meant : Result Resolved BindFault → Result SortOn BindFault
column_meant (Ok m) = Ok (sort.Column m.column)
column_meant (Err f) = Err f

-- cells of a name show one thing, and the first of them is meant, or they differ; where there are none, FROM is asked
abbrev pub sorted_on : List Alias → ColRef → ℕ → List Cell → Result SortOn BindFault
sorted_on aliases c place [] = column_meant (meant aliases c)
sorted_on aliases c place (x ∷ more) =
    if list_all (is_same_cell x) more then Ok (sort.Cell place) else Err (AmbiguousColumn (column_place c))

abbrev pub has_name : List ℕ → Cell → Bool
has_name name c = is_same_name c.name name

-- the cells that a column of ORDER BY may mean: those of its name, where no alias stands before it
abbrev pub candidates : List Cell → Option Name → List ℕ → List Cell
candidates cells None name = filter (has_name name) cells
candidates cells (Some alias) name = []

-- the place of the first cell of a name
abbrev pub first_named : List Cell → List ℕ → ℕ
first_named cells name = position_or_len (has_name name) cells

-- what a column of ORDER BY means: a cell of its name, or a column of FROM
unfoldable pub order_on : List Alias → List Cell → ColRef → Result SortOn BindFault
order_on aliases cells c =
    sorted_on aliases c (first_named cells c.column.text) (candidates cells c.alias c.column.text)

-- what ORDER BY may sort by beside the cells: of a DISTINCT statement the columns that cells show, and of a grouped one
-- those of GROUP BY
pub record Sorting : Type 0 where
  pub distinct : Bool
  pub grouped : Bool
  pub keys : List ColumnOf
  pub cells : List Cell

abbrev pub sorting_of : List Alias → Statement → Sorting
sorting_of aliases s = record {
  distinct = s.distinct;
  grouped = is_grouped s;
  keys = grouping_of aliases s.groups;
  cells = cells_of aliases s.items;
}

-- whether a cell shows a column as it is
abbrev pub shows : ColumnOf → Cell → Bool
shows c cell = not (is_some cell.agg) && is_one_column c cell.column

abbrev pub is_unselected : Sorting → ColumnOf → Bool
is_unselected by c = by.distinct && not (list_any (shows c) by.cells)

abbrev pub is_ungrouped : Sorting → ColumnOf → Bool
is_ungrouped by c = by.grouped && not (is_grouping by.keys c)

-- a column that no cell names; where it isn't selected, no more is asked
abbrev pub sorted_faults : Sorting → ℕ → ColumnOf → List BindFault
sorted_faults by at c =
    if is_unselected by c then NotSelected at ∷ [] else (if is_ungrouped by c then NotGrouped at ∷ [] else [])

abbrev pub order_faults : Sorting → ℕ → Result SortOn BindFault → List BindFault
order_faults by at (Ok (sort.Cell place)) = []
order_faults by at (Ok (sort.Column c)) = sorted_faults by at c
order_faults by at (Err f) = f ∷ []

abbrev pub order_key : Result SortOn BindFault → OrderItem → ShapeOrder
order_key (Ok on) item' = record { on = on; way = item'.way }
order_key (Err f) item' = record { on = sort.Column first_column; way = item'.way }

-- ---- conditions

-- a condition, and the aliases that it sees
pub record Part : Type 0 where
  pub aliases : List Alias
  pub tree : Tree

abbrev pub part_seeing : List Alias → Option Tree → List Part
part_seeing aliases None = []
part_seeing aliases (Some tree) = record { aliases = aliases; tree = tree } ∷ []

-- the ON conditions of sources that count from a number on; each sees its own source and those to its left
abbrev pub joins_from : List Alias → ℕ → List Source → List Part
joins_from aliases first [] = []
joins_from aliases first (s ∷ more) = part_seeing (take (first + 1) aliases) s.on ++ joins_from aliases (first + 1) more

-- the ON conditions in order, and then WHERE, which sees all aliases
unfoldable pub parts_of : List Alias → Statement → List Part
parts_of aliases s = joins_from aliases 0 s.sources ++ part_seeing aliases s.condition

abbrev pub part_conjuncts : Calls → Part → List Placed
part_conjuncts calls p = conjuncts_in calls p.aliases p.tree

-- the conjuncts of a statement, with their places
unfoldable pub placed_in : Calls → List Alias → Statement → List Placed
placed_in calls aliases s = flat_map (part_conjuncts calls) (parts_of aliases s)

abbrev pub part_faults : Calls → Part → List BindFault
part_faults calls p = tree_faults calls p.aliases p.tree

-- ---- the second round

unfoldable pub key_faults : List Alias → Sorting → OrderItem → List BindFault
key_faults aliases by key = order_faults by (column_place key.column) (order_on aliases by.cells key.column)

-- the faults of the select list, the conditions, the number of conjuncts, GROUP BY, what isn't grouped, and ORDER BY
unfoldable pub faults_among : Calls → List Alias → Statement → List BindFault
faults_among calls aliases s =
    selected_faults aliases s.items
    ++ (flat_map (part_faults calls) (parts_of aliases s)
    ++ (conjunct_faults (placed_in calls aliases s)
    ++ (flat_map (group_faults aliases) s.groups
    ++ (grouped_faults aliases s
    ++ flat_map (key_faults aliases (sorting_of aliases s)) s.order))))

abbrev pub rest_faults : Scope → Statement → List BindFault
rest_faults scope s = faults_among scope.calls (aliases_in scope s) s

-- ---- the block

-- whether an alias is in a list
abbrev pub is_among : ℕ → List ℕ → Bool
is_among alias aliases = list_any (λ a. a == alias) aliases

-- the bit of an alias that is in a list
abbrev pub bit_in : List ℕ → ℕ → ℕ
bit_in aliases alias = if is_among alias aliases then 2 ^ alias else 0

-- the set of aliases of a list, as bits
abbrev pub span_of : List ℕ → ℕ
span_of aliases = sum (map (bit_in aliases) (range_with_len 0 12))

abbrev pub placed_conjunct : Placed → Conjunct
placed_conjunct p = record { cond = p.cond; span = span_of (aliases_of p.cond) }

abbrev pub scanned : Access
scanned = record { scan = true; look_up = None }

-- an alias of a table: its number, and how it is reached
abbrev pub used : List Access → ℕ → AliasUse
used accesses table = record { table = table; access = slice_index_or accesses table scanned }

abbrev pub use_of : Scope → Source → AliasUse
use_of scope s = used scope.accesses (table_number scope s)

-- a key of ORDER BY
unfoldable pub key_of : List Alias → List Cell → OrderItem → ShapeOrder
key_of aliases cells key = order_key (order_on aliases cells key.column) key

-- what a statement without a fault makes of its matches
unfoldable pub shape_in : List Alias → Statement → Shape
shape_in aliases s = record {
  grouped = is_grouped s;
  keys = grouping_of aliases s.groups;
  cells = cells_of aliases s.items;
  order = map (key_of aliases (cells_of aliases s.items)) s.order;
  distinct = s.distinct;
  limit = s.limit;
}

-- the first column of the first alias, as an output column
abbrev pub first_output : List Alias → OutCol
first_output aliases = record { alias = 0; column = 0; name = spelled aliases first_column }

-- the matches of a statement: a block with one output column and no order
unfoldable pub matches_of : Scope → Statement → Block
matches_of scope s = record {
  aliases = map (use_of scope) s.sources;
  conjuncts = map placed_conjunct (placed_in scope.calls (aliases_in scope s) s);
  output = first_output (aliases_in scope s) ∷ [];
  order = [];
}

-- a shaped statement: its matches, and what is made of them
abbrev pub shaped_of : Scope → Statement → Shaped
shaped_of scope s = record { block = matches_of scope s; shape = shape_in (aliases_in scope s) s }

-- ---- the block of a statement that isn't shaped

-- its output columns are its cells' columns
abbrev pub output_column : Cell → OutCol
output_column cell = record { alias = cell.column.alias; column = cell.column.column; name = cell.name }

-- the column of a cell at a place, and of what is sorted by
abbrev pub column_at : List Cell → ℕ → ColumnOf
column_at cells place = option_map_or (λ (cell : Cell). cell.column) (slice_get cells place) first_column

abbrev pub sort_column : List Cell → SortOn → ColumnOf
sort_column cells (sort.Cell place) = column_at cells place
sort_column cells (sort.Column c) = c

abbrev pub key_by : SortWay → ColumnOf → OrderKey
key_by way c = record { alias = c.alias; column = c.column; way = way }

abbrev pub plain_key : List Cell → ShapeOrder → OrderKey
plain_key cells key = key_by key.way (sort_column cells key.on)

-- the block of a shape without groups, DISTINCT or LIMIT, over these matches
unfoldable pub plain_block : Block → Shape → Block
plain_block matches shape = record {
  aliases = matches.aliases;
  conjuncts = matches.conjuncts;
  output = map output_column shape.cells;
  order = map (plain_key shape.cells) shape.order;
}

-- the block of a statement that has no fault
abbrev pub block_of : Scope → Statement → Block
block_of scope s = plain_block (matches_of scope s) (shape_in (aliases_in scope s) s)
