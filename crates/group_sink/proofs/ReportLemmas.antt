-- The lines of a shaped statement, from columns of cells and a sorted list of groups.
use Rattle.std.proofs.Common.{◌≡◌, ℕ, ◌<◌, Bool, true, false, List, [], ◌∷◌, Option, Some, None, zero, suc, take, length, map, refl, ap, sym, ◌∙◌, arith, subst}
use Rattle.std.specs.Prelude.{All, if◌then◌else◌, slice_index_or}
use Rattle.std.specs.List.{range_with_len}
use Rattle.std.specs.Ordering.{ordering_then}
use Rattle.std.specs.declared.cmp.Ordering.{Ordering}
use Rattle.std.specs.declared.cmp.Ordering.TheVariants.{Equal}
use Rattle.std.proofs.lemmas.List.{length-map}
use Rattle.std.proofs.lemmas.List.Elements.{All-head, All-tail, All-replicate}
use Rattle.std.proofs.lemmas.List.FromFn.{length-range_with_len}
use Rattle.std.proofs.lemmas.List.Sorted.{All-permutation}
use Rattle.std.proofs.lemmas.Simd.{map-map}
use Rattle.sq_value.specs.Order.{ranks_sorted_by}
use Rattle.sq_value.specs.Rank.{Rank, rank_of}
use Rattle.sq_value.specs.Relation.{Relation}
use Rattle.sq_value.specs.declared.value.Value.{Value}
use Rattle.sq_expr.specs.declared.block.Block.{Block}
use Rattle.sq_expr.specs.declared.cond.ColumnOf.{ColumnOf}
use Rattle.sq_expr.specs.declared.shape.Cell.{Cell}
use Rattle.sq_expr.specs.declared.shape.Shape.{Shape}
use Rattle.sq_expr.specs.declared.shape.ShapeOrder.{ShapeOrder}
use Rattle.sq_expr.specs.declared.shape.SortOn.{SortOn}
use Rattle.sq_expr.specs.declared.shape.SortOn.TheVariants as sort
use Rattle.bag_meaning.specs.declared.combo.Combo.{Combo}
use Rattle.bag_meaning.proofs.ListLemmas.{map_agree}
use Rattle.bag_meaning.proofs.RangeLemmas.{All-range}
use Rattle.result_sink.specs.Ready.{rows_of_combo}
use Rattle.group_sink.specs.Cells.{cell_over, is_same_line, rank_of_out, out_of_value, leading}
use Rattle.group_sink.specs.Columns.{Placed, cells_at, placed_by, placed_on, sort_rank, by_sort_keys}
use Rattle.group_sink.specs.Dense.{numbered}
use Rattle.group_sink.specs.Groups.{firsts, groups_of, has_same_keys}
use Rattle.group_sink.specs.Lines.{value_of, scale_of, GroupLine, line_of, cell_of_group, sorted_on, by_line_keys, stably_in, ordered_lines, told_apart, limited, lines_of}
use Rattle.group_sink.specs.Numbers.{member_numbers, group_count}
use Rattle.group_sink.specs.Parts.{value_over}
use Rattle.group_sink.specs.Picked.{picked, AreGroups}
use Rattle.group_sink.specs.declared.column.Column.{Column}
use Rattle.group_sink.specs.declared.line.Out.{Out}
use Rattle.group_sink.specs.declared.line.Out.TheVariants as out
use Rattle.group_sink.specs.declared.sorting.SortKey.{SortKey}
use Rattle.group_sink.proofs.GroupLemmas.{AreGroups-kinds, AreGroups-whole, AreGroups-alone}
use Rattle.group_sink.proofs.KeyLists.{ranks_equal, ranks_none}
use Rattle.group_sink.proofs.LineLemmas.{firsts-map}
use Rattle.group_sink.proofs.PickedLemmas.{picked-map}
use Rattle.group_sink.proofs.StableLemmas.{stably-mapped, stably-agree, IsPermutation-stably}
use Rattle.group_sink.proofs.ViewLemmas.{numbered_seen}

-- the groups of a statement, by their numbers
module _ {X : Type 0} (at : ColumnOf → X → Value) where
  pub AreGroups-of : (grouped : Bool) (keys : List ColumnOf) (xs : List X)
      → AreGroups (member_numbers grouped at keys xs) (group_count grouped keys (member_numbers grouped at keys xs)) xs (groups_of grouped at keys xs)
  AreGroups-of true [] xs =
      AreGroups-whole (numbered (has_same_keys at []) xs) xs (length-map xs _)
      (subst (λ (ns : List ℕ). All (λ (k : ℕ). k ≡ 0) ns) (ranks_none (λ (c : ColumnOf) (x : X). rank_of (at c x)) xs) (All-replicate (λ (k : ℕ). k ≡ 0) (length xs) 0 refl))
  AreGroups-of true (c ∷ keys) xs = AreGroups-kinds (has_same_keys at (c ∷ keys)) (ranks_equal (λ (d : ColumnOf) (x : X). rank_of (at d x)) (c ∷ keys)) xs
  AreGroups-of false keys xs =
      let size : length xs ≡ length (range_with_len 0 (length xs)) = sym (length-range_with_len 0 (length xs)) in
      AreGroups-alone (range_with_len 0 (length xs)) (length (range_with_len 0 (length xs))) xs size (ap (range_with_len 0) size)

-- members are numbered as their rows
pub numbers-rows : (block : Block) (tables : List Relation) (grouped : Bool) (keys : List ColumnOf) (members : List Combo)
    → member_numbers grouped (value_over block tables) keys members ≡ member_numbers grouped (value_of block tables) keys (map (rows_of_combo block) members)
numbers-rows block tables true keys members = sym (numbered_seen (rows_of_combo block) (has_same_keys (value_of block tables) keys) members)
numbers-rows block tables false keys members = ap (range_with_len 0) (sym (length-map members (rows_of_combo block)))

maps_agree_on : {X Y : Type 0} (f g : X → Y) (xs : List X) → All (λ x. f x ≡ g x) xs → map f xs ≡ map g xs
maps_agree_on f g [] h = refl
maps_agree_on {X} {Y} f g (x ∷ xs) h =
    ap (λ (y : Y). y ∷ map f xs) (All-head (λ (z : X). f z ≡ g z) x xs h)
    ∙ ap (λ (r : List Y). g x ∷ r) (maps_agree_on f g xs (All-tail (λ (z : X). f z ≡ g z) x xs h))

-- the order of two groups, by how each is placed
by_placed : List Placed → List Placed → Ordering
by_placed [] ys = Equal
by_placed (x ∷ xs) [] = Equal
by_placed (x ∷ xs) (y ∷ ys) = ordering_then (ranks_sorted_by x.way x.rank y.rank) (by_placed xs ys)

sort-placed : (keys : List SortKey) (x y : ℕ) → by_sort_keys keys x y ≡ by_placed (map (λ k. placed_by k x) keys) (map (λ k. placed_by k y) keys)
unfolding by_placed
sort-placed [] x y = refl
sort-placed (key ∷ keys) x y =
    ap (ordering_then (ranks_sorted_by key.way (placed_by key x).rank (placed_by key y).rank)) (sort-placed keys x y)

module _ (block : Block) (tables : List Relation) (shape : Shape) (members : List Combo) (numbers : List ℕ) (count : ℕ) where
  abbrev rows : List (List ℕ)
  rows = map (rows_of_combo block) members

  abbrev line : ℕ → GroupLine
  line j = line_of block tables shape.cells (picked j numbers (map (rows_of_combo block) members))

  values-picked : (c : ColumnOf) (j : ℕ) → picked j numbers (map (value_over block tables c) members) ≡ map (value_of block tables c) (picked j numbers rows)
  values-picked c j =
      ap (picked j numbers) (sym (map-map (value_of block tables c) (rows_of_combo block) members))
      ∙ sym (picked-map (value_of block tables c) j numbers rows)

  module _ (columns : List Column)
      (each : (j : ℕ) → j < count → cells_at columns j
      ≡ map (λ (cell : Cell). cell_over (scale_of block tables cell.column) cell.agg (picked j numbers (map (value_over block tables cell.column) members))) shape.cells) where
    -- the cells of a group's line
    line-cells : (j : ℕ) → j < count → cells_at columns j ≡ (line j).cells
    line-cells j below =
        each j below
        ∙ map_agree
        (λ (cell : Cell). cell_over (scale_of block tables cell.column) cell.agg (picked j numbers (map (value_over block tables cell.column) members)))
        (cell_of_group block tables (picked j numbers rows))
        (λ (cell : Cell). ap (cell_over (scale_of block tables cell.column) cell.agg) (values-picked cell.column j)) shape.cells

    -- what a line is sorted by
    line-rank : (on : SortOn) (j : ℕ) → j < count → sort_rank block tables members numbers columns on j ≡ rank_of_out (sorted_on block tables on (line j))
    line-rank (sort.Cell place) j below = ap (λ (cells : List Out). rank_of_out (slice_index_or cells place out.Null)) (line-cells j below)
    line-rank (sort.Column c) j below = ap (λ (values : List Value). rank_of_out (out_of_value (leading values))) (values-picked c j)

    line-placed : (order : List ShapeOrder) (x y : ℕ) → x < count → y < count
        → by_placed (map (λ o. placed_on block tables members numbers columns o x) order) (map (λ o. placed_on block tables members numbers columns o y) order)
        ≡ by_line_keys block tables order (line x) (line y)
    unfolding by_placed
    line-placed [] x y in_x in_y = refl
    line-placed (o ∷ order) x y in_x in_y =
        ap (λ (r : Option Rank). ordering_then (ranks_sorted_by o.way r (sort_rank block tables members numbers columns o.on y)) (rest order)) (line-rank o.on x in_x)
        ∙ ap (λ (r : Option Rank). ordering_then (ranks_sorted_by o.way (rank_of_out (sorted_on block tables o.on (line x))) r) (rest order)) (line-rank o.on y in_y)
        ∙ ap (ordering_then (ranks_sorted_by o.way (rank_of_out (sorted_on block tables o.on (line x))) (rank_of_out (sorted_on block tables o.on (line y))))) (line-placed order x y in_x in_y)
      where
        rest : List ShapeOrder → Ordering
        rest os = by_placed (map (λ o. placed_on block tables members numbers columns o x) os) (map (λ o. placed_on block tables members numbers columns o y) os)

    module _ (keys : List SortKey)
        (placed : (j : ℕ) → j < count → map (λ k. placed_by k j) keys ≡ map (λ o. placed_on block tables members numbers columns o j) shape.order) where
      -- groups are in order as their lines
      keys-line : (x y : ℕ) → x < count → y < count → by_sort_keys keys x y ≡ by_line_keys block tables shape.order (line x) (line y)
      keys-line x y in_x in_y =
          sort-placed keys x y
          ∙ ap (λ (ps : List Placed). by_placed ps (map (λ k. placed_by k y) keys)) (placed x in_x)
          ∙ ap (by_placed (map (λ o. placed_on block tables members numbers columns o x) shape.order)) (placed y in_y)
          ∙ line-placed shape.order x y in_x in_y

      ordered-is : (sorted : List ℕ) (groups : List (List (List ℕ))) → groups ≡ map (λ j. picked j numbers rows) (range_with_len 0 count)
          → sorted ≡ stably_in (by_sort_keys keys) (range_with_len 0 count)
          → ordered_lines block tables shape groups ≡ map (cells_at columns) sorted
      ordered-is sorted groups are is =
          ap (λ (gs : List (List (List ℕ))). map (λ (l : GroupLine). l.cells) (stably_in order (map (line_of block tables shape.cells) gs))) are
          ∙ ap (λ (ls : List GroupLine). map (λ (l : GroupLine). l.cells) (stably_in order ls)) (map-map (line_of block tables shape.cells) (λ j. picked j numbers rows) all)
          ∙ ap (map (λ (l : GroupLine). l.cells)) (stably-mapped order line all)
          ∙ ap (λ (js : List ℕ). map (λ (l : GroupLine). l.cells) (map line js)) (sym (stably-agree (by_sort_keys keys) (λ a b. order (line a) (line b)) (λ j. j < count) keys-line all low))
          ∙ ap (λ (js : List ℕ). map (λ (l : GroupLine). l.cells) (map line js)) (sym is)
          ∙ map-map (λ (l : GroupLine). l.cells) line sorted
          ∙ maps_agree_on (λ j. (line j).cells) (cells_at columns) sorted
          (λ k d within. sym (line-cells (slice_index_or sorted k d) (below k d within)))
        where
          order : GroupLine → GroupLine → Ordering
          order = by_line_keys block tables shape.order

          all : List ℕ
          all = range_with_len 0 count

          low : All (λ j. j < count) (range_with_len 0 count)
          low = All-range (λ (j : ℕ). j < count) 0 count (λ k least most. omega (arith, most))

          below : All (λ j. j < count) sorted
          below =
              subst (λ (js : List ℕ). All (λ j. j < count) js) (sym is)
              (All-permutation (λ j. j < count) (range_with_len 0 count) (stably_in (by_sort_keys keys) (range_with_len 0 count)) (IsPermutation-stably (by_sort_keys keys) (range_with_len 0 count)) low)

-- the groups of a statement's members
pub AreGroups-here : (block : Block) (tables : List Relation) (shape : Shape) (members : List Combo) (numbers : List ℕ) (count : ℕ)
    → numbers ≡ member_numbers shape.grouped (value_over block tables) shape.keys members
    → count ≡ group_count shape.grouped shape.keys numbers
    → AreGroups numbers count (map (rows_of_combo block) members) (groups_of shape.grouped (value_of block tables) shape.keys (map (rows_of_combo block) members))
AreGroups-here block tables shape members numbers count numbered counted =
    let rows : List (List ℕ) = map (rows_of_combo block) members in
    let at = value_of block tables in
    let ns : numbers ≡ member_numbers shape.grouped at shape.keys rows = numbered ∙ numbers-rows block tables shape.grouped shape.keys members in
    subst (λ (n : ℕ). AreGroups numbers n rows (groups_of shape.grouped at shape.keys rows)) (sym counted)
    (subst (λ (ms : List ℕ). AreGroups ms (group_count shape.grouped shape.keys ms) rows (groups_of shape.grouped at shape.keys rows)) (sym ns)
    (AreGroups-of at shape.grouped shape.keys rows))

-- the same, where lists were handed on
pub groups-given : (block : Block) (tables : List Relation) (shape : Shape) (members : List Combo) (keys : List ColumnOf) (numbers slice : List ℕ) (count : ℕ)
    → keys ≡ shape.keys → slice ≡ numbers → numbers ≡ member_numbers shape.grouped (value_over block tables) keys members
    → count ≡ group_count shape.grouped keys slice
    → AreGroups numbers count (map (rows_of_combo block) members) (groups_of shape.grouped (value_of block tables) shape.keys (map (rows_of_combo block) members))
groups-given block tables shape members keys numbers slice count same given numbered counted =
    AreGroups-here block tables shape members numbers count
    (numbered ∙ ap (λ (ks : List ColumnOf). member_numbers shape.grouped (value_over block tables) ks members) same)
    (counted ∙ ap (λ (ks : List ColumnOf). group_count shape.grouped ks slice) same ∙ ap (group_count shape.grouped shape.keys) given)

-- the lines that are left
module _ (f : ℕ → List Out) where
  told-map : (distinct : Bool) (js : List ℕ) → told_apart distinct (map f js) ≡ map f (if distinct then firsts (λ x y. is_same_line (f x) (f y)) js else js)
  told-map true js = firsts-map is_same_line f js
  told-map false js = refl

  limited-map : (limit : Option ℕ) (js : List ℕ) → limited limit (map f js) ≡ map f (limited limit js)
  limited-map None js = refl
  limited-map (Some n) js = take_map n js
    where
      take_map : (n : ℕ) (js : List ℕ) → take n (map f js) ≡ map f (take n js)
      take_map zero js = refl
      take_map (suc n) [] = refl
      take_map (suc n) (j ∷ js) = ap (λ (r : List (List Out)). f j ∷ r) (take_map n js)

-- the lines of a statement
pub lines-are : (block : Block) (tables : List Relation) (shape : Shape) (members : List Combo) (numbers : List ℕ) (count : ℕ)
    (columns : List Column) (keys : List SortKey) (sorted kept : List ℕ)
    → numbers ≡ member_numbers shape.grouped (value_over block tables) shape.keys members
    → count ≡ group_count shape.grouped shape.keys numbers
    → ((j : ℕ) → j < count → cells_at columns j
    ≡ map (λ (cell : Cell). cell_over (scale_of block tables cell.column) cell.agg (picked j numbers (map (value_over block tables cell.column) members))) shape.cells)
    → ((j : ℕ) → j < count → map (λ k. placed_by k j) keys ≡ map (λ o. placed_on block tables members numbers columns o j) shape.order)
    → sorted ≡ stably_in (by_sort_keys keys) (range_with_len 0 count)
    → kept ≡ (if shape.distinct then firsts (λ x y. is_same_line (cells_at columns x) (cells_at columns y)) sorted else sorted)
    → map (cells_at columns) (limited shape.limit kept) ≡ lines_of block tables shape (map (rows_of_combo block) members)
unfolding lines_of
lines-are block tables shape members numbers count columns keys sorted kept numbered counted each placed is told =
    let rows : List (List ℕ) = map (rows_of_combo block) members in
    let at = value_of block tables in
    let groups : AreGroups numbers count rows (groups_of shape.grouped at shape.keys rows) = AreGroups-here block tables shape members numbers count numbered counted in
    sym
    (ap (λ (ls : List (List Out)). limited shape.limit (told_apart shape.distinct ls))
    (ordered-is block tables shape members numbers count columns each keys placed sorted (groups_of shape.grouped at shape.keys rows) groups.are is)
    ∙ ap (limited shape.limit) (told-map (cells_at columns) shape.distinct sorted)
    ∙ limited-map (cells_at columns) shape.limit (if shape.distinct then firsts (λ x y. is_same_line (cells_at columns x) (cells_at columns y)) sorted else sorted)
    ∙ ap (λ (js : List ℕ). map (cells_at columns) (limited shape.limit js)) (sym told))
