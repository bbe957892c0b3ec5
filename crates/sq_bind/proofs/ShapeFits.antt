-- The shape of a statement without a fault fits.
use Rattle.std.proofs.Common.{◌≡◌, ℕ, Bool, true, false, List, [], ◌∷◌, length, map, Option, Some, None, refl, ap, sym, subst, ◌∙◌, if◌then◌else◌}
use Rattle.std.specs.Prelude.{◌||◌, IsSome, is_some}
use Rattle.std.specs.List.{flat_map, list_all, AllByRecursion as Each}
use Rattle.std.proofs.lemmas.Bool.{and_parts}
use Rattle.std.proofs.lemmas.List.Elements.{All-from_recursion}
use Rattle.sq_parse.specs.Shaped.{is_grouped}
use Rattle.sq_parse.specs.declared.tree.ColRef.{ColRef}
use Rattle.sq_parse.specs.declared.tree.Items.{Items}
use Rattle.sq_parse.specs.declared.tree.Items.TheVariants as items
use Rattle.sq_parse.specs.declared.tree.Item.{Item}
use Rattle.sq_parse.specs.declared.tree.Statement.{Statement}
use Rattle.sq_expr.specs.Fits.{kind_in, tables_used}
use Rattle.sq_expr.specs.Shapes.{IsColumn, FitsAgg, FitsSort, FitsShape}
use Rattle.sq_expr.specs.declared.cond.ColumnOf.{ColumnOf}
use Rattle.sq_expr.specs.declared.shape.AggKind.{AggKind}
use Rattle.sq_expr.specs.declared.shape.AggKind.TheVariants as agg
use Rattle.sq_expr.specs.declared.shape.Cell.{Cell}
use Rattle.sq_expr.specs.declared.shape.SortOn.{SortOn}
use Rattle.sq_expr.specs.declared.shape.SortOn.TheVariants as sort
use Rattle.sq_expr.specs.declared.shape.ShapeOrder.{ShapeOrder}
use Rattle.sq_bind.specs.Visible.{Alias, meant}
use Rattle.sq_bind.specs.Statement.{Scope, is_settled, unsettled_faults, item_place, item_cells, cells_of, ungrouped_faults, grouped_faults, star_place, grouping_by, grouping_of, first_output, key_of, shape_in, matches_of}
use Rattle.sq_bind.specs.declared.fault.BindFault.TheVariants.{NotGrouped}
use Rattle.sq_bind.proofs.HeldLemmas.{AliasHas, each_append}
use Rattle.sq_bind.proofs.OperandFits.{both_empty}
use Rattle.sq_bind.proofs.BlockFits as fit
use Rattle.sq_bind.proofs.RestFits as there
use Rattle.sq_bind.proofs.RestFits.{each_also}

-- ---- cells of a grouped statement have one value in each group

abbrev pub IsSettled : List ColumnOf → Cell → Type 0
IsSettled keys cell = is_settled keys cell ≡ true

all_settled : (keys : List ColumnOf) (cells : List Cell) → list_all (is_settled keys) cells ≡ true → Each (IsSettled keys) cells
all_settled keys [] e = tt
all_settled keys (c ∷ cells) e =
    let both = and_parts (is_settled keys c) (list_all (is_settled keys) cells) e in
    (both.0, all_settled keys cells both.1)

settled : (keys : List ColumnOf) (at : ℕ) (cells : List Cell) → unsettled_faults keys at cells ≡ [] → Each (IsSettled keys) cells
settled keys at cells e = by (list_all (is_settled keys) cells) refl e
  where
    by : (b : Bool) → list_all (is_settled keys) cells ≡ b → (if b then [] else NotGrouped at ∷ []) ≡ [] → Each (IsSettled keys) cells
    by true is e = all_settled keys cells is
    by false is e = absurd cc

items_settled : (aliases : List Alias) (keys : List ColumnOf) (list : List Item)
    → flat_map (λ (i : Item). unsettled_faults keys (item_place i) (item_cells aliases i)) list ≡ []
    → Each (IsSettled keys) (flat_map (item_cells aliases) list)
items_settled aliases keys [] e = tt
items_settled aliases keys (i ∷ list) e =
    let rest = flat_map (λ (i : Item). unsettled_faults keys (item_place i) (item_cells aliases i)) list in
    let both = both_empty (unsettled_faults keys (item_place i) (item_cells aliases i)) rest e in
    each_append (IsSettled keys) (item_cells aliases i) (flat_map (item_cells aliases) list)
    (settled keys (item_place i) (item_cells aliases i) both.0) (items_settled aliases keys list both.1)

selected_settled : (aliases : List Alias) (keys : List ColumnOf) (star : ℕ) (i : Items) → ungrouped_faults aliases keys star i ≡ []
    → Each (IsSettled keys) (cells_of aliases i)
unfolding cells_of
selected_settled aliases keys star items.Star e = settled keys star (cells_of aliases items.Star) e
selected_settled aliases keys star (items.List list) e = items_settled aliases keys list e

pub grouped_settled : (aliases : List Alias) (s : Statement) → grouped_faults aliases s ≡ [] → is_grouped s ≡ true
    → Each (IsSettled (grouping_of aliases s.groups)) (cells_of aliases s.items)
unfolding grouped_faults
grouped_settled aliases s e is = by (is_grouped s) is e
  where
    by : (b : Bool) → b ≡ true → (if b then ungrouped_faults aliases (grouping_of aliases s.groups) (star_place s.sources) s.items else []) ≡ []
        → Each (IsSettled (grouping_of aliases s.groups)) (cells_of aliases s.items)
    by true t e = selected_settled aliases (grouping_of aliases s.groups) (star_place s.sources) s.items e
    by false t e = absurd cc

-- without columns of GROUP BY it is a set function
counts : (c : Cell) → IsSettled [] c → IsSome c.agg
counts c h = by c.agg h
  where
    by : (o : Option AggKind) → (is_some o || false) ≡ true → IsSome o
    by None h = absurd cc
    by (Some a) h = refl

-- ---- the shape

module _ (scope : Scope) (s : Statement) where
  abbrev uses : List ℕ
  uses = fit.uses scope s

  abbrev aliases : List Alias
  aliases = fit.aliases scope s

  abbrev Holds : Type 0
  Holds = Each (AliasHas (there.HasKindIn scope uses)) aliases

  keys_there : (h : Holds) (groups : List ColRef) → Each (there.IsThere scope uses aliases h) (flat_map (grouping_by aliases) groups)
  keys_there h [] = tt
  keys_there h (c ∷ groups) =
      each_append (there.IsThere scope uses aliases h) (grouping_by aliases c) (flat_map (grouping_by aliases) groups)
      (there.grouping_there scope uses aliases h c (meant aliases c) refl) (keys_there h groups)

  same : tables_used (matches_of scope s) ≡ uses
  unfolding matches_of
  same = fit.tables-used scope s (first_output aliases ∷ []) []

  column_fits : (c : ColumnOf) → IsSome (kind_in scope.tables uses c) → IsColumn scope.tables (matches_of scope s) c
  column_fits c h = subst (λ (ts : List ℕ). IsSome (kind_in scope.tables ts c)) (sym same) h

  agg_fits : (h : Holds) (a : Option AggKind) (c : ColumnOf) → there.IsSummed scope uses aliases h a c → FitsAgg scope.tables (matches_of scope s) a c
  agg_fits h None c k = tt
  agg_fits h (Some agg.CountAll) c k = tt
  agg_fits h (Some agg.Count) c k = tt
  agg_fits h (Some agg.Sum) c k = (k.0, (ap (λ (ts : List ℕ). kind_in scope.tables ts c) same ∙ k.1.0, k.1.1))
  agg_fits h (Some agg.Min) c k = tt
  agg_fits h (Some agg.Max) c k = tt

  sort_fits : (h : Holds) (cells : List Cell) (on : SortOn) → there.OnThere scope uses aliases h cells on → FitsSort scope.tables (matches_of scope s) (length cells) on
  sort_fits h cells (sort.Cell place) k = k
  sort_fits h cells (sort.Column c) k = column_fits c k

  pub shape_fits : (h : Holds) → fit.Faultless scope s h → FitsShape scope.tables (matches_of scope s) (shape_in aliases s)
  unfolding shape_in grouping_of
  shape_fits h fine =
      let cells = cells_of aliases s.items in
      let order = map (key_of aliases cells) s.order in
      let keys = flat_map (grouping_by aliases) s.groups in
      record {
        keys = All-from_recursion (IsColumn scope.tables (matches_of scope s)) keys
            (each_also (there.IsThere scope uses aliases h) (IsColumn scope.tables (matches_of scope s)) keys column_fits (keys_there h s.groups));
        cells = All-from_recursion (λ (c : Cell). IsColumn scope.tables (matches_of scope s) c.column) cells
            (each_also (there.CellThere scope uses aliases h) (λ (c : Cell). IsColumn scope.tables (matches_of scope s) c.column) cells
            (λ c k. column_fits c.column k.0) fine.shown);
        sums = All-from_recursion (λ (c : Cell). FitsAgg scope.tables (matches_of scope s) c.agg c.column) cells
            (each_also (there.CellThere scope uses aliases h) (λ (c : Cell). FitsAgg scope.tables (matches_of scope s) c.agg c.column) cells
            (λ c k. agg_fits h c.agg c.column k.1) fine.shown);
        order = All-from_recursion (λ (k : ShapeOrder). FitsSort scope.tables (matches_of scope s) (length cells) k.on) order
            (each_also (λ (k : ShapeOrder). there.OnThere scope uses aliases h cells k.on)
            (λ (k : ShapeOrder). FitsSort scope.tables (matches_of scope s) (length cells) k.on) order
            (λ k held. sort_fits h cells k.on held) fine.order);
        whole = λ grouped none. All-from_recursion (λ (c : Cell). IsSome c.agg) cells
            (each_also (IsSettled []) (λ (c : Cell). IsSome c.agg) cells counts
            (subst (λ (keys : List ColumnOf). Each (IsSettled keys) cells) none (grouped_settled aliases s fine.grouped grouped)));
      }
