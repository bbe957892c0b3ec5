-- The shape of a statement without a fault is settled.
use Rattle.std.proofs.Common.{◌≡◌, ◌⊎◌, inl, inr, ℕ, Bool, true, false, List, [], ◌∷◌, ◌++◌, map, Option, Some, None, Result, Ok, Err, refl, ap, sym, subst, ◌∙◌, if◌then◌else◌}
use Rattle.std.specs.Prelude.{◌&&◌, ◌||◌, ◌==◌, not, IsSome, is_some, IfOk}
use Rattle.std.specs.List.{flat_map, list_any, Any, AllByRecursion as Each}
use Rattle.std.proofs.lemmas.Bool.{and_parts, eqb-true}
use Rattle.std.proofs.lemmas.List.Elements.{All-from_recursion}
use Rattle.std.proofs.lemmas.List.Folds.{Any-from_list_any}
use Rattle.sq_parse.specs.Shaped.{is_grouped}
use Rattle.sq_parse.specs.Tree.{column_place}
use Rattle.sq_parse.specs.declared.tree.OrderItem.{OrderItem}
use Rattle.sq_parse.specs.declared.tree.Statement.{Statement}
use Rattle.sq_expr.specs.declared.cond.ColumnOf.{ColumnOf}
use Rattle.sq_expr.specs.declared.shape.AggKind.{AggKind}
use Rattle.sq_expr.specs.declared.shape.Cell.{Cell}
use Rattle.sq_expr.specs.declared.shape.Shape.{Shape}
use Rattle.sq_expr.specs.declared.shape.ShapeOrder.{ShapeOrder}
use Rattle.sq_expr.specs.declared.shape.SortOn.{SortOn}
use Rattle.sq_expr.specs.declared.shape.SortOn.TheVariants as sort
use Rattle.sq_bind.specs.Visible.{Alias}
use Rattle.sq_bind.specs.Condition.{conjunct_faults}
use Rattle.sq_bind.specs.Statement.{Scope, Sorting, is_one_column, is_grouping, is_settled, shows, is_unselected, is_ungrouped, sorted_faults, order_faults, order_on, order_key, key_of, key_faults, sorting_of, selected_faults, parts_of, part_faults, placed_in, group_faults, grouped_faults, shape_in, rest_faults, faults_among, aliases_in}
use Rattle.sq_bind.specs.Settled.{IsKey, IsShownBy, IsCellOr, IsSettledShape}
use Rattle.sq_bind.specs.Told.{IsAnswer}
use Rattle.sq_bind.specs.declared.shaped.Shaped.{Shaped}
use Rattle.sq_bind.specs.declared.fault.BindFault.{BindFault}
use Rattle.sq_bind.specs.declared.fault.BindFault.TheVariants.{NotGrouped, NotSelected}
use Rattle.sq_bind.proofs.OperandFits.{both_empty}
use Rattle.sq_bind.proofs.RestFits.{each_also}
use Rattle.sq_bind.proofs.ShapeFits as fits

any_also : {X : Type 0} (P Q : X → Type 0) (xs : List X) → ((x : X) → P x → Q x) → Any P xs → Any Q xs
any_also P Q xs f (k, x, low, at, p) = (k, x, low, at, f x p)

-- two columns that pass the test are one
one_column : (x y : ColumnOf) → is_one_column x y ≡ true → y ≡ x
one_column x y e =
    let both = and_parts (x.alias == y.alias) (x.column == y.column) e in
    ap (λ (a : ℕ). column a y.column) (sym (eqb-true x.alias y.alias both.0))
    ∙ ap (λ (n : ℕ). column x.alias n) (sym (eqb-true x.column y.column both.1))
  where
    column : ℕ → ℕ → ColumnOf
    column a n = record { alias = a; column = n }

module _ (shape : Shape) where
  key_is : (c : ColumnOf) → is_grouping shape.keys c ≡ true → IsKey shape c
  key_is c e =
      any_also (λ (k : ColumnOf). is_one_column c k ≡ true) (λ (k : ColumnOf). k ≡ c) shape.keys (λ k h. one_column c k h)
      (Any-from_list_any (is_one_column c) shape.keys e)

  shown_is : (c : ColumnOf) → list_any (shows c) shape.cells ≡ true → IsShownBy shape c
  shown_is c e =
      any_also (λ (cell : Cell). shows c cell ≡ true) (λ (cell : Cell). (cell.agg ≡ None) × (cell.column ≡ c)) shape.cells (λ cell h. here cell h)
      (Any-from_list_any (shows c) shape.cells e)
    where
      none : (o : Option AggKind) → not (is_some o) ≡ true → o ≡ None
      none None h = refl
      none (Some a) h = absurd cc

      here : (cell : Cell) → shows c cell ≡ true → (cell.agg ≡ None) × (cell.column ≡ c)
      here cell h =
          let both = and_parts (not (is_some cell.agg)) (is_one_column c cell.column) h in
          (none cell.agg both.0, one_column c cell.column both.1)

  cell_is : (cell : Cell) → is_settled shape.keys cell ≡ true → IsSome cell.agg ⊎ IsKey shape cell.column
  cell_is cell h = by cell.agg h
    where
      by : (o : Option AggKind) → (is_some o || is_grouping shape.keys cell.column) ≡ true → IsSome o ⊎ IsKey shape cell.column
      by None e = inr (key_is cell.column e)
      by (Some a) e = inl refl

-- what lines are sorted by breaks neither rule
KeepsRules : Sorting → SortOn → Type 0
KeepsRules by on = (c : ColumnOf) → on ≡ sort.Column c → (is_unselected by c ≡ false) × (is_ungrouped by c ≡ false)

no_sorted_fault : (by : Sorting) (at : ℕ) (c : ColumnOf) → sorted_faults by at c ≡ [] → (is_unselected by c ≡ false) × (is_ungrouped by c ≡ false)
no_sorted_fault by at c e = first (is_unselected by c) refl e
  where
    second : (b : Bool) → is_ungrouped by c ≡ b → (if b then NotGrouped at ∷ [] else []) ≡ [] → is_ungrouped by c ≡ false
    second true is f = absurd cc
    second false is f = is

    first : (b : Bool) → is_unselected by c ≡ b
        → (if b then NotSelected at ∷ [] else (if is_ungrouped by c then NotGrouped at ∷ [] else [])) ≡ []
        → (is_unselected by c ≡ false) × (is_ungrouped by c ≡ false)
    first true is f = absurd cc
    first false is f = (is, second (is_ungrouped by c) refl f)

key_keeps : (by : Sorting) (at : ℕ) (item : OrderItem) (r : Result SortOn BindFault) → order_faults by at r ≡ [] → KeepsRules by (order_key r item).on
unfolding KeepsRules
key_keeps by at item (Ok (sort.Cell place)) e = λ c is. absurd cc
key_keeps by at item (Ok (sort.Column d)) e = λ c is. no_sorted_fault by at c (ap (λ (x : ColumnOf). sorted_faults by at x) (same d c is) ∙ e)
  where
    same : (d c : ColumnOf) → sort.Column d ≡ sort.Column c → c ≡ d
    same d c is = cc
key_keeps by at item (Err f) e = absurd cc

keys_keep : (aliases : List Alias) (by : Sorting) (order : List OrderItem) → flat_map (key_faults aliases by) order ≡ []
    → Each (λ (k : ShapeOrder). KeepsRules by k.on) (map (key_of aliases by.cells) order)
unfolding key_faults key_of
keys_keep aliases by [] e = tt
keys_keep aliases by (item ∷ order) e =
    let both = both_empty (key_faults aliases by item) (flat_map (key_faults aliases by) order) e in (
      key_keeps by (column_place item.column) item (order_on aliases by.cells item.column) both.0,
      keys_keep aliases by order both.1,
    )

-- a rule that is not broken, where it is asked for
asked : (a b : Bool) → (a && not b) ≡ false → a ≡ true → b ≡ true
asked true true e f = refl
asked true false e f = absurd cc
asked false b e f = absurd cc

module _ (scope : Scope) (s : Statement) where
  abbrev aliases : List Alias
  aliases = aliases_in scope s

  shape_settled_in : rest_faults scope s ≡ [] → IsSettledShape (shape_in aliases s)
  unfolding shape_in faults_among KeepsRules
  shape_settled_in e =
      let calls = scope.calls in
      let by = sorting_of aliases s in
      let shape = shape_in aliases s in
      let order = flat_map (key_faults aliases by) s.order in
      let grouped = grouped_faults aliases s ++ order in
      let groups = flat_map (group_faults aliases) s.groups ++ grouped in
      let counted = conjunct_faults (placed_in calls aliases s) ++ groups in
      let parts = flat_map (part_faults calls) (parts_of aliases s) ++ counted in
      let one = (both_empty (selected_faults aliases s.items) parts e).1 in
      let two = (both_empty (flat_map (part_faults calls) (parts_of aliases s)) counted one).1 in
      let three = (both_empty (conjunct_faults (placed_in calls aliases s)) groups two).1 in
      let four = (both_empty (flat_map (group_faults aliases) s.groups) grouped three).1 in
      let five = both_empty (grouped_faults aliases s) order four in
      let kept = keys_keep aliases by s.order five.1 in
      record {
        cells = λ g. All-from_recursion (λ (cell : Cell). IsSome cell.agg ⊎ IsKey shape cell.column) shape.cells
            (each_also (λ (cell : Cell). is_settled shape.keys cell ≡ true) (λ (cell : Cell). IsSome cell.agg ⊎ IsKey shape cell.column) shape.cells
            (cell_is shape) (fits.grouped_settled aliases s five.0 g));
        order = λ g. All-from_recursion (λ (k : ShapeOrder). IsCellOr (IsKey shape) k.on) shape.order
            (each_also (λ (k : ShapeOrder). KeepsRules by k.on) (λ (k : ShapeOrder). IsCellOr (IsKey shape) k.on) shape.order
            (λ k h c is. key_is shape c (asked (is_grouped s) (is_grouping shape.keys c) (h c is).1 g)) kept);
        shown = λ d. All-from_recursion (λ (k : ShapeOrder). IsCellOr (IsShownBy shape) k.on) shape.order
            (each_also (λ (k : ShapeOrder). KeepsRules by k.on) (λ (k : ShapeOrder). IsCellOr (IsShownBy shape) k.on) shape.order
            (λ k h c is. shown_is shape c (asked s.distinct (list_any (shows c) shape.cells) (h c is).0 d)) kept);
      }

  pub shape_settled : (r : Result Shaped BindFault) → IsAnswer scope s r → IfOk r (λ made. IsSettledShape made.shape)
  shape_settled (Ok made) h = subst (λ (m : Shaped). IsSettledShape m.shape) (sym h.is) (shape_settled_in h.rest)
  shape_settled (Err f) h = tt
