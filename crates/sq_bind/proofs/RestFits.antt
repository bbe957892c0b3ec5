-- What a statement without a fault shows, sorts by and asks for is there.
use Rattle.std.proofs.Common.{◌≡◌, cond, ℕ, zero, suc, ◌+◌, ◌<◌, ◌≤◌, Bool, true, false, List, [], ◌∷◌, length, map, take, filter, Option, Some, None, Result, Ok, Err, refl, ap, subst, ◌∙◌, arith, if◌then◌else◌}
use Rattle.std.specs.Prelude.{All, not, slice_get, slice_index_or, IfSome, IsSome, option_and_then, ⊤}
use Rattle.std.specs.List.{flat_map, list_all, AllByRecursion as Each}
use Rattle.std.specs.Option.{option_map, option_map_or}
use Rattle.std.proofs.lemmas.List.Elements.{All-head, All-tail}
use Rattle.sq_value.specs.Relation.{Relation}
use Rattle.sq_value.specs.declared.value.ColType.{ColType}
use Rattle.sq_value.specs.declared.value.ColType.TheVariants as col
use Rattle.sq_value.specs.declared.table.Column.{Column}
use Rattle.sq_parse.specs.declared.tree.Name.{Name}
use Rattle.sq_parse.specs.declared.tree.ColRef.{ColRef}
use Rattle.sq_parse.specs.declared.tree.Items.{Items}
use Rattle.sq_parse.specs.declared.tree.Items.TheVariants as items
use Rattle.sq_parse.specs.declared.tree.Item.{Item}
use Rattle.sq_parse.specs.declared.tree.Item.TheVariants as item
use Rattle.sq_parse.specs.declared.tree.Source.{Source}
use Rattle.sq_parse.specs.declared.tree.Tree.{Tree}
use Rattle.sq_parse.specs.declared.tree.OrderItem.{OrderItem}
use Rattle.sq_parse.specs.declared.tree.Statement.{Statement}
use Rattle.sq_expr.specs.Fits.{Numbers, class_of, column_kind, kind_in, FitsHere, FitsConjunct, aliases_of}
use Rattle.sq_expr.specs.declared.cond.ColumnOf.{ColumnOf}
use Rattle.sq_expr.specs.declared.cond.Cond.{every-Cond}
use Rattle.sq_expr.specs.declared.block.OutCol.{OutCol}
use Rattle.sq_expr.specs.declared.block.OrderKey.{OrderKey}
use Rattle.sq_expr.specs.declared.shape.AggKind.{AggKind}
use Rattle.sq_expr.specs.declared.shape.AggKind.TheVariants as agg
use Rattle.sq_expr.specs.declared.shape.Cell.{Cell}
use Rattle.sq_expr.specs.declared.shape.SortOn.{SortOn}
use Rattle.sq_expr.specs.declared.shape.SortOn.TheVariants as sort
use Rattle.sq_expr.specs.declared.shape.ShapeOrder.{ShapeOrder}
use Rattle.sq_expr.proofs.OccurLemmas.{every-occurs}
use Rattle.sq_expr.proofs.WeakerLemmas.{every-also}
use Rattle.sq_bind.specs.Visible.{Alias, called, meant}
use Rattle.sq_bind.specs.Operand.{is_text}
use Rattle.sq_bind.specs.Statement.{Scope, table_number, columns_at, aliases_from, cells_from, columns_of, named_column, called_columns, first_column, grouping_column, agg_of, agg_cells, summed_faults, agg_faults, item_cells, item_faults, cells_of, selected_faults, is_same_cell, column_meant, sorted_on, has_name, candidates, first_named, order_on, Sorting, order_faults, order_key, Part, part_seeing, joins_from, parts_of, part_conjuncts, part_faults, placed_in, key_faults, placed_conjunct, key_of, output_column, column_at, sort_column, plain_key}
use Rattle.sq_bind.specs.Sound.{IsSound, IsSoundTree}
use Rattle.sq_bind.specs.declared.conjunct.Placed.{Placed}
use Rattle.sq_bind.specs.declared.visible.Resolved.{Resolved}
use Rattle.sq_bind.specs.declared.fault.BindFault.{BindFault}
use Rattle.sq_bind.specs.declared.fault.BindFault.TheVariants.{AmbiguousColumn, TypeMismatch}
use Rattle.sq_parse.specs.Tree.{column_place}
use Rattle.sq_bind.proofs.HeldLemmas.{at_column, ColumnsHave, AliasHas, meant_has, called_held, each_append, each_flat}
use Rattle.sq_bind.proofs.OperandFits.{both_empty, each_empty}
use Rattle.sq_bind.proofs.TreeFits.{tree_good}
use Rattle.sq_bind.proofs.SpanLemmas.{span_holds}

-- ---- lists

pub each_map : {X Y : Type 0} (P : Y → Type 0) (f : X → Y) (xs : List X) → Each (λ x. P (f x)) xs → Each P (map f xs)
each_map P f [] h = tt
each_map P f (x ∷ xs) h = (h.0, each_map P f xs h.1)

pub each_also : {X : Type 0} (P Q : X → Type 0) (xs : List X) → ((x : X) → P x → Q x) → Each P xs → Each Q xs
each_also P Q [] f h = tt
each_also P Q (x ∷ xs) f h = (f x h.0, each_also P Q xs f h.1)

pub each_both : {X : Type 0} (P Q R : X → Type 0) (xs : List X) → ((x : X) → P x → Q x → R x) → Each P xs → Each Q xs → Each R xs
each_both P Q R [] f h k = tt
each_both P Q R (x ∷ xs) f h k = (f x h.0 k.0, each_both P Q R xs f h.1 k.1)

each_take : {X : Type 0} (P : X → Type 0) (n : ℕ) (xs : List X) → Each P xs → Each P (take n xs)
each_take P zero xs h = tt
each_take P (suc n) [] h = tt
each_take P (suc n) (x ∷ xs) h = (h.0, each_take P n xs h.1)

pub each_filter : {X : Type 0} (P : X → Type 0) (p : X → Bool) (xs : List X) → Each P xs → Each P (filter p xs)
each_filter P p [] h = tt
each_filter P p (x ∷ xs) h = by (p x) (each_filter P p xs h.1)
  where
    by : (b : Bool) → Each P (filter p xs) → Each P (if b then x ∷ filter p xs else filter p xs)
    by true rest = (h.0, rest)
    by false rest = rest

pub map_map : {X Y Z : Type 0} (f : X → Y) (g : Y → Z) (xs : List X) → map g (map f xs) ≡ map (λ x. g (f x)) xs
map_map f g [] = refl
map_map f g (x ∷ xs) = ap (λ zs. g (f x) ∷ zs) (map_map f g xs)

pub none_past : {X : Type 0} (xs : List X) (n : ℕ) → slice_get xs n ≡ None → length xs ≤ n
none_past [] n e = omega arith
none_past (x ∷ xs) zero e = absurd cc
none_past (x ∷ xs) (suc n) e = let h = none_past xs n e in omega (arith, h)

pub get_at : {X : Type 0} (xs : List X) (k : ℕ) (d : X) → k < length xs → slice_get xs k ≡ Some (slice_index_or xs k d)
get_at [] k d low = absurd (omega (arith, low))
get_at (x ∷ xs) zero d low = refl
get_at (x ∷ xs) (suc k) d low = get_at xs k d (omega (arith, low))

pub some_is : {X : Type 0} (o : Option X) (x : X) → o ≡ Some x → IsSome o
some_is None x e = absurd cc
some_is (Some y) x e = refl

pub length-aliases : (scope : Scope) (first : ℕ) (sources : List Source) → length (aliases_from scope first sources) ≡ length sources
length-aliases scope first [] = refl
length-aliases scope first (s ∷ more) = ap (λ n. suc n) (length-aliases scope (first + 1) more)

-- ---- columns of the aliases

kind_at : (tables : List Relation) (table k : ℕ) (c : Column) → slice_get (columns_at tables table) k ≡ Some c → column_kind tables table k ≡ Some c.kind
kind_at tables table k c e = by (slice_get tables table) refl e
  where
    by : (o : Option Relation) → slice_get tables table ≡ o → slice_get (option_map_or (λ (t : Relation). t.columns) o []) k ≡ Some c
        → option_map (λ (c : Column). c.kind) (option_and_then (λ (t : Relation). slice_get t.columns k) (slice_get tables table)) ≡ Some c.kind
    by None is e = absurd cc
    by (Some t) is e =
        ap (λ (o : Option Relation). option_map (λ (c : Column). c.kind) (option_and_then (λ (t : Relation). slice_get t.columns k) o)) is
        ∙ ap (λ (o : Option Column). option_map (λ (c : Column). c.kind) o) e

module _ (scope : Scope) (uses : List ℕ) where
  -- a column of an alias of the statement, and its type
  abbrev pub HasKindIn : ColumnOf → ColType → Type 0
  HasKindIn c kind = (c.alias < 12) × (kind_in scope.tables uses c ≡ Some kind)

  columns_have : (alias table : ℕ) → alias < 12 → slice_get uses alias ≡ Some table → (from : ℕ) (cs : List Column)
      → ((k : ℕ) → slice_get (columns_at scope.tables table) (from + k) ≡ slice_get cs k) → ColumnsHave HasKindIn alias from cs
  columns_have alias table low used' from [] at = tt
  columns_have alias table low used' from (c ∷ cs) at = (
    (
      low,
      ap (λ (o : Option ℕ). option_and_then (λ (table : ℕ). column_kind scope.tables table from) o) used'
          ∙ kind_at scope.tables table from c (ap (slice_get (columns_at scope.tables table)) (omega arith) ∙ at 0),
    ),
    columns_have alias table low used' (from + 1) cs (λ k. ap (slice_get (columns_at scope.tables table)) (omega arith) ∙ at (suc k)),
  )

  pub aliases_have : (first : ℕ) (sources : List Source) → (first + length sources) ≤ 12
      → ((k : ℕ) → slice_get uses (first + k) ≡ slice_get (map (table_number scope) sources) k) → Each (AliasHas HasKindIn) (aliases_from scope first sources)
  aliases_have first [] few at = tt
  aliases_have first (s ∷ more) few at = (
    columns_have first (table_number scope s) (omega (arith, few)) (ap (slice_get uses) (omega arith) ∙ at 0) 0
        (columns_at scope.tables (table_number scope s)) (λ k. ap (slice_get (columns_at scope.tables (table_number scope s))) (omega arith)),
    aliases_have (first + 1) more (omega (arith, few)) (λ k. ap (slice_get uses) (omega arith) ∙ at (suc k)),
  )

-- ---- the second round

module _ (scope : Scope) (uses : List ℕ) (aliases : List Alias) (held : Each (AliasHas (HasKindIn scope uses)) aliases) where
  abbrev has : ColumnOf → ColType → Type 0
  has = HasKindIn scope uses

  -- a column that is there
  abbrev pub IsThere : ColumnOf → Type 0
  IsThere c = IsSome (kind_in scope.tables uses c)

  there : (c : ColumnOf) (k : ColType) → has c k → IsThere c
  there c k h = some_is (kind_in scope.tables uses c) k h.1

  -- what a cell shows is there, and a sum is of numbers
  abbrev pub IsSummed : Option AggKind → ColumnOf → Type 0
  IsSummed None c = ⊤
  IsSummed (Some agg.CountAll) c = ⊤
  IsSummed (Some agg.Count) c = ⊤
  IsSummed (Some agg.Sum) c = (k : ColType) × ((kind_in scope.tables uses c ≡ Some k) × (class_of k ≡ Numbers))
  IsSummed (Some agg.Min) c = ⊤
  IsSummed (Some agg.Max) c = ⊤

  abbrev pub CellThere : Cell → Type 0
  CellThere c = IsThere c.column × IsSummed c.agg c.column

  columns_there : (alias first : ℕ) (cs : List Column) → ColumnsHave has alias first cs → Each CellThere (cells_from alias first cs)
  unfolding cells_from
  columns_there alias first [] h = tt
  columns_there alias first (c ∷ cs) h =
      ((there (at_column has alias first) c.kind h.0, tt), columns_there alias (first + 1) cs h.1)

  alias_there : (a : Alias) → AliasHas has a → Each CellThere (columns_of a)
  alias_there a h = columns_there a.number 0 a.columns h

  meant_is : (c : ColRef) (m : Resolved) → meant aliases c ≡ Ok m → IsThere m.column
  meant_is c m e = there m.column m.kind (meant_has has aliases held c m e)

  meant_there : (name : Option Name) (c : ColRef) (r : Result Resolved BindFault) → meant aliases c ≡ r → Each CellThere (named_column aliases name r)
  meant_there name c (Err f) e = tt
  meant_there None c (Ok m) e = ((meant_is c m e, tt), tt)
  meant_there (Some n) c (Ok m) e = ((meant_is c m e, tt), tt)

  called_there : (name : List ℕ) (o : Option Alias) → called name aliases ≡ o → Each CellThere (called_columns o)
  called_there name None e = tt
  called_there name (Some a) e = alias_there a (called_held has (AliasHas has) name aliases a held e)

  -- a set function's column, where it has no fault
  number_class : (k : ColType) (at : ℕ) → (if is_text k then TypeMismatch at ∷ [] else []) ≡ [] → class_of k ≡ Numbers
  number_class col.Integer at e = refl
  number_class col.Text at e = absurd cc
  number_class (col.Decimal scale) at e = refl

  agg_there : (kind : AggKind) (name : Option Name) (c : ColRef) (r : Result Resolved BindFault) → meant aliases c ≡ r
      → summed_faults kind (column_place c) r ≡ [] → Each CellThere (agg_of kind name r)
  agg_there kind name c (Err f) is e = tt
  agg_there agg.CountAll name c (Ok m) is e = ((meant_is c m is, tt), tt)
  agg_there agg.Count name c (Ok m) is e = ((meant_is c m is, tt), tt)
  agg_there agg.Sum name c (Ok m) is e =
      let has' = meant_has has aliases held c m is in
      ((meant_is c m is, (m.kind, (has'.1, number_class m.kind (column_place c) e))), tt)
  agg_there agg.Min name c (Ok m) is e = ((meant_is c m is, tt), tt)
  agg_there agg.Max name c (Ok m) is e = ((meant_is c m is, tt), tt)

  agg_cells_there : IsThere first_column → (kind : AggKind) (name : Option Name) (c : Option ColRef)
      → agg_faults aliases kind c ≡ [] → Each CellThere (agg_cells aliases kind name c)
  agg_cells_there first kind name None e = ((first, tt), tt)
  agg_cells_there first kind name (Some c) e = agg_there kind name c (meant aliases c) refl e

  item_there : IsThere first_column → (i : Item) → item_faults aliases i ≡ [] → Each CellThere (item_cells aliases i)
  unfolding item_cells item_faults
  item_there first (item.AllOf name) e = called_there name.text (called name.text aliases) refl
  item_there first (item.Col c name) e = meant_there name c (meant aliases c) refl
  item_there first (item.Agg at kind c name) e = agg_cells_there first kind name c e

  items_there : IsThere first_column → (list : List Item) → flat_map (item_faults aliases) list ≡ [] → Each CellThere (flat_map (item_cells aliases) list)
  items_there first [] e = tt
  items_there first (i ∷ list) e =
      let both = both_empty (item_faults aliases i) (flat_map (item_faults aliases) list) e in
      each_append CellThere (item_cells aliases i) (flat_map (item_cells aliases) list) (item_there first i both.0) (items_there first list both.1)

  star_there : (these : List Alias) → Each (AliasHas has) these → Each CellThere (flat_map columns_of these)
  star_there [] h = tt
  star_there (a ∷ these) h = each_append CellThere (columns_of a) (flat_map columns_of these) (alias_there a h.0) (star_there these h.1)

  pub cells_there : IsThere first_column → (i : Items) → selected_faults aliases i ≡ [] → Each CellThere (cells_of aliases i)
  unfolding cells_of selected_faults
  cells_there first items.Star e = star_there aliases held
  cells_there first (items.List list) e = items_there first list e

  -- ORDER BY
  abbrev pub OnThere : List Cell → SortOn → Type 0
  OnThere cells (sort.Cell place) = place < length cells
  OnThere cells (sort.Column c) = IsThere c

  meant_on : (cells : List Cell) (c : ColRef) (r : Result Resolved BindFault) (on : SortOn) → meant aliases c ≡ r → column_meant r ≡ Ok on → OnThere cells on
  meant_on cells c (Ok m) on is e = let same : sort.Column m.column ≡ on = cc in subst (OnThere cells) same (meant_is c m is)
  meant_on cells c (Err f) on is e = absurd cc

  named_within : (name : List ℕ) (cells : List Cell) → 0 < length (filter (has_name name) cells) → first_named cells name < length cells
  named_within name [] h = absurd (omega (arith, h))
  named_within name (c ∷ cells) h = by (has_name name c) (named_within name cells) h
    where
      by : (b : Bool) → (0 < length (filter (has_name name) cells) → first_named cells name < length cells)
          → 0 < length (if b then c ∷ filter (has_name name) cells else filter (has_name name) cells)
          → cond (not b) (1 + first_named cells name) 0 < suc (length cells)
      by true again h = omega arith
      by false again h = let low = again h in omega (arith, low)

  sorted_there : (cells : List Cell) (c : ColRef) (place : ℕ) (xs : List Cell) → (0 < length xs → place < length cells)
      → (on : SortOn) → sorted_on aliases c place xs ≡ Ok on → OnThere cells on
  sorted_there cells c place [] low on e = meant_on cells c (meant aliases c) on refl e
  sorted_there cells c place (x ∷ more) low on e = by (list_all (is_same_cell x) more) e
    where
      by : (b : Bool) → (if b then Ok (sort.Cell place) else Err (AmbiguousColumn (column_place c))) ≡ Ok on → OnThere cells on
      by true e = let same : sort.Cell place ≡ on = cc in subst (OnThere cells) same (low (omega arith))
      by false e = absurd cc

  candidates_within : (cells : List Cell) (alias : Option Name) (name : List ℕ) → 0 < length (candidates cells alias name) → first_named cells name < length cells
  candidates_within cells None name h = named_within name cells h
  candidates_within cells (Some alias) name h = absurd (omega (arith, h))

  pub key_there : (by : Sorting) (key : OrderItem) → key_faults aliases by key ≡ [] → OnThere by.cells (key_of aliases by.cells key).on
  unfolding key_faults key_of order_on
  key_there by key e = at (order_on aliases by.cells key.column) refl e
    where
      at : (r : Result SortOn BindFault) → order_on aliases by.cells key.column ≡ r → order_faults by (column_place key.column) r ≡ []
          → OnThere by.cells (order_key r key).on
      at (Ok on) is e =
          sorted_there by.cells key.column (first_named by.cells key.column.column.text)
          (candidates by.cells key.column.alias key.column.column.text)
          (candidates_within by.cells key.column.alias key.column.column.text) on is
      at (Err f) is e = absurd cc

  -- the output columns and the keys of a statement that isn't shaped
  abbrev pub OutThere : OutCol → Type 0
  OutThere o = IsThere (record { alias = o.alias; column = o.column })

  abbrev pub KeyThere : OrderKey → Type 0
  KeyThere k = IsThere (record { alias = k.alias; column = k.column })

  pub output_there : (cells : List Cell) → Each CellThere cells → Each OutThere (map output_column cells)
  output_there [] h = tt
  output_there (c ∷ cells) h = (h.0.0, output_there cells h.1)

  at_there : IsThere first_column → (cells : List Cell) (place : ℕ) → Each CellThere cells → IsThere (column_at cells place)
  at_there first [] place h = first
  at_there first (c ∷ cells) zero h = h.0.0
  at_there first (c ∷ cells) (suc place) h = at_there first cells place h.1

  sort_there : IsThere first_column → (cells : List Cell) → Each CellThere cells → (on : SortOn) → OnThere cells on → IsThere (sort_column cells on)
  sort_there first cells h (sort.Cell place) on = at_there first cells place h
  sort_there first cells h (sort.Column c) on = on

  pub plain_there : IsThere first_column → (cells : List Cell) → Each CellThere cells → (keys : List ShapeOrder)
      → Each (λ (k : ShapeOrder). OnThere cells k.on) keys → Each KeyThere (map (plain_key cells) keys)
  plain_there first cells h [] k = tt
  plain_there first cells h (key ∷ keys) k = (sort_there first cells h key.on k.0, plain_there first cells h keys k.1)

  -- GROUP BY
  pub grouping_there : (c : ColRef) (r : Result Resolved BindFault) → meant aliases c ≡ r → Each IsThere (grouping_column r)
  grouping_there c (Ok m) e = (meant_is c m e, tt)
  grouping_there c (Err f) e = tt

  -- conditions
  abbrev Seen : Part → Type 0
  Seen p = Each (AliasHas has) p.aliases × IsSoundTree p.tree

  part_seen : (these : List Alias) (o : Option Tree) → Each (AliasHas has) these → IfSome o IsSoundTree → Each Seen (part_seeing these o)
  part_seen these None h sound = tt
  part_seen these (Some tree) h sound = ((h, sound), tt)

  joins_seen : (first : ℕ) (sources : List Source) → All (λ (s : Source). IfSome s.on IsSoundTree) sources → Each Seen (joins_from aliases first sources)
  joins_seen first [] sound = tt
  joins_seen first (s ∷ more) sound =
      let on = λ (s : Source). IfSome s.on IsSoundTree in
      each_append Seen (part_seeing (take (first + 1) aliases) s.on) (joins_from aliases (first + 1) more)
      (part_seen (take (first + 1) aliases) s.on (each_take (AliasHas has) (first + 1) aliases held) (All-head on s more sound))
      (joins_seen (first + 1) more (All-tail on s more sound))

  parts_seen : (s : Statement) → IsSound s → Each Seen (parts_of aliases s)
  unfolding parts_of
  parts_seen s sound =
      each_append Seen (joins_from aliases 0 s.sources) (part_seeing aliases s.condition) (joins_seen 0 s.sources sound.joins)
      (part_seen aliases s.condition held sound.condition)

  abbrev pub Fit : Placed → Type 0
  Fit p = every-Cond (FitsHere scope.calls.kinds has) p.cond

  part_fits : (p : Part) → Seen p → part_faults scope.calls p ≡ [] → Each Fit (part_conjuncts scope.calls p)
  part_fits p h e = (tree_good scope.calls has p.aliases h.0 p.tree h.1 e).conjuncts

  pub placed_fit : (s : Statement) → IsSound s → flat_map (part_faults scope.calls) (parts_of aliases s) ≡ [] → Each Fit (placed_in scope.calls aliases s)
  unfolding placed_in
  placed_fit s sound e =
      each_flat Fit (part_conjuncts scope.calls) (parts_of aliases s)
      (each_both Seen (λ p. part_faults scope.calls p ≡ []) (λ p. Each Fit (part_conjuncts scope.calls p)) (parts_of aliases s) part_fits
      (parts_seen s sound) (each_empty (part_faults scope.calls) (parts_of aliases s) e))

  pub conjunct_fits : (p : Placed) → Fit p → FitsConjunct scope.calls.kinds scope.tables uses (placed_conjunct p)
  conjunct_fits p h = record {
    cond = every-also scope.calls.kinds has (λ c kind. kind_in scope.tables uses c ≡ Some kind) p.cond h (λ c k held fits. fits.1);
    span = span_holds (aliases_of p.cond) (λ a in'. (let o = every-occurs scope.calls.kinds has p.cond h a in' in subst (λ (n : ℕ). n < 12) o.of o.fits.0));
  }
