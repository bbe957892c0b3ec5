-- Blocks and shapes over tables that are exchanged for others of the same columns.
use Rattle.std.proofs.Common.{◌≡◌, ℕ, ◌<◌, List, [], ◌∷◌, length, map, Option, Some, None, refl, sym, ◌∙◌, ap, subst, arith, ◌⊎◌}
use Rattle.std.specs.Prelude.{All, IsSome, IfSome, slice_get, option_and_then}
use Rattle.std.specs.Option.{option_map}
use Rattle.std.proofs.lemmas.Option.{slice_get-map}
use Rattle.std.proofs.lemmas.List.{length-map}
use Rattle.std.proofs.lemmas.List.Elements.{All-weaker}
use mathlib.Core.Path.{fun_ext}
use Rattle.sq_value.specs.Relation.{Relation}
use Rattle.sq_value.specs.declared.predicate.Kinds.{Kinds}
use Rattle.sq_value.specs.declared.table.Column.{Column}
use Rattle.sq_value.specs.declared.value.ColType.{ColType}
use Rattle.sq_expr.specs.Fits.{FitsAlias, FitsConjunct, FitsHere, HasClass, IsFit, Numbers, column_kind, kind_in, tables_used}
use Rattle.sq_expr.specs.Shapes.{FitsAgg, FitsShape, FitsSort}
use Rattle.sq_expr.specs.declared.block.AliasUse.{AliasUse}
use Rattle.sq_expr.specs.declared.block.Block.{Block}
use Rattle.sq_expr.specs.declared.block.Conjunct.{Conjunct}
use Rattle.sq_expr.specs.declared.block.OrderKey.{OrderKey}
use Rattle.sq_expr.specs.declared.block.OutCol.{OutCol}
use Rattle.sq_expr.specs.declared.cond.ColumnOf.{ColumnOf}
use Rattle.sq_expr.specs.declared.cond.Cond.{every-Cond}
use Rattle.sq_expr.specs.declared.shape.AggKind.{AggKind}
use Rattle.sq_expr.specs.declared.shape.AggKind.TheVariants as agg
use Rattle.sq_expr.specs.declared.shape.Cell.{Cell}
use Rattle.sq_expr.specs.declared.shape.Shape.{Shape}
use Rattle.sq_expr.specs.declared.shape.ShapeOrder.{ShapeOrder}
use Rattle.sq_expr.specs.declared.shape.SortOn.{SortOn}
use Rattle.sq_expr.specs.declared.shape.SortOn.TheVariants as sort
use Rattle.run_base.specs.Runnable.{IsRunnable, IsShapeFor}
use Rattle.run_base.specs.declared.bound.Bound.{Bound}

-- the headings of tables
abbrev headings : List Relation → List (List Column)
headings tables = map (λ (t : Relation). t.columns) tables

-- the type of a column by the headings alone
abbrev kind_by : List (List Column) → ℕ → ℕ → Option ColType
kind_by hs table column = option_map (λ (c : Column). c.kind) (option_and_then (λ (h : List Column). slice_get h column) (slice_get hs table))

by_headings : (tables : List Relation) (table column : ℕ) → column_kind tables table column ≡ kind_by (headings tables) table column
by_headings tables table column =
    at (slice_get tables table)
    ∙ ap (λ (o : Option (List Column)). option_map (λ (c : Column). c.kind) (option_and_then (λ (h : List Column). slice_get h column) o))
    (sym (slice_get-map (λ (t : Relation). t.columns) tables table))
  where
    at : (o : Option Relation) → option_map (λ (c : Column). c.kind) (option_and_then (λ (t : Relation). slice_get t.columns column) o)
        ≡ option_map (λ (c : Column). c.kind)
        (option_and_then (λ (h : List Column). slice_get h column) (option_map (λ (t : Relation). t.columns) o))
    at None = refl
    at (Some t) = refl

-- a type, by what tells the types of columns
abbrev Typing : Type 0
Typing = ℕ → ℕ → Option ColType

same_kinds : (tables other : List Relation) → headings tables ≡ headings other → ◌≡◌ {A = Typing} (column_kind tables) (column_kind other)
same_kinds tables other e =
    fun_ext (λ (table : ℕ). fun_ext (λ (column : ℕ).
    by_headings tables table column ∙ ap (λ (hs : List (List Column)). kind_by hs table column) e ∙ sym (by_headings other table column)))

same_length : (tables other : List Relation) → headings tables ≡ headings other → length tables ≡ length other
same_length tables other e =
    sym (length-map tables (λ (t : Relation). t.columns)) ∙ ap (λ (hs : List (List Column)). length hs) e ∙ length-map other (λ (t : Relation). t.columns)

-- the type of a column of an alias
abbrev kind_as : Typing → List ℕ → ColumnOf → Option ColType
kind_as typing uses c = option_and_then (λ (table : ℕ). typing table c.column) (slice_get uses c.alias)

module _ (kinds : ℕ → Option Kinds) (tables other : List Relation) (e : headings tables ≡ headings other) where
  typed : ◌≡◌ {A = Typing} (column_kind tables) (column_kind other)
  typed = same_kinds tables other e

  alias_fits : (u : AliasUse) → FitsAlias tables u → FitsAlias other u
  alias_fits u h = record {
    table = subst (λ (n : ℕ). u.table < n) (same_length tables other e) h.table;
    reached = h.reached;
    look_up = subst (λ (t : Typing). IfSome u.access.look_up (λ column. IsSome (t u.table column))) typed h.look_up;
  }

  conjunct_fits : (uses : List ℕ) (c : Conjunct) → FitsConjunct kinds tables uses c → FitsConjunct kinds other uses c
  conjunct_fits uses c h = record {
    cond = subst (λ (t : Typing). every-Cond (FitsHere kinds (λ x kind. kind_as t uses x ≡ Some kind)) c.cond) typed h.cond;
    span = h.span;
  }

  column_fits : (uses : List ℕ) (c : ColumnOf) → IsSome (kind_in tables uses c) → IsSome (kind_in other uses c)
  column_fits uses c h = subst (λ (t : Typing). IsSome (kind_as t uses c)) typed h

  block_fits : (block : Block) → IsFit kinds tables block → IsFit kinds other block
  block_fits block h =
      let uses = tables_used block in
      record {
        some_alias = h.some_alias;
        few_aliases = h.few_aliases;
        aliases = All-weaker (FitsAlias tables) (FitsAlias other) alias_fits block.aliases h.aliases;
        few_conjuncts = h.few_conjuncts;
        conjuncts = All-weaker (FitsConjunct kinds tables uses) (FitsConjunct kinds other uses) (conjunct_fits uses) block.conjuncts h.conjuncts;
        some_output = h.some_output;
        output = All-weaker _ (λ (o : OutCol). IsSome (kind_in other uses (record { alias = o.alias; column = o.column })))
            (λ o k. column_fits uses (record { alias = o.alias; column = o.column }) k) block.output h.output;
        order = All-weaker _ (λ (o : OrderKey). IsSome (kind_in other uses (record { alias = o.alias; column = o.column })))
            (λ o k. column_fits uses (record { alias = o.alias; column = o.column }) k) block.order h.order;
      }

  agg_fits : (block : Block) (a : Option AggKind) (c : ColumnOf) → FitsAgg tables block a c → FitsAgg other block a c
  agg_fits block None c h = tt
  agg_fits block (Some agg.CountAll) c h = tt
  agg_fits block (Some agg.Count) c h = tt
  agg_fits block (Some agg.Sum) c h =
      subst (λ (t : Typing). HasClass (λ x kind. kind_as t (tables_used block) x ≡ Some kind) Numbers c) typed h
  agg_fits block (Some agg.Min) c h = tt
  agg_fits block (Some agg.Max) c h = tt

  sort_fits : (block : Block) (cells : ℕ) (s : SortOn) → FitsSort tables block cells s → FitsSort other block cells s
  sort_fits block cells (sort.Cell place) h = h
  sort_fits block cells (sort.Column c) h = column_fits (tables_used block) c h

  shape_fits : (block : Block) (shape : Shape) → FitsShape tables block shape → FitsShape other block shape
  shape_fits block shape h =
      let uses = tables_used block in
      record {
        keys = All-weaker _ (λ (c : ColumnOf). IsSome (kind_in other uses c)) (column_fits uses) shape.keys h.keys;
        cells = All-weaker _ (λ (cell : Cell). IsSome (kind_in other uses cell.column)) (λ cell k. column_fits uses cell.column k) shape.cells h.cells;
        sums = All-weaker _ (λ (cell : Cell). FitsAgg other block cell.agg cell.column) (λ cell k. agg_fits block cell.agg cell.column k) shape.cells h.sums;
        order = All-weaker _ (λ (key : ShapeOrder). FitsSort other block (length shape.cells) key.on) (λ key k. sort_fits block (length shape.cells) key.on k)
            shape.order h.order;
        whole = h.whole;
      }

  shaped_fits : (block : Block) (o : Option Shape) → IfSome o (IsShapeFor tables block) → IfSome o (IsShapeFor other block)
  shaped_fits block None h = tt
  shaped_fits block (Some shape) h = record { unordered = h.unordered; fits = shape_fits block shape h.fits }

  pub still_runnable : (bound : Bound) → IsRunnable kinds tables bound → IsRunnable kinds other bound
  still_runnable bound h = record {
    fits = block_fits bound.block h.fits;
    reachable = h.reachable;
    shaped = shaped_fits bound.block bound.shape h.shaped;
  }
