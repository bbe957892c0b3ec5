-- Statements over tables, as items.
use Rattle.std.proofs.Common.{◌≡◌, ℕ, ◌<◌, List, length, get_or, sym, ◌∙◌, ap, arith}
use Rattle.std.proofs.lemmas.List.{length-map, get_or-map}
use Rattle.sq_value.specs.Relation.{Relation}
use Rattle.run_base.specs.Items.{item_over, items_over}
use Rattle.run_base.specs.declared.bound.Bound.{Bound}

-- a place of a statement is one of its item
pub item_within : (tables : List Relation) (bounds : List Bound) (i : ℕ) → i < length bounds → i < length (items_over tables bounds)
item_within tables bounds i within = omega (arith, within, length-map bounds (item_over tables))

-- the item of the statement at a place
pub item_at : (tables : List Relation) (bounds : List Bound) (i : ℕ) (b : Bound) → i < length bounds → b ≡ get_or bounds i b
    → item_over tables b ≡ get_or (items_over tables bounds) i (item_over tables b)
item_at tables bounds i b within is =
    ap (item_over tables) is ∙ sym (get_or-map (item_over tables) bounds i b (item_over tables b) within)

-- no statements are no items
pub items_none : (tables : List Relation) (bounds : List Bound) → length bounds ≡ 0 → length (items_over tables bounds) ≡ 0
items_none tables bounds none = omega (arith, none, length-map bounds (item_over tables))
