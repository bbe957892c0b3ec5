-- What a run answers: bound statements, each with the tables as they stand for it.
use Rattle.std.specs.Prelude.{List, map}
use Rattle.sq_value.specs.Relation.{Relation}
use Rattle.run_base.specs.declared.bound.Bound.{Bound}

-- a bound statement, and the tables that it is answered over
pub record Item : Type 0 where
  pub bound : Bound
  pub tables : List Relation

abbrev pub item_over : List Relation → Bound → Item
item_over tables bound = record { bound = bound; tables = tables }

-- statements in order, all over the same tables
abbrev pub items_over : List Relation → List Bound → List Item
items_over tables bounds = map (item_over tables) bounds
